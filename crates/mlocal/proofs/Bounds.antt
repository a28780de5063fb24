-- SPDX-License-Identifier: Apache-2.0
-- The lists of subscripts between two bounds.
use Rattle.mlocal.proofs.LocalWords.{◌≡◌, ℕ, ◌<◌, Bool, true, false, not, ◌&&◌, List, [], ◌∷◌, ◌++◌, length, drop, All, Option, Some, None, refl, sym, ap, ◌∙◌}
use Rattle.mlocal.proofs.LocalWords.{arith, append_assoc, append-nil, ℤ, slice_get, cond, Ordering, Less, Equal, Greater, false_from_ne_true, slice_cmp}
use Rattle.mlocal.proofs.LocalWords.{bytes_decides, ordering_then, ordering_reverse, and-true, nat_tests, tied_itself, All-head, All-tail, All-drop, Text}
use Rattle.mlocal.proofs.LocalWords.{canonical_value, Other, place, place_by, place_cmp, text_cmp, subscripts_cmp, significant_digits, round, round_size}
use Rattle.mlocal.proofs.LocalWords.{nearest, rounding_unit, digits_before, text_eq, is_within, is_before, text_cmp_total, text_cmp_exact, IsSub, AreSubs}
use Rattle.mlocal.proofs.LocalWords.{beyond, behind_below, is_between, is_from, passes, has_child, nat_cmp, is_lt, is_le}
use Rattle.std.specs.Fmt.{digits}
use Rattle.mspec.specs.NumberText.{numeric_value, literal_size, size_text}
pub use Rattle.mkey.proofs.Children.{at_front, empty_first}

abbrev C : Text → Text → Ordering
C = text_cmp significant_digits

abbrev R : List Text → List Text → Ordering
R = subscripts_cmp significant_digits

-- ---- what two bounds begin with alike

pub not_same : (x y : Text) (o : Ordering) → C x y ≡ o → (o ≡ Equal → ⊥) → text_eq x y ≡ false
not_same x y o e other = false_from_ne_true (text_eq x y) (λ t. other (sym e ∙ ap (C x) (sym ((bytes_decides x y).0 t)) ∙ tied_itself (text_cmp_total significant_digits) x))

-- by a test that says where a range starts: it passes what is less, and not what is greater
module _ (starts : Ordering → Bool) (less : starts Less ≡ true) (greater : starts Greater ≡ false) where
  step : (x y : Text) (o : Ordering) → C x y ≡ o → (a b : Ordering) (w i : Bool) → (starts a && not (is_le b)) ≡ (w && i) → (starts (ordering_then o a) && not (is_le (ordering_then o b))) ≡ ((text_eq x y && w) && i)
  step x y Less e a b w i h = rw less (ap (λ t. (t && w) && i) (sym (not_same x y Less e (λ n. cc))))
  step x y Equal e a b w i h = h ∙ ap (λ t. (t && w) && i) (sym ((bytes_decides x y).1 (text_cmp_exact significant_digits x y e)))
  step x y Greater e a b w i h = rw greater (ap (λ t. (t && w) && i) (sym (not_same x y Greater e (λ n. cc))))

  front : (xs low high ys : List Text) → (starts (R (xs ++ low) ys) && not (is_le (R (xs ++ high) ys))) ≡ (is_within xs ys && (starts (R low (drop (length xs) ys)) && not (is_le (R high (drop (length xs) ys)))))
  front [] low high ys = refl
  front (x ∷ xs) low high [] = rw greater refl
  front (x ∷ xs) low high (y ∷ ys) = step x y (C x y) refl (R (xs ++ low) ys) (R (xs ++ high) ys) _ _ (front xs low high ys)

between-front : (xs low high ys : List Text) → is_between (xs ++ low) (xs ++ high) ys ≡ (is_within xs ys && is_between low high (drop (length xs) ys))
between-front = front is_lt refl refl

from-front : (xs low high ys : List Text) → is_from (xs ++ low) (xs ++ high) ys ≡ (is_within xs ys && is_from low high (drop (length xs) ys))
from-front = front is_le refl refl

cmp-front : (k xs ys : List Text) → R (k ++ xs) (k ++ ys) ≡ R xs ys
cmp-front [] xs ys = refl
cmp-front (x ∷ k) xs ys = ap (λ o. ordering_then o (R (k ++ xs) (k ++ ys))) (tied_itself (text_cmp_total significant_digits) x) ∙ cmp-front k xs ys

-- ---- the text after all subscripts

beyond_place : place significant_digits beyond ≡ Other beyond
unfolding canonical_value numeric_value literal_size round round_size nearest rounding_unit digits_before size_text digits
beyond_place = refl

above_ascii : (c : ℕ) → c < 128 → nat_cmp 254 c ≡ Greater
above_ascii c h = grind (arith, nat_tests)

pub beyond_last : (s : Text) → IsSub s → C beyond s ≡ Greater
beyond_last [] sub = absurd (omega (arith, sub.0.some))
beyond_last (c ∷ s) sub = ap (λ p. place_cmp p (place significant_digits (c ∷ s))) beyond_place ∙ by_value (canonical_value significant_digits (c ∷ s))
  where
    by_value : (o : Option ℤ) → place_cmp (Other beyond) (place_by (c ∷ s) o) ≡ Greater
    by_value (Some u) = refl
    by_value None = ap (λ o. ordering_then o (slice_cmp nat_cmp [] s)) (above_ascii c (All-head (λ k. k < 128) c s sub.1))

-- ---- what stands between the bounds, by its first subscript

all_between : (p : Text → Bool) → ((s : Text) → IsSub s → p s ≡ true) → (d : List Text) → All IsSub d → is_between [] (beyond ∷ []) d ≡ passes p (slice_get d 0)
all_between p every [] all = refl
all_between p every (c ∷ d) all =
    let sub : IsSub c = All-head IsSub c d all in
    ap (λ o. not (is_le (ordering_then o (R [] d)))) (beyond_last c sub) ∙ sym (every c sub)

beyond_behind : (d : List Text) → All IsSub d → R (beyond ∷ []) d ≡ Greater
beyond_behind [] all = refl
beyond_behind (c ∷ d) all = ap (λ o. ordering_then o (R [] d)) (beyond_last c (All-head IsSub c d all))

is_less : (o : Ordering) → (is_lt (ordering_then o Greater) && true) ≡ is_lt o
is_less Less = refl
is_less Equal = refl
is_less Greater = refl

behind_between : (x : Text) (d : List Text) → All IsSub d → is_between (x ∷ beyond ∷ []) (beyond ∷ []) d ≡ passes (is_before x) (slice_get d 0)
behind_between x [] all = refl
behind_between x (c ∷ d) all =
    ap (λ o. is_lt (ordering_then (C x c) (R (beyond ∷ []) d)) && not (is_le (ordering_then o (R [] d)))) (beyond_last c (All-head IsSub c d all))
    ∙ ap (λ o. is_lt (ordering_then (C x c) o) && true) (beyond_behind d (All-tail IsSub c d all))
    ∙ is_less (C x c)

is_greater : (o : Ordering) (d : List Text) → not (is_le (ordering_then o (R [] d))) ≡ is_lt (ordering_reverse o)
is_greater Less d = refl
is_greater Equal [] = refl
is_greater Equal (c ∷ d) = refl
is_greater Greater d = refl

before_between : (x : Text) (d : List Text) → is_between [] (x ∷ []) d ≡ passes (λ c. is_before c x) (slice_get d 0)
before_between x [] = refl
before_between x (c ∷ d) = is_greater (C x c) d ∙ ap is_lt (sym ((text_cmp_total significant_digits).antisymm c x))

-- ---- the subscript that follows a list

passes_both : (p : Text → Bool) (b : Bool) (o : Option Text) → (b && passes p o) ≡ passes p (cond b o None)
passes_both p true o = refl
passes_both p false o = refl

child-drop : (p : Text → Bool) (xs ys : List Text) → (is_within xs ys && passes p (slice_get (drop (length xs) ys) 0)) ≡ has_child p xs ys
child-drop p xs ys = ap (λ o. is_within xs ys && passes p o) (sym (at_front ys (length xs))) ∙ passes_both p (is_within xs ys) (slice_get ys (length xs))

subs_behind : (xs ys : List Text) → AreSubs ys → All IsSub (drop (length xs) ys)
subs_behind xs ys subs = All-drop IsSub (length xs) ys (λ k d inside. (subs.0.each k d inside, subs.1 k d inside))

-- those below a list, if each subscript passes the test
pub below_all : (p : Text → Bool) → ((s : Text) → IsSub s → p s ≡ true) → (xs ys : List Text) → AreSubs ys → is_between xs (behind_below xs) ys ≡ has_child p xs ys
below_all p every xs ys subs =
    ap (λ low. is_between low (behind_below xs) ys) (sym (append-nil xs))
    ∙ between-front xs [] (beyond ∷ []) ys
    ∙ ap (λ b. is_within xs ys && b) (all_between p every (drop (length xs) ys) (subs_behind xs ys subs))
    ∙ child-drop p xs ys

-- those whose subscript there comes after another
pub below_behind : (xs : List Text) (x : Text) (ys : List Text) → AreSubs ys → is_between (behind_below (xs ++ x ∷ [])) (behind_below xs) ys ≡ has_child (is_before x) xs ys
below_behind xs x ys subs =
    ap (λ low. is_between low (behind_below xs) ys) (append_assoc xs (x ∷ []) (beyond ∷ []))
    ∙ between-front xs (x ∷ beyond ∷ []) (beyond ∷ []) ys
    ∙ ap (λ b. is_within xs ys && b) (behind_between x (drop (length xs) ys) (subs_behind xs ys subs))
    ∙ child-drop (is_before x) xs ys

-- those whose subscript there comes before another
pub below_before : (xs : List Text) (x : Text) (ys : List Text) → is_between xs (xs ++ x ∷ []) ys ≡ has_child (λ c. is_before c x) xs ys
below_before xs x ys =
    ap (λ low. is_between low (xs ++ x ∷ []) ys) (sym (append-nil xs))
    ∙ between-front xs [] (x ∷ []) ys
    ∙ ap (λ b. is_within xs ys && b) (before_between x (drop (length xs) ys))
    ∙ child-drop (λ c. is_before c x) xs ys

-- ---- a node, and what is below it

all_from : (d : List Text) → All IsSub d → is_from [] (beyond ∷ []) d ≡ true
all_from [] all = refl
all_from (c ∷ d) all = ap (λ o. not (is_le (ordering_then o (R [] d)))) (beyond_last c (All-head IsSub c d all))

-- those that begin with a list
pub from_within : (xs ys : List Text) → AreSubs ys → is_from xs (behind_below xs) ys ≡ is_within xs ys
from_within xs ys subs =
    ap (λ low. is_from low (behind_below xs) ys) (sym (append-nil xs))
    ∙ from-front xs [] (beyond ∷ []) ys
    ∙ ap (λ b. is_within xs ys && b) (all_from (drop (length xs) ys) (subs_behind xs ys subs))
    ∙ and-true (is_within xs ys)

-- ---- what has more subscripts comes after

pub more_behind : (xs : List Text) (x : Text) (ys : List Text) → R xs (xs ++ x ∷ ys) ≡ Less
more_behind xs x ys = ap (λ k. R k (xs ++ x ∷ ys)) (sym (append-nil xs)) ∙ cmp-front xs [] (x ∷ ys)
