-- SPDX-License-Identifier: Apache-2.0
-- Which keys stand between bounds that begin with a node's key.
use Rattle.mglobal.proofs.GlobalWords.{ℕ, ◌≡◌, ◌<◌, Bool, true, false, nat_eq, ◌&&◌, Option, List, [], ◌∷◌, ◌++◌, length, drop, refl, sym, ◌∙◌, ap, arith}
use Rattle.mglobal.proofs.GlobalWords.{append-nil, ℤ, slice_get, slice_cmp, starts_with, nat_cmp, is_le, is_lt, ordering_then, Ordering, Less, Equal, Greater}
use Rattle.mglobal.proofs.GlobalWords.{All-head, All-drop, is_between, is_node_within, subscript_by, subscript_bytes, subscripts_bytes, key_bytes, NoneEmpty}
use Rattle.mglobal.proofs.GlobalWords.{Text, Node, canonical_value, text_cmp, significant_digits, is_before, subscript_order, passes, child_under, starts_node}
use Rattle.mglobal.proofs.GlobalWords.{key_behind, within_parts, child_within, child_without, child_is}

abbrev pub key : Node → List ℕ
key = key_bytes significant_digits

abbrev pub bytes : List Text → List ℕ
bytes = subscripts_bytes significant_digits

-- ---- what two bounds begin with alike

step : (c d : ℕ) (a b : Ordering) (w i : Bool) → (is_le a && is_lt b) ≡ (w && i) → (is_le (ordering_then (nat_cmp c d) a) && is_lt (ordering_then (nat_cmp d c) b)) ≡ ((nat_eq c d && w) && i)
step c d a b w i h = grind arith

pub between_front : (k low high y : List ℕ) → is_between (k ++ low) (k ++ high) y ≡ (starts_with nat_eq y k && is_between low high (drop (length k) y))
between_front [] low high y = refl
between_front (c ∷ k) low high [] = refl
between_front (c ∷ k) low high (d ∷ y) = step c d (slice_cmp nat_cmp (k ++ low) y) (slice_cmp nat_cmp y (k ++ high)) _ _ (between_front k low high y)

-- ---- of keys

module _ (n m : Node) (some_n : NoneEmpty n.subscripts) (some_m : NoneEmpty m.subscripts) (low high : List ℕ) (p : Text → Bool)
    (rest : (more : List Text) → NoneEmpty more → is_between low high (bytes more) ≡ passes p (slice_get more 0)) where
  abbrev behind : List Text
  behind = drop (length n.subscripts) m.subscripts

  some_behind : NoneEmpty behind
  some_behind = All-drop (λ s. 0 < length s) (length n.subscripts) m.subscripts some_m

  starts : starts_with nat_eq (key m) (key n) ≡ is_node_within n m
  starts = starts_node n m some_n some_m _ refl

  by_within : (b : Bool) → is_node_within n m ≡ b → (b && is_between low high (drop (length (key n)) (key m))) ≡ passes p (child_under n m)
  by_within true e =
      ap (is_between low high) (key_behind n m e) ∙ rest behind some_behind
      ∙ ap (passes p) (sym (child_within n m e ∙ child_is n.subscripts m.subscripts (within_parts n m e).1))
  by_within false e = ap (passes p) (sym (child_without n m e))

  pub keys_between : is_between (key n ++ low) (key n ++ high) (key m) ≡ passes p (child_under n m)
  keys_between = grind (arith, between_front, starts, by_within)

-- ---- of the bytes of subscripts

-- a subscript's bytes begin with 1 or 2
from_one : (s : Text) (o : Option ℤ) (x : List ℕ) → is_le (slice_cmp nat_cmp (1 ∷ []) (subscript_by s o ++ x)) ≡ true
from_one s o x = grind arith

pub before_three : (s : Text) (o : Option ℤ) (x : List ℕ) → is_lt (slice_cmp nat_cmp (subscript_by s o ++ x) (3 ∷ [])) ≡ true
before_three s o x = grind arith

three_last : (more : List Text) → slice_cmp nat_cmp (3 ∷ []) (bytes more) ≡ Greater
three_last [] = refl
three_last (c ∷ more) = grind arith

pub both : (a b : Bool) → a ≡ true → b ≡ true → (a && b) ≡ true
both a b h e = grind arith

one_side : (a b : Bool) → a ≡ true → (a && b) ≡ b
one_side a b h = grind arith

other_side : (a b : Bool) → b ≡ true → (a && b) ≡ a
other_side a b h = grind arith

-- all of them
pub all_between : (p : Text → Bool) → ((s : Text) → 0 < length s → p s ≡ true) → (more : List Text) → NoneEmpty more → is_between (1 ∷ []) (3 ∷ []) (bytes more) ≡ passes p (slice_get more 0)
all_between p every [] some = refl
all_between p every (c ∷ more) some =
    both _ _ (from_one c (canonical_value significant_digits c) (bytes more)) (before_three c (canonical_value significant_digits c) (bytes more))
    ∙ sym (every c (All-head (λ s. 0 < length s) c more some))

-- those after x, and all that is below x
pub behind_between : (x : Text) → 0 < length x → (more : List Text) → NoneEmpty more → is_between (subscript_bytes significant_digits x ++ 3 ∷ []) (3 ∷ []) (bytes more) ≡ passes (is_before x) (slice_get more 0)
behind_between x some_x [] some = grind (arith, canonical_value significant_digits x)
behind_between x some_x (c ∷ more) some =
    other_side _ _ (before_three c (canonical_value significant_digits c) (bytes more))
    ∙ ap is_le (subscript_order significant_digits x c (3 ∷ []) (bytes more) some_x (All-head (λ s. 0 < length s) c more some))
    ∙ ap (λ o. is_le (ordering_then (text_cmp significant_digits x c) o)) (three_last more)
    ∙ by_order (text_cmp significant_digits x c)
  where
    by_order : (o : Ordering) → is_le (ordering_then o Greater) ≡ is_lt o
    by_order o = grind arith

-- those before x
pub before_between : (x : Text) → 0 < length x → (more : List Text) → NoneEmpty more → is_between (1 ∷ []) (subscript_bytes significant_digits x) (bytes more) ≡ passes (λ c. is_before c x) (slice_get more 0)
before_between x some_x [] some = refl
before_between x some_x (c ∷ more) some =
    one_side _ _ (from_one c (canonical_value significant_digits c) (bytes more))
    ∙ ap (λ h. is_lt (slice_cmp nat_cmp (subscript_bytes significant_digits c ++ bytes more) h)) (sym (append-nil (subscript_bytes significant_digits x)))
    ∙ ap is_lt (subscript_order significant_digits c x (bytes more) [] (All-head (λ s. 0 < length s) c more some) some_x)
    ∙ by_order (text_cmp significant_digits c x) (bytes more)
  where
    by_order : (o : Ordering) (y : List ℕ) → is_lt (ordering_then o (slice_cmp nat_cmp y [])) ≡ is_lt o
    by_order Less y = refl
    by_order Equal [] = refl
    by_order Equal (d ∷ y) = refl
    by_order Greater y = refl
