-- SPDX-License-Identifier: Apache-2.0
-- Bytes of lists of subscripts that begin alike.
use Rattle.mkey.proofs.KeyWords.{ℕ, suc, ◌≡◌, ◌<◌, ◌++◌, Bool, true, nat_eq, List, [], ◌∷◌, length, drop, Option, Some, None, MatchOption, refl, sym, ◌∙◌, ap}
use Rattle.mkey.proofs.KeyWords.{ap₂, arith, slice_get, bytes_decides, slice_cmp, starts_with, nat_cmp, is_ne, Ordering, drop-append_seam, Decides-eqb}
use Rattle.mkey.proofs.KeyWords.{nat_tests, flat_map-append, All-push, starts_is, subscript_bytes, subscripts_bytes, NoneEmpty, canonical_value, subscripts_cmp}
use Rattle.mkey.proofs.KeyWords.{significant_digits, round, round_size, nearest, rounding_unit, digits_before, numeric_value, literal_size, size_text}
use Rattle.mkey.proofs.KeyWords.{is_within, child_of, tag_of, subscripts_order, subscripts_split, subscript_split, BeginsWithNo, IsSub, AreSubs, head_number}
use Rattle.mkey.proofs.KeyWords.{IsSubsKeyOf, beyond, behind_below, ◌==◌, false, if◌then◌else◌, Text, IsFirst}
use Rattle.std.specs.Fmt.{digits}
use Rattle.mkey.proofs.Children.{at_front}
use Rattle.mkey.proofs.Heads.{AreBytes, head_decides}
use Rattle.mkey.proofs.SubscriptFronts.{nothing_begins}
use Rattle.mkey.proofs.SubscriptLists.{some_all, sub_behind}

pub same_truth : (a b : Bool) → (a ≡ true → b ≡ true) → (b ≡ true → a ≡ true) → a ≡ b
same_truth true b f g = sym (f refl)
same_truth false true f g = g refl
same_truth false false f g = refl

-- the bytes begin with those of another list exactly if the list begins with the other
pub within_bytes : (xs ys : List Text) → NoneEmpty xs → NoneEmpty ys → (r : Bool) → r ≡ starts_with nat_eq (subscripts_bytes significant_digits ys) (subscripts_bytes significant_digits xs) → r ≡ is_within xs ys
within_bytes xs ys some_x some_y r e =
    let low : List ℕ = subscripts_bytes significant_digits xs in
    let all : List ℕ = subscripts_bytes significant_digits ys in
    let of_bytes = starts_is Decides-eqb all low r e in
    let of_lists = starts_is bytes_decides ys xs (is_within xs ys) refl in
    same_truth r (is_within xs ys)
    (λ t. let behind = subscripts_split significant_digits xs ys (drop (length low) all) some_x some_y (sym (of_bytes.0 t)) in of_lists.1 behind.more behind.subscripts)
    (λ t. of_bytes.1 (subscripts_bytes significant_digits (drop (length xs) ys))
    (ap (subscripts_bytes significant_digits) (of_lists.0 t) ∙ flat_map-append (subscript_bytes significant_digits) xs (drop (length xs) ys)))

-- ---- the bound after all that begin with a list

its_bytes : subscripts_bytes significant_digits (beyond ∷ []) ≡ 2 ∷ 255 ∷ 0 ∷ []
unfolding canonical_value numeric_value literal_size round round_size nearest rounding_unit digits_before size_text digits
its_bytes = refl

pub beyond_bytes : (xs : List Text) → subscripts_bytes significant_digits (behind_below xs) ≡ subscripts_bytes significant_digits xs ++ 2 ∷ 255 ∷ 0 ∷ []
beyond_bytes xs = flat_map-append (subscript_bytes significant_digits) xs (beyond ∷ []) ∙ ap (λ b. subscripts_bytes significant_digits xs ++ b) its_bytes

pub beyond_key : (xs : List Text) (bytes : List ℕ) → AreSubs xs → bytes ≡ subscripts_bytes significant_digits xs ++ 2 ∷ 255 ∷ 0 ∷ [] → IsSubsKeyOf (behind_below xs) bytes
beyond_key xs bytes subs e = (All-push (λ s. 0 < length s) xs beyond (some_all xs subs) (omega arith), beyond_bytes xs ∙ sym e)

pub key_of_subs : (xs : List Text) (bytes : List ℕ) → AreSubs xs → bytes ≡ subscripts_bytes significant_digits xs → IsSubsKeyOf xs bytes
key_of_subs xs bytes subs e = (some_all xs subs, sym e)

-- ---- the subscript next after a list

pub split_within : (xs ys : List Text) → is_within xs ys ≡ true → ys ≡ xs ++ drop (length xs) ys
split_within xs ys h = (starts_is bytes_decides ys xs (is_within xs ys) refl).0 h

pub bytes_within : (xs ys : List Text) → is_within xs ys ≡ true → subscripts_bytes significant_digits ys ≡ subscripts_bytes significant_digits xs ++ subscripts_bytes significant_digits (drop (length xs) ys)
bytes_within xs ys h = ap (subscripts_bytes significant_digits) (split_within xs ys h) ∙ flat_map-append (subscript_bytes significant_digits) xs (drop (length xs) ys)

pub bytes_behind : (xs ys : List Text) → is_within xs ys ≡ true → drop (length (subscripts_bytes significant_digits xs)) (subscripts_bytes significant_digits ys) ≡ subscripts_bytes significant_digits (drop (length xs) ys)
bytes_behind xs ys h =
    ap (drop (length (subscripts_bytes significant_digits xs))) (bytes_within xs ys h)
    ∙ drop-append_seam (subscripts_bytes significant_digits xs) (subscripts_bytes significant_digits (drop (length xs) ys))

pub child_is : (xs ys : List Text) → is_within xs ys ≡ true → child_of xs ys ≡ slice_get (drop (length xs) ys) 0
child_is xs ys h = ap (λ b. if b then slice_get ys (length xs) else None) h ∙ at_front ys (length xs)

-- what is read after the bytes of xs is the child of ys
module _ (xs ys : List Text) (subs : AreSubs ys) (h : is_within xs ys ≡ true) (rest : List ℕ) (is : rest ≡ subscripts_bytes significant_digits (drop (length xs) ys)) where
  pub child_read : (o : Option Text) → MatchOption o (BeginsWithNo IsSub (subscript_bytes significant_digits) rest) (IsFirst rest) → o ≡ child_of xs ys
  child_read o found = here o found (drop (length xs) ys) (split_within xs ys h) is ∙ sym (child_is xs ys h)
    where
      here : (o : Option Text) → MatchOption o (BeginsWithNo IsSub (subscript_bytes significant_digits) rest) (IsFirst rest) → (d : List Text) → ys ≡ xs ++ d → rest ≡ subscripts_bytes significant_digits d → o ≡ slice_get d 0
      here None none [] split e = refl
      here None none (s ∷ d) split e = absurd (none s (subscripts_bytes significant_digits d) (sub_behind xs ys s d subs split) e)
      here (Some t) first [] split e = absurd (nothing_begins significant_digits t (drop first.1.0 rest) first.0 (sym e ∙ first.1.1.is))
      here (Some t) first (s ∷ d) split e =
          ap Some (subscript_split significant_digits t s (drop first.1.0 rest) (subscripts_bytes significant_digits d) first.0.0.some (sub_behind xs ys s d subs split).0.some (sym first.1.1.is ∙ e)).0

never : (n m : ℕ) → (suc n == 0) ≡ (suc m == 0)
never n m = grind (arith, nat_tests)

pub none_of_bytes : (xs : List Text) → (length (subscripts_bytes significant_digits xs) == 0) ≡ (length xs == 0)
none_of_bytes [] = refl
none_of_bytes (s ∷ xs) =
    let tag = tag_of s (canonical_value significant_digits s) in
    ap (λ b. length (b ++ subscripts_bytes significant_digits xs) == 0) tag.is ∙ never (length (tag.rest ++ subscripts_bytes significant_digits xs)) (length xs)

-- ---- the order by heads

-- the head that a key has is that of the bytes which are seen of it
pub head_seen : (head : ℕ) (bytes seen : List ℕ) (own xs : List Text) → head ≡ head_number 32 bytes → subscripts_bytes significant_digits own ≡ bytes → own ≡ xs → seen ≡ subscripts_bytes significant_digits xs → head ≡ head_number 32 seen
head_seen head bytes seen own xs of_bytes are is seen_are = of_bytes ∙ ap (head_number 32) (sym are ∙ ap (subscripts_bytes significant_digits) is ∙ sym seen_are)

-- keys are in the order of their heads if those differ
pub keys_by_head : (xs ys : List Text) (a b : List ℕ) (order : Ordering) → NoneEmpty xs → NoneEmpty ys → a ≡ subscripts_bytes significant_digits xs → b ≡ subscripts_bytes significant_digits ys → AreBytes a → AreBytes b → order ≡ nat_cmp (head_number 32 a) (head_number 32 b) → is_ne order ≡ true → order ≡ subscripts_cmp significant_digits xs ys
keys_by_head xs ys a b order some_x some_y is_a is_b are_a are_b e differ =
    head_decides 32 a b order are_a are_b e differ ∙ ap₂ (slice_cmp nat_cmp) is_a is_b ∙ subscripts_order significant_digits xs ys some_x some_y
