-- SPDX-License-Identifier: Apache-2.0
-- The subscripts of $QUERY, and those of the node from which it goes on.
use Rattle.mkey.proofs.KeyWords.{◌≡◌, ◌<◌, ◌∷◌, ◌++◌, ◌==◌, Bool, true, false, [], List, All, All-nil, All-head, All-tail, length, refl, sym, ap, ◌∙◌, arith}
use Rattle.mkey.proofs.KeyWords.{if◌then◌else◌, is_lt, ordering_then, Ordering, Less, Equal, Greater, Text, AreSubscripts, IsSubscript, AreOrderSubscripts}
use Rattle.mkey.proofs.KeyWords.{front}
use Rattle.mkey.proofs.KeyWords.{nat_tests, last, is_empty, subscripts_cmp, significant_digits}
use Rattle.mspec.proofs.Basics.{less}
use Rattle.mspec.specs.NodeOrder.{text_cmp}
use Rattle.mspec.specs.Trees.{AreQuerySubscripts, ends_empty, without_empty, comes_before}
use Rattle.mkey.proofs.Children.{whole, split_last, empty_first}

full : (x : Text) → is_empty x ≡ false → 0 < length x
full [] e = absurd (cc)
full (c ∷ x) e = omega arith

empties : (x : Text) → (length x == 0) ≡ is_empty x
empties [] = refl
empties (c ∷ x) = grind (arith, nat_tests)

-- those of a variable itself
pub none_are : AreSubscripts []
none_are = record { few = omega arith; each = All-nil IsSubscript }

pub ends_told : (xs : List Text) (b : Bool) → 0 < length xs → b ≡ (length (last xs) == 0) → b ≡ ends_empty xs
ends_told [] b some e = absurd (omega (arith, some))
ends_told (x ∷ xs) b some e = e ∙ empties (last (x ∷ xs))

pub ends_full : (xs : List Text) → 0 < length xs → ends_empty xs ≡ false → 0 < length (last xs)
ends_full [] some e = absurd (omega (arith, some))
ends_full (x ∷ xs) some e = full (last (x ∷ xs)) e

pub ends_some : (xs : List Text) → ends_empty xs ≡ true → 0 < length xs
ends_some [] e = absurd (cc)
ends_some (x ∷ xs) e = omega arith

-- the subscripts of the node are those of one
node_subscripts : (xs : List Text) → AreOrderSubscripts xs → (b : Bool) → is_empty (last xs) ≡ b → AreSubscripts (if b then front xs else xs)
node_subscripts xs subs true e = subs.before
node_subscripts xs subs false e = whole xs subs (full (last xs) e)

pub searched : (xs : List Text) → AreQuerySubscripts xs → AreSubscripts (without_empty xs)
searched [] are = none_are
searched (x ∷ xs) are = node_subscripts (x ∷ xs) (are (omega arith)) (is_empty (last (x ∷ xs))) refl

module _ (xs : List Text) where
  pub without_last : ends_empty xs ≡ true → front xs ≡ without_empty xs
  without_last e = sym (ap (λ b. if b then front xs else xs) e)

  pub with_last : ends_empty xs ≡ false → xs ≡ without_empty xs
  with_last e = sym (ap (λ b. if b then front xs else xs) e)

-- ---- what comes after

abbrev C : Text → Text → Ordering
C = text_cmp significant_digits

abbrev R : List Text → List Text → Ordering
R = subscripts_cmp significant_digits

abbrev Each : List Text → Type 0
Each k = All (λ s. 0 < length s) k

then_lt : (o a b : Ordering) → is_lt a ≡ is_lt b → is_lt (ordering_then o a) ≡ is_lt (ordering_then o b)
then_lt Less a b h = refl
then_lt Equal a b h = h
then_lt Greater a b h = refl

no_text : (x : Text) → is_empty x ≡ true → x ≡ []
no_text [] e = refl
no_text (c ∷ x) e = absurd (cc)

-- an empty last subscript comes before all that it may stand for, so what comes after it comes after the node above
from_front : (f k : List Text) → Each k → is_lt (R f k) ≡ is_lt (R (f ++ [] ∷ []) k)
from_front [] [] some = refl
from_front [] (c ∷ k) some = sym (ap (λ o. is_lt (ordering_then o (R [] k))) (less (C [] c) (empty_first c (All-head (λ s. 0 < length s) c k some))))
from_front (x ∷ f) [] some = refl
from_front (x ∷ f) (c ∷ k) some = then_lt (C x c) (R f k) (R (f ++ [] ∷ []) k) (from_front f k (All-tail (λ s. 0 < length s) c k some))

after_front : (ys k : List Text) → 0 < length ys → Each k → (b : Bool) → is_empty (last ys) ≡ b → is_lt (R (if b then front ys else ys) k) ≡ is_lt (R ys k)
after_front ys k some each true e =
    from_front (front ys) k each ∙ ap (λ l. is_lt (R (front ys ++ l ∷ []) k)) (sym (no_text (last ys) e))
    ∙ ap (λ l. is_lt (R l k)) (sym (split_last ys some))
after_front ys k some each false e = refl

pub searched_after : (xs k : List Text) → Each k → is_lt (R (without_empty xs) k) ≡ comes_before xs k
searched_after [] k some = refl
searched_after (x ∷ xs) k some = after_front (x ∷ xs) k (omega arith) some (is_empty (last (x ∷ xs))) refl
