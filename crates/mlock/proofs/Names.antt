-- SPDX-License-Identifier: Apache-2.0
-- Names within other names.
use Rattle.mlock.proofs.LockWords.{arith, ◌≡◌, Bool, true, false, List, [], ◌∷◌, ◌++◌, inl, inr, refl, sym, ap, ◌∙◌, append-nil, beq, Text, Node}
use Rattle.mspec.specs.KeyLaws.{IsWithin}

-- the parts of a node within another
pub record Parts (n m : Node) : Type 0 where
  pub account : n.account ≡ m.account
  pub name : n.name ≡ m.name
  pub more : List Text
  pub subscripts : m.subscripts ≡ n.subscripts ++ more

pub parts : (n m : Node) → IsWithin n m → Parts n m
parts n m (inl same) = record { account = ap (λ k. k.account) same; name = ap (λ k. k.name) same; more = []; subscripts = ap (λ k. k.subscripts) (sym same) ∙ sym (append-nil n.subscripts) }
parts n m (inr above) = record { account = above.account; name = above.name; more = above.longer.0 ∷ above.longer.1; subscripts = above.longer.2 }

pub beq_same : (a b : Bool) → beq a b ≡ true → a ≡ b
beq_same a b h = grind arith

pub same_beq : (a b : Bool) → a ≡ b → beq a b ≡ true
same_beq a b h = grind arith

-- a fact on a test, by what the test says
pub at_test : (b : Bool) (P : Bool → Type 0) → (b ≡ true → P true) → (b ≡ false → P false) → P b
at_test true P f g = f refl
at_test false P f g = g refl
