-- SPDX-License-Identifier: Apache-2.0
-- What a parser that gives the reading of a whole text ensures.
use Rattle.mparse.proofs.ParseWords.{◌≡◌, ◌↔◌, ℕ, List, Option, None, Some, sym, subst, ◌∙◌, Result, Ok, Err, IfOk, Gives, ParseFault, Syntax}

-- a text is read as a tree exactly if that is the well-formed one that spells it
module _ {X T : Type 0} (view : X → T) (read : List ℕ → Option T) (spell : T → List ℕ) (Well : T → Type 0) (reads : (cs : List ℕ) (t : T) → (read cs ≡ Some t) ↔ ((spell t ≡ cs) × Well t)) where
  pub is_tree : (cs : List ℕ) (r : Result X ParseFault) → Gives view r (read cs) → IfOk r (λ x. Well (view x) × (spell (view x) ≡ cs))
  is_tree cs (Ok x) given = let t = (reads cs (view x)).0 given in (t.1, t.0)
  is_tree cs (Err e) given = tt

  no_tree : (cs : List ℕ) → read cs ≡ None → (t : T) → Well t → spell t ≡ cs → ⊥
  no_tree cs none t w same =
      let clash : None ≡ Some t = sym none ∙ (reads cs t).1 (same, w) in
      cc

  pub is_syntax : (cs : List ℕ) (r : Result X ParseFault) → Gives view r (read cs) → r ≡ Err Syntax → (t : T) → Well t → spell t ≡ cs → ⊥
  is_syntax cs r given e = no_tree cs (subst (λ (x : Result X ParseFault). Gives view x (read cs)) e given)
