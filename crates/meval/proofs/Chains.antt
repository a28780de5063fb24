-- SPDX-License-Identifier: Apache-2.0
-- Arithmetic operators one after another, on a number to the left.
use Rattle.meval.proofs.EvalWords.{◌≡◌, ℕ, ◌+◌, ◌<◌, [], length, drop, get_or, map, Some, None, Result, Ok, Err, refl, sym, ap, ◌∙◌, subst, ℤ, Zover}
use Rattle.meval.proofs.EvalWords.{significant_digits, numeric_value, number_text, Act, ◌>>=◌, charge, give, give_some, ExprTree, expr, OperandTree, operand}
use Rattle.meval.proofs.EvalWords.{bracket, PrimaryTree, TailTree, apply, tail, no_tails, tails_of, as_number, both_numbers, binary, Inside, value}
use Rattle.meval.proofs.EvalWords.{primary_value, operand_value, tail_value, tails_value, tail_tree, Tail, Yields, yields_gives, units, Num, Ghosts, fault_of}
use Rattle.meval.proofs.EvalWords.{Code, Eval, Evaluates, Leads, operand_number, primary_number}
use Rattle.std.proofs.Common.{List, Option}
use Rattle.mspec.specs.Act.{Text}
use Rattle.mmeaning.specs.LineMeaning.{number_of}
use Rattle.mvalue.proofs.Numbers.{number_again}
use Rattle.moperator.specs.Calculations.{operator_tree, calculated}
use Rattle.moperator.specs.declared.arithmetic.Arithmetic.{Arithmetic}
use Rattle.moperator.specs.declared.arithmetic.Arithmetic.TheVariants.{Add, Subtract, Multiply, Divide, DivideWhole, Remainder}
use Rattle.meval.proofs.Calls.{evaluates_then, evaluates_failed, evaluates_seen, evaluates_refused, evaluates_yielded}
use Rattle.meval.proofs.LocalVariables.{regrouped, grouped}
use Rattle.meval.proofs.Trees.{charge_failed, from_tail}

-- an arithmetic operator wants both operands as numbers
wants_numbers : (o : Arithmetic) (x y : Text) → ◌≡◌ {A = Act Text} (binary (operator_tree o) x y) (both_numbers x y >>= (λ n. calculated o n.0 n.1))
wants_numbers Add x y = refl
wants_numbers Subtract x y = refl
wants_numbers Multiply x y = refl
wants_numbers Divide x y = refl
wants_numbers DivideWhole x y = refl
wants_numbers Remainder x y = refl

-- of which the left one is known
abbrev both : Option ℤ → Option ℤ → Act (ℤ × ℤ)
both x y = give_some Zover x >>= (λ m. give_some Zover y >>= (λ n. give (m, n)))

both_known : (o : Arithmetic) (a : ℤ) (y : Option ℤ) → ◌≡◌ {A = Act Text} (both (Some a) y >>= (λ n. calculated o n.0 n.1)) (give_some Zover y >>= calculated o a)
both_known o a None = refl
both_known o a (Some b) = refl

pub left_known : (o : Arithmetic) (left : Num) (y : Text) → ◌≡◌ {A = Act Text} (binary (operator_tree o) (number_text (units left)) y) (as_number y >>= calculated o (units left))
left_known o left y =
    wants_numbers o (number_text (units left)) y
    ∙ ap (λ (x : Option ℤ). both x (numeric_value significant_digits y) >>= (λ n. calculated o n.0 n.1)) (number_again left)
    ∙ both_known o (units left) (numeric_value significant_digits y)

-- the number of a number's text
read_again : (n : Num) → Yields {E = Code} fault_of (as_number (number_text (units n))) (λ (u : Unit {0}). units n) (Ok tt)
read_again n = subst (λ (x : Option ℤ). Yields {E = Code} fault_of (give_some Zover x) (λ (u : Unit {0}). units n) (Ok tt)) (sym (number_again n)) (yields_gives (units n) (λ (u : Unit {0}). units n) tt refl)

module _ {S : Type 0} {g : Ghosts S} where
  -- an arithmetic operator after a number evaluates its operand as a number
  as_tail : {X : Type 0} {f : X → Text} {old new : Eval S} {r : Result X Code} (o : Arithmetic) (left : Num) (right : OperandTree)
      → Evaluates g (λ i. operand_number i right >>= calculated o (units left)) f old r new → Evaluates g (λ i. tail_value i (number_text (units left)) (apply (operator_tree o) right)) f old r new
  as_tail {f = f} {old = old} {new = new} {r = r} o left right d =
      subst (λ (act : Inside → Act Text). Evaluates g act f old r new) (sym (λ j i. operand_value i right >>= (λ y. left_known o left y j)))
      (regrouped (λ i. operand_value i right) (λ i y. as_number y) (λ i n. calculated o (units left) n) d)

  -- ---- one step of a chain

  module _ (items : List Tail) (i : ℕ) (d : Tail) (o : Arithmetic) (left : Num) (right : OperandTree) where
    here : {old new : Eval S} {r : Result Text Code} → i < length items → d ≡ get_or items i d → tail_tree d ≡ apply (operator_tree o) right
        → Evaluates g (λ a. tail_value a (number_text (units left)) (apply (operator_tree o) right) >>= (λ y. tails_value a y (tails_of (map tail_tree (drop (i + 1) items))))) (λ (v : Text). v) old r new
        → Evaluates g (λ a. tails_value a (number_text (units left)) (tails_of (map tail_tree (drop i items)))) (λ (v : Text). v) old r new
    here {old = old} {new = new} {r = r} within is step h =
        from_tail (λ (v : Text). v) items i d (number_text (units left)) r within is
        (subst (λ (t : TailTree). Evaluates g (λ a. tails_value a (number_text (units left)) (tail t (tails_of (map tail_tree (drop (i + 1) items))))) (λ (v : Text). v) old r new) (sym step) h)

    -- the operand has a number, and the operator gives one
    pub step_leads : {old mid : Eval S} (number : ℤ) (next : Num) → i < length items → d ≡ get_or items i d → tail_tree d ≡ apply (operator_tree o) right
        → Evaluates g (λ a. operand_number a right) (λ (u : Unit {0}). number) old (Ok tt) mid → Yields {E = Code} fault_of (calculated o (units left) number) (λ (u : Unit {0}). number_text (units next)) (Ok tt)
        → Leads g (λ a. tails_value a (number_text (units left)) (tails_of (map tail_tree (drop i items)))) old (λ a. tails_value a (number_text (units next)) (tails_of (map tail_tree (drop (i + 1) items)))) mid
    step_leads number next within is step evaluated given = record {
      on = λ r new k.
          here within is step
          (evaluates_then (λ a y. tails_value a y (tails_of (map tail_tree (drop (i + 1) items))))
          (as_tail o left right (evaluates_then (λ a n. calculated o (units left) n) evaluated (evaluates_yielded given))) k);
    }

    -- the operand has none
    pub operand_refused : {X : Type 0} {f : X → ℤ} {old new : Eval S} (c : Code) → i < length items → d ≡ get_or items i d → tail_tree d ≡ apply (operator_tree o) right
        → Evaluates g (λ a. operand_number a right) f old (Err c) new → Evaluates g (λ a. tails_value a (number_text (units left)) (tails_of (map tail_tree (drop i items)))) (λ (v : Text). v) old (Err c) new
    operand_refused c within is step refused =
        here within is step (evaluates_failed (λ a y. tails_value a y (tails_of (map tail_tree (drop (i + 1) items)))) {j = λ (v : Text). v} (as_tail {f = λ (v : Text). v} o left right (evaluates_failed (λ a n. calculated o (units left) n) refused)))

    -- the operator gives none
    pub operator_refused : {X : Type 0} {f : X → Text} {old mid : Eval S} (number : ℤ) (c : Code) → i < length items → d ≡ get_or items i d → tail_tree d ≡ apply (operator_tree o) right
        → Evaluates g (λ a. operand_number a right) (λ (u : Unit {0}). number) old (Ok tt) mid → Yields fault_of (calculated o (units left) number) f (Err c)
        → Evaluates g (λ a. tails_value a (number_text (units left)) (tails_of (map tail_tree (drop i items)))) (λ (v : Text). v) old (Err c) mid
    operator_refused number c within is step evaluated refused =
        here within is step
        (evaluates_failed (λ a y. tails_value a y (tails_of (map tail_tree (drop (i + 1) items))))
        (as_tail o left right (evaluates_then (λ a n. calculated o (units left) n) evaluated (evaluates_yielded refused))))

  -- ---- the chain as a whole

  pub leads_itself : (p : Inside → Act Text) (e : Eval S) → Leads g p e p e
  leads_itself p e = record { on = λ r new d. d }

  pub leads_on : {p q s : Inside → Act Text} {old mid new : Eval S} → Leads g p old q mid → Leads g q mid s new → Leads g p old s new
  leads_on first second = record { on = λ r e d. first.on r e (second.on r e d) }

  -- up to it, and what is done from there on, in a place
  pub leads_into : {p q : Inside → Act Text} {old mid new : Eval S} {x : Text} {r : Result (Unit {0}) Code} → Leads g p old q mid → Evaluates g q (λ (u : Unit {0}). x) mid r new → Evaluates g p (λ (u : Unit {0}). x) old r new
  leads_into {x = x} {r = Ok u} leads d = evaluates_seen x u refl (leads.on _ _ (evaluates_seen u x refl d))
  leads_into {r = Err e} leads d = evaluates_refused (λ (u : Unit {0}). _) (leads.on _ _ (evaluates_refused (λ (v : Text). v) d))

  -- ---- numbers of values

  -- the number of a value that is one
  pub number_read : {p : Inside → Act Text} {old new : Eval S} (n : Num) → Evaluates g p (λ (v : Text). v) old (Ok (number_text (units n))) new → Evaluates g (λ i. p i >>= as_number) (λ (u : Unit {0}). units n) old (Ok tt) new
  number_read n d = evaluates_then (λ i. as_number) d (evaluates_yielded (read_again n))

  -- of a primary without signs
  pub of_primary : {X : Type 0} {f : X → ℤ} {old new : Eval S} {r : Result X Code} (p : PrimaryTree) → Evaluates g (λ i. primary_number i p) f old r new → Evaluates g (λ i. operand_number i (operand [] p)) f old r new
  of_primary p d = grouped (λ i. primary_value i p) (λ i x. give x) (λ i x. as_number x) d

  -- of an operand alone
  pub alone : {X : Type 0} {f : X → ℤ} {old new : Eval S} {r : Result X Code} (o : OperandTree) → Evaluates g (λ i. operand_number i o) f old r new → Evaluates g (λ i. number_of i (expr o no_tails)) f old r new
  alone o d = grouped (λ i. operand_value i o) (λ i x. give x) (λ i x. as_number x) d

  -- of an expression in brackets
  pub in_brackets : {X : Type 0} {f : X → ℤ} {old mid new : Eval S} {r : Result X Code} (e : ExprTree) → Evaluates g (λ i. charge) (λ (u : Unit {0}). u) old (Ok tt) mid → Evaluates g (λ i. number_of i e) f mid r new
      → Evaluates g (λ i. operand_number i (operand [] (bracket e))) f old r new
  in_brackets e charged d =
      grouped (λ i. primary_value i (bracket e)) (λ i x. give x) (λ i x. as_number x) (grouped (λ i. charge) (λ i u. value i e) (λ i x. as_number x) (evaluates_then (λ i u. number_of i e) charged d))

  pub bracket_refused : {X : Type 0} {f : X → ℤ} {old new : Eval S} (e : ExprTree) (c : Code) → Evaluates g (λ i. charge) (λ (u : Unit {0}). u) old (Err c) new → Evaluates g (λ i. operand_number i (operand [] (bracket e))) f old (Err c) new
  bracket_refused e c d = evaluates_failed (λ i x. as_number x) (evaluates_failed (λ i x. give x) {j = λ (v : Text). v} (charge_failed (bracket e) c d))
