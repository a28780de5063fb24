-- SPDX-License-Identifier: Apache-2.0
-- What is read as an expression is spelled so, and what is spelled so is read.
use Rattle.std.specs.Prelude.{is_none}
use Rattle.mgrammar.proofs.GrammarWords.{inl, inr, and_parts, eqb-true, ◌&&◌, is_digit, is_name_start, minus, negate, number, text, special, reference, bracket}
use Rattle.mgrammar.proofs.GrammarWords.{call, select, refer, extrinsic, ActualTree, missing_actual, value_actual, name_actual, indirect_actual, spell_actual}
use Rattle.mgrammar.proofs.GrammarWords.{WellActual, run_of, name_at, number_at, point_at, is_actual_end, is_reference_point, name_actual_by, actual_with, ◌≡◌}
use Rattle.mgrammar.proofs.GrammarWords.{ℕ, zero, suc, ◌<◌, ◌-◌, Bool, true, false, List, [], ◌∷◌, ◌++◌, length, Option, Some, None, refl, sym, ap, subst, ◌∙◌}
use Rattle.mgrammar.proofs.GrammarWords.{append_assoc, arith, ◌||◌, nat_tests, append-nil, plus, BinaryTree, AtomTree, PrimaryTree, ExprTree, expr, TailTree}
use Rattle.mgrammar.proofs.GrammarWords.{apply, matches, matches_not, raise, matches_indirect, matches_not_indirect, TailsTree, no_tails, tail, tails_of}
use Rattle.mgrammar.proofs.GrammarWords.{OperandTree, operand, spell_signs, spell_binary, spell_atoms, spell_expr, spell_tails, spell_tail, spell_operand}
use Rattle.mgrammar.proofs.GrammarWords.{spell_primary, spell_reference, bare_primary, WellExpr, WellTails, WellTail, WellOperand, WellPrimary, WellReference}
use Rattle.mgrammar.proofs.GrammarWords.{WellBelow, WellList, WellAtom, eqb, ◌>>=◌, past, is_digit_or_point, matches_by, matches_not_by, many, pattern_at}
use Rattle.mgrammar.proofs.GrammarWords.{signs_of, after_signs, OperatorTree, between, matching, matching_not, raising, operator_at, Readers, primary_with}
use Rattle.mgrammar.proofs.GrammarWords.{operand_with, tail_by, tail_behind, tail_with, expr_with, readers_at, inner_at}
use Rattle.mgrammar.proofs.ReadingBasics.{IsRead, Takes, Again, Begins, Begins-stops, Begins-append, Begins-weaker, Begins-long, Stops, Stops-weaker, goes_on}
use Rattle.mgrammar.proofs.ReadingBasics.{goes_further, bind_some, chosen, some_is, past_takes, not_past, name_takes, name_again}
use Rattle.mgrammar.proofs.ReadingNumbers.{number_again, goes_on_number}
use Rattle.mgrammar.proofs.ReadingActuals.{ActualEnds, actual_ends, entry_ends}
use Rattle.mgrammar.proofs.ReadingLists.{each, ItemTakes, many_takes, many_again, count_le, joined}
use Rattle.mgrammar.proofs.ReadingPatterns.{pattern_at_takes, pattern_at_again, pattern_begins}
use Rattle.mgrammar.proofs.ReadingOperators.{is_sign, signs_parts, signs_again, is_doubled, spell_operator, operator_takes, operator_again, is_operator}
use Rattle.mgrammar.proofs.ReadingOperators.{operator_begins, no_operator}
use Rattle.mgrammar.proofs.ReadingTrees.{tails_list, tails_back, spell_tails-each, tails_well, list_well, WellInner, WellHanded}
use Rattle.mgrammar.proofs.ReadingReferences.{OperandEnds, Ends, TakesFree, AgainFree, operand_ends, greedy_ends, WellWithin, named, name_in_front}
use Rattle.mgrammar.proofs.ReadingReferences.{begins_reference, reference_begins, reference_takes, reference_again}
use Rattle.mgrammar.proofs.ReadingPrimaries.{not_on, begins_primary, primary_begins, primary_takes_free, primary_takes, primary_again_free, primary_again}

-- ---- what is read is spelled so, below some depth

-- the text of an operator and of what comes after it
behind_parts : (o cs a b : List ℕ) → cs ≡ a ++ b → o ++ cs ≡ (o ++ a) ++ b
behind_parts o cs a b p = rw (p, append_assoc) refl

module _ (d : ℕ) (r : Readers) (inner_takes : Takes spell_expr (WellInner d) (r.inner)) (within_takes : Takes spell_reference (WellWithin d) (r.within)) (handed_takes : Takes spell_actual (WellHanded d) (r.handed)) (below_takes : TakesFree spell_primary (WellBelow d) bare_primary (r.below)) (pattern_takes : Takes spell_atoms (WellList (WellAtom d)) (r.pattern)) where
  operand_takes : Takes spell_operand (WellOperand d) (operand_with r)
  unfolding operand_with
  operand_takes cs x e =
      let b = bind_some (primary_with r (after_signs cs)) (λ p. Some (operand (signs_of cs) p.0, p.1)) x e in
      let p = primary_takes d r inner_takes within_takes handed_takes below_takes (after_signs cs) b.0 b.1 in
      let s = signs_parts cs in
      subst (λ (y : OperandTree × List ℕ). (cs ≡ spell_operand y.0 ++ y.1) × WellOperand d y.0) (some_is (operand (signs_of cs) b.0.0, b.0.1) x b.2)
      (s ∙ ap (λ (y : List ℕ). spell_signs (signs_of cs) ++ y) p.0 ∙ sym (append_assoc (spell_signs (signs_of cs)) (spell_primary b.0.0) b.0.1), p.1)

  matches_takes : (cs : List ℕ) (o : Option (List ℕ)) (x : TailTree × List ℕ) → past 64 cs ≡ o → matches_by r cs o ≡ Some x → IsRead spell_tail (WellTail d) (63 ∷ cs) x
  matches_takes cs None x h e =
      let k = bind_some (r.pattern cs) (λ p. Some (matches p.0, p.1)) x e in
      let p = pattern_takes cs k.0 k.1 in
      subst (IsRead spell_tail (WellTail d) (63 ∷ cs)) (some_is (matches k.0.0, k.0.1) x k.2) (behind_parts (63 ∷ []) cs (spell_atoms k.0.0) k.0.1 p.0, p.1)
  matches_takes cs (Some behind) x h e =
      let k = bind_some (r.below behind) (λ p. Some (matches_indirect p.0, p.1)) x e in
      let p = below_takes behind k.0 k.1 in
      subst (IsRead spell_tail (WellTail d) (63 ∷ cs)) (some_is (matches_indirect k.0.0, k.0.1) x k.2) (ap (λ (y : List ℕ). 63 ∷ y) (past_takes 64 cs behind h ∙ ap (λ (y : List ℕ). 64 ∷ y) p.0), p.1)

  matches_not_takes : (cs : List ℕ) (o : Option (List ℕ)) (x : TailTree × List ℕ) → past 64 cs ≡ o → matches_not_by r cs o ≡ Some x → IsRead spell_tail (WellTail d) (39 ∷ 63 ∷ cs) x
  matches_not_takes cs None x h e =
      let k = bind_some (r.pattern cs) (λ p. Some (matches_not p.0, p.1)) x e in
      let p = pattern_takes cs k.0 k.1 in
      subst (IsRead spell_tail (WellTail d) (39 ∷ 63 ∷ cs)) (some_is (matches_not k.0.0, k.0.1) x k.2) (behind_parts (39 ∷ 63 ∷ []) cs (spell_atoms k.0.0) k.0.1 p.0, p.1)
  matches_not_takes cs (Some behind) x h e =
      let k = bind_some (r.below behind) (λ p. Some (matches_not_indirect p.0, p.1)) x e in
      let p = below_takes behind k.0 k.1 in
      subst (IsRead spell_tail (WellTail d) (39 ∷ 63 ∷ cs)) (some_is (matches_not_indirect k.0.0, k.0.1) x k.2)
      (ap (λ (y : List ℕ). 39 ∷ 63 ∷ y) (past_takes 64 cs behind h ∙ ap (λ (y : List ℕ). 64 ∷ y) p.0), p.1)

  tail_takes_by : (o : OperatorTree) (cs : List ℕ) (x : TailTree × List ℕ) → tail_by r o cs ≡ Some x → IsRead spell_tail (WellTail d) (spell_operator o ++ cs) x
  unfolding tail_by
  tail_takes_by (between b) cs x e =
      let k = bind_some (operand_with r cs) (λ o. Some (apply b o.0, o.1)) x e in
      let o = operand_takes cs k.0 k.1 in
      subst (IsRead spell_tail (WellTail d) (spell_binary b ++ cs)) (some_is (apply b k.0.0, k.0.1) x k.2) (behind_parts (spell_binary b) cs (spell_operand k.0.0) k.0.1 o.0, o.1)
  tail_takes_by matching cs x e = matches_takes cs (past 64 cs) x refl e
  tail_takes_by matching_not cs x e = matches_not_takes cs (past 64 cs) x refl e
  tail_takes_by raising cs x e =
      let k = bind_some (operand_with r cs) (λ o. Some (raise o.0, o.1)) x e in
      let o = operand_takes cs k.0 k.1 in
      subst (IsRead spell_tail (WellTail d) (42 ∷ 42 ∷ cs)) (some_is (raise k.0.0, k.0.1) x k.2) (behind_parts (42 ∷ 42 ∷ []) cs (spell_operand k.0.0) k.0.1 o.0, o.1)

  -- as step_takes, where this operator is in front
  tail_takes_behind : (cs : List ℕ) (o : Option (OperatorTree × List ℕ)) (x : TailTree × List ℕ) → operator_at cs ≡ o → tail_behind r o ≡ Some (Some x) → IsRead spell_tail (WellTail d) cs x
  tail_takes_behind cs None x h e = absurd cc
  tail_takes_behind cs (Some o) x h e =
      let k = bind_some (tail_by r o.0 o.1) (λ s. Some (Some s)) (Some x) e in
      let s = tail_takes_by o.0 o.1 k.0 k.1 in
      let parts : cs ≡ spell_operator o.0 ++ o.1 = operator_takes cs o h in
      subst (IsRead spell_tail (WellTail d) cs) (some_is k.0 x (some_is (Some k.0) (Some x) k.2)) (parts ∙ s.0, s.1)

  tail_takes : ItemTakes spell_tail (WellTail d) (tail_with r)
  unfolding tail_with
  tail_takes cs x e = tail_takes_behind cs (operator_at cs) x refl e

  pub expr_takes : Takes spell_expr (WellExpr d) (expr_with r)
  unfolding expr_with
  expr_takes cs x e =
      let b = bind_some (operand_with r cs) (λ o. many (tail_with r) (length o.1) o.1 >>= λ s. Some (expr o.0 (tails_of s.0), s.1)) x e in
      let k = bind_some (many (tail_with r) (length b.0.1) b.0.1) (λ s. Some (expr b.0.0 (tails_of s.0), s.1)) x b.2 in
      let o = operand_takes cs b.0 b.1 in
      let s = many_takes spell_tail (WellTail d) (tail_with r) tail_takes (length b.0.1) b.0.1 k.0 k.1 in
      let parts : cs ≡ (spell_operand b.0.0 ++ spell_tails (tails_of k.0.0)) ++ k.0.1 = joined cs (spell_operand b.0.0) b.0.1 (each spell_tail k.0.0) k.0.1 (spell_tails (tails_of k.0.0)) o.0 s.0 (spell_tails-each k.0.0) in
      subst (λ (y : ExprTree × List ℕ). (cs ≡ spell_expr y.0 ++ y.1) × WellExpr d y.0) (some_is (expr b.0.0 (tails_of k.0.0), k.0.1) x k.2) (parts, (o.1, tails_well d k.0.0 s.1))

  named_actual : (cs : List ℕ) (o : Option (List ℕ)) (x : ActualTree × List ℕ) → past 64 cs ≡ o → name_actual_by r cs o ≡ Some x → IsRead spell_actual (WellActual d) (46 ∷ cs) x
  named_actual cs None x h e =
      let n = bind_some (name_at cs) (λ n. Some (name_actual n.0, n.1)) x e in
      let name = name_takes cs n.0 n.1 in
      subst (IsRead spell_actual (WellActual d) (46 ∷ cs)) {x = (name_actual n.0.0, n.0.1)} (some_is (name_actual n.0.0, n.0.1) x n.2) (ap (λ (y : List ℕ). 46 ∷ y) name.0, name.1)
  named_actual cs (Some behind) x h e =
      let p = bind_some (r.below behind) (λ p. Some (indirect_actual p.0, p.1)) x e in
      let operand = below_takes behind p.0 p.1 in
      subst (IsRead spell_actual (WellActual d) (46 ∷ cs)) {x = (indirect_actual p.0.0, p.0.1)} (some_is (indirect_actual p.0.0, p.0.1) x p.2)
      (ap (λ (y : List ℕ). 46 ∷ y) (past_takes 64 cs behind h ∙ ap (λ (y : List ℕ). 64 ∷ y) operand.0), operand.1)

  pub actual_takes : Takes spell_actual (WellActual d) (actual_with r)
  unfolding actual_with
  actual_takes [] x e = absurd cc
  actual_takes (c ∷ cs) x e =
      elim (chosen (is_actual_end c) (Some (missing_actual, c ∷ cs)) _ (Some x) e) [
        | inl p ↦ subst (IsRead spell_actual (WellActual d) (c ∷ cs)) {x = (missing_actual, c ∷ cs)} (some_is (missing_actual, c ∷ cs) x p.1) (refl, tt)
        | inr p ↦ elim (chosen (is_reference_point c cs) (name_actual_by r cs (past 64 cs)) _ (Some x) p.1) [
          | inl q ↦
              let at : c ≡ 46 = eqb-true c 46 (and_parts (eqb c 46) (is_none (number_at (c ∷ cs))) q.0).0 in
              let is : IsRead spell_actual (WellActual d) (46 ∷ cs) x = named_actual cs (past 64 cs) x refl q.1 in
              (ap (λ (y : ℕ). y ∷ cs) at ∙ is.0, is.1)
          | inr q ↦
              let b = bind_some (expr_with r (c ∷ cs)) (λ y. Some (value_actual y.0, y.1)) x q.1 in
              subst (IsRead spell_actual (WellActual d) (c ∷ cs)) {x = (value_actual b.0.0, b.0.1)} (some_is (value_actual b.0.0, b.0.1) x b.2) (expr_takes (c ∷ cs) b.0 b.1)
        ]
      ]

-- what was read within brackets stands one place deeper
deeper : {A : Type 0} (P : ℕ → A → Type 0) (d : ℕ) (a : A) → P d a → (0 < suc d) × P (suc d - 1) a
deeper P d a w =
    let lt : 0 < suc d = omega arith in
    let same : d ≡ suc d - 1 = omega arith in
    (lt, subst (λ (n : ℕ). P n a) same w)

inside : {A : Type 0} (P : ℕ → A → Type 0) (d : ℕ) (a : A) → (0 < suc d) × P (suc d - 1) a → P d a
inside P d a w = let same : suc d - 1 ≡ d = omega arith in subst (λ (n : ℕ). P n a) same w.1

-- what may stand in brackets, and after an `@`, at some depth
record Taken (d : ℕ) : Type 0 where
  inner : Takes spell_expr (WellInner d) (inner_at d)
  within : Takes spell_reference (WellWithin d) ((readers_at d).within)
  handed : Takes spell_actual (WellHanded d) ((readers_at d).handed)
  below : TakesFree spell_primary (WellBelow d) bare_primary ((readers_at d).below)
  pattern : Takes spell_atoms (WellList (WellAtom d)) ((readers_at d).pattern)

all_taken : (d : ℕ) → Taken d
unfolding readers_at
all_taken zero = record { inner = λ cs x e. absurd cc; within = λ cs x e. absurd cc; handed = λ cs x e. absurd cc; below = λ cs x e. absurd cc; pattern = pattern_at_takes zero }
all_taken (suc d) =
    let below = all_taken d in
    record {
      inner = λ cs x e. let t = expr_takes d (readers_at d) (below.inner) (below.within) (below.handed) (below.below) (below.pattern) cs x e in (t.0, deeper WellExpr d x.0 t.1);
      within = λ cs x e. let t = reference_takes d (readers_at d) (below.inner) (below.below) cs x e in (t.0, deeper WellReference d x.0 t.1);
      handed = λ cs x e. let t = actual_takes d (readers_at d) (below.inner) (below.within) (below.handed) (below.below) (below.pattern) cs x e in (t.0, deeper WellActual d x.0 t.1);
      below = λ cs x e. let t = primary_takes_free d (readers_at d) (below.inner) (below.within) (below.handed) (below.below) cs x e in (t.0, deeper WellPrimary d x.0 t.1, t.2);
      pattern = pattern_at_takes (suc d);
    }

pub inner_takes : (d : ℕ) → Takes spell_expr (WellInner d) (inner_at d)
inner_takes d = (all_taken d).inner

pub within_takes : (d : ℕ) → Takes spell_reference (WellWithin d) ((readers_at d).within)
within_takes d = (all_taken d).within

pub handed_takes : (d : ℕ) → Takes spell_actual (WellHanded d) ((readers_at d).handed)
handed_takes d = (all_taken d).handed

pub below_takes : (d : ℕ) → TakesFree spell_primary (WellBelow d) bare_primary ((readers_at d).below)
below_takes d = (all_taken d).below

pub read_pattern_takes : (d : ℕ) → Takes spell_atoms (WellList (WellAtom d)) ((readers_at d).pattern)
read_pattern_takes d = (all_taken d).pattern

pub pattern_read : (d : ℕ) → (readers_at d).pattern ≡ pattern_at d
unfolding readers_at
pattern_read zero = refl
pattern_read (suc d) = refl

-- ---- what is spelled so is read, below some depth

primary_tests : (c : ℕ) → begins_primary c ≡ true → (is_sign c ≡ false) × (is_doubled c ≡ false)
primary_tests c h = (grind (arith, nat_tests), grind (arith, nat_tests))

-- a character that an operand begins with
abbrev pub begins_operand : ℕ → Bool
begins_operand c = is_sign c || begins_primary c

begins_either : (c : ℕ) → begins_primary c ≡ true → begins_operand c ≡ true
begins_either c h = grind (arith, nat_tests)

pub operand_begins : (d : ℕ) (o : OperandTree) → WellOperand d o → Begins begins_operand (spell_operand o)
operand_begins d (operand [] p) w = Begins-weaker begins_primary begins_operand (spell_primary p) begins_either (primary_begins d p w)
operand_begins d (operand (plus ∷ ss) p) w = refl
operand_begins d o w = refl

pub expr_begins : (d : ℕ) (e : ExprTree) → WellExpr d e → Begins begins_operand (spell_expr e)
expr_begins d (expr first rest) w = Begins-append begins_operand (spell_operand first) (spell_tails rest) (operand_begins d first w.0)

begins_single : (c : ℕ) → begins_operand c ≡ true → is_doubled c ≡ false
begins_single c h = grind (arith, nat_tests)

tail_begins : (s : TailTree) → Begins is_operator (spell_tail s)
tail_begins (apply b o) = Begins-append is_operator (spell_binary b) (spell_operand o) (subst (Begins is_operator) (append-nil (spell_binary b)) (operator_begins (between b) []))
tail_begins (matches atoms) = refl
tail_begins (matches_not atoms) = refl
tail_begins (raise o) = refl
tail_begins (matches_indirect p) = refl
tail_begins (matches_not_indirect p) = refl

operator_ends : (c : ℕ) → is_operator c ≡ true → goes_further c ≡ false
operator_ends c h = grind (arith, nat_tests)

tail_ends : (s : TailTree) (rest : List ℕ) → OperandEnds (spell_tail s ++ rest)
tail_ends s rest = Begins-stops is_operator goes_further (spell_tail s ++ rest) operator_ends (Begins-append is_operator (spell_tail s) rest (tail_begins s))

-- steps begin with what may follow an operand
tails_stop : (s : TailsTree) (rest : List ℕ) → OperandEnds rest → OperandEnds (spell_tails s ++ rest)
tails_stop no_tails rest f = f
tails_stop (tail s more) rest f = subst OperandEnds (sym (append_assoc (spell_tail s) (spell_tails more) rest)) (tail_ends s (spell_tails more ++ rest))

by_operator : (r : Readers) (cs ds : List ℕ) (o : OperatorTree) (s : TailTree) (rest : List ℕ) → operator_at cs ≡ Some (o, ds) → tail_by r o ds ≡ Some (s, rest) → tail_with r cs ≡ Some (Some (s, rest))
unfolding tail_with
by_operator r cs ds o s rest h k = rw (h, k) refl

apply_step : (r : Readers) (b : BinaryTree) (cs : List ℕ) (o : OperandTree) (rest : List ℕ) → operand_with r cs ≡ Some (o, rest) → tail_by r (between b) cs ≡ Some (apply b o, rest)
unfolding tail_by
apply_step r b cs o rest h = rw h refl

matches_step : (r : Readers) (cs : List ℕ) (atoms : List AtomTree) (rest : List ℕ) → past 64 cs ≡ None → r.pattern cs ≡ Some (atoms, rest) → tail_by r matching cs ≡ Some (matches atoms, rest)
unfolding tail_by
matches_step r cs atoms rest n h = rw (n, h) refl

matches_not_step : (r : Readers) (cs : List ℕ) (atoms : List AtomTree) (rest : List ℕ) → past 64 cs ≡ None → r.pattern cs ≡ Some (atoms, rest) → tail_by r matching_not cs ≡ Some (matches_not atoms, rest)
unfolding tail_by
matches_not_step r cs atoms rest n h = rw (n, h) refl

matches_indirect_steps : (r : Readers) (cs : List ℕ) (p : PrimaryTree) (rest : List ℕ) → r.below cs ≡ Some (p, rest)
    → (tail_by r matching (64 ∷ cs) ≡ Some (matches_indirect p, rest)) × (tail_by r matching_not (64 ∷ cs) ≡ Some (matches_not_indirect p, rest))
unfolding tail_by
matches_indirect_steps r cs p rest h = (rw h refl, rw h refl)

count_no_at : (c : ℕ) → is_digit_or_point c ≡ true → eqb c 64 ≡ false
count_no_at c h = grind (arith, nat_tests)

-- no `@` begins a pattern as it is written
pattern_no_at : (d : ℕ) (atoms : List AtomTree) (rest : List ℕ) → WellList (WellAtom d) atoms → past 64 (spell_atoms atoms ++ rest) ≡ None
pattern_no_at d atoms rest w = not_past 64 (spell_atoms atoms ++ rest) (Begins-stops is_digit_or_point (λ c. eqb c 64) (spell_atoms atoms ++ rest) count_no_at (pattern_begins d atoms rest w))

raise_step : (r : Readers) (cs : List ℕ) (o : OperandTree) (rest : List ℕ) → operand_with r cs ≡ Some (o, rest) → tail_by r raising cs ≡ Some (raise o, rest)
unfolding tail_by
raise_step r cs o rest h = rw h refl

match_operators : (cs : List ℕ) → (operator_at (63 ∷ cs) ≡ Some (matching, cs)) × (operator_at (39 ∷ 63 ∷ cs) ≡ Some (matching_not, cs))
unfolding operator_at
match_operators cs = (refl, refl)

raise_operator : (cs : List ℕ) → operator_at (42 ∷ 42 ∷ cs) ≡ Some (raising, cs)
unfolding operator_at
raise_operator cs = refl

-- ---- where an actual begins

-- no point stands here that begins no number
abbrev NoPoint : List ℕ → Type 0
NoPoint [] = Unit {0}
NoPoint (c ∷ cs) = is_reference_point c cs ≡ false

other_begins : (p : ℕ → Bool) (cs : List ℕ) → ((c : ℕ) → p c ≡ true → eqb c 46 ≡ false) → Begins p cs → NoPoint cs
other_begins p [] f b = tt
other_begins p (c ∷ cs) f b = rw (f c b) refl

never : (b : Bool) → b && false ≡ false
never true = refl
never false = refl

number_ahead : (cs : List ℕ) (x : List ℕ × List ℕ) → number_at cs ≡ Some x → NoPoint cs
number_ahead [] x e = tt
number_ahead (c ∷ cs) x e = rw e (never (eqb c 46))

reference_no_point : (c : ℕ) → begins_reference c ≡ true → eqb c 46 ≡ false
reference_no_point c h = grind (arith, nat_tests)

operand_no_end : (c : ℕ) → begins_operand c ≡ true → is_actual_end c ≡ false
operand_no_end c h = grind (arith, nat_tests)

start_no_digit : (c : ℕ) → is_name_start c ≡ true → is_digit c ≡ false
start_no_digit c h = grind (arith, nat_tests)

no_run : (cs : List ℕ) → Stops is_digit cs → run_of is_digit cs ≡ []
no_run [] s = refl
no_run (c ∷ cs) s = rw s refl

no_number : (cs : List ℕ) → Stops is_digit cs → number_at (46 ∷ cs) ≡ None
unfolding number_at point_at
no_number cs s = rw (no_run cs s) refl

missing_step : (r : Readers) (rest : List ℕ) → Begins is_actual_end rest → actual_with r rest ≡ Some (missing_actual, rest)
unfolding actual_with
missing_step r [] b = absurd b
missing_step r (c ∷ cs) b = rw b refl

value_step : (r : Readers) (cs : List ℕ) (e : ExprTree) (rest : List ℕ) → Begins begins_operand cs → NoPoint cs → expr_with r cs ≡ Some (e, rest) → actual_with r cs ≡ Some (value_actual e, rest)
unfolding actual_with
value_step r [] e rest b n h = absurd b
value_step r (c ∷ cs) e rest b n h = rw (operand_no_end c b, n, h) refl

name_step : (r : Readers) (cs name rest : List ℕ) → Stops is_digit cs → past 64 cs ≡ None → name_at cs ≡ Some (name, rest) → actual_with r (46 ∷ cs) ≡ Some (name_actual name, rest)
unfolding actual_with
name_step r cs name rest s p h = rw (no_number cs s, p, h) refl

operand_step : (r : Readers) (cs : List ℕ) (p : PrimaryTree) (rest : List ℕ) → r.below cs ≡ Some (p, rest) → actual_with r (46 ∷ 64 ∷ cs) ≡ Some (indirect_actual p, rest)
unfolding actual_with
operand_step r cs p rest h = rw (no_number (64 ∷ cs) refl, h) refl

module _ (d : ℕ) (r : Readers) (inner_again : Again spell_expr (WellInner d) Ends (r.inner)) (within_again : Again spell_reference (WellWithin d) OperandEnds (r.within)) (handed_again : Again spell_actual (WellHanded d) ActualEnds (r.handed)) (below_again : AgainFree spell_primary (WellBelow d) bare_primary (r.below)) (pattern_again : Again spell_atoms (WellList (WellAtom d)) (Stops goes_on) (r.pattern)) where
  operand_again : Again spell_operand (WellOperand d) OperandEnds (operand_with r)
  unfolding operand_with
  operand_again (operand signs p) rest w s =
      let no_sign = Begins-stops begins_primary is_sign (spell_primary p ++ rest) (λ c h. (primary_tests c h).0) (Begins-append begins_primary (spell_primary p) rest (primary_begins d p w)) in
      let i = signs_again signs (spell_primary p ++ rest) no_sign in
      let parts : (spell_signs signs ++ spell_primary p) ++ rest ≡ spell_signs signs ++ (spell_primary p ++ rest) = append_assoc (spell_signs signs) (spell_primary p) rest in
      ap (operand_with r) parts ∙ rw (i.0, i.1, primary_again d r inner_again within_again handed_again below_again p rest w s) refl

  tail_again : (x : TailTree) (rest : List ℕ) → WellTail d x → OperandEnds rest → tail_with r (spell_tail x ++ rest) ≡ Some (Some (x, rest))
  tail_again (apply b o) rest w s =
      let stops = Begins-stops begins_operand is_doubled (spell_operand o ++ rest) begins_single (Begins-append begins_operand (spell_operand o) rest (operand_begins d o w)) in
      by_operator r ((spell_binary b ++ spell_operand o) ++ rest) (spell_operand o ++ rest) (between b) (apply b o) rest
      (ap operator_at (append_assoc (spell_binary b) (spell_operand o) rest) ∙ operator_again (between b) (spell_operand o ++ rest) stops) (apply_step r b (spell_operand o ++ rest) o rest (operand_again o rest w s))
  tail_again (matches atoms) rest w s =
      by_operator r (63 ∷ (spell_atoms atoms ++ rest)) (spell_atoms atoms ++ rest) matching (matches atoms) rest (match_operators (spell_atoms atoms ++ rest)).0
      (matches_step r (spell_atoms atoms ++ rest) atoms rest (pattern_no_at d atoms rest w) (pattern_again atoms rest w (operand_ends rest s)))
  tail_again (matches_not atoms) rest w s =
      by_operator r (39 ∷ 63 ∷ (spell_atoms atoms ++ rest)) (spell_atoms atoms ++ rest) matching_not (matches_not atoms) rest (match_operators (spell_atoms atoms ++ rest)).1
      (matches_not_step r (spell_atoms atoms ++ rest) atoms rest (pattern_no_at d atoms rest w) (pattern_again atoms rest w (operand_ends rest s)))
  tail_again (matches_indirect p) rest w s =
      let behind = spell_primary p ++ rest in
      by_operator r (63 ∷ 64 ∷ behind) (64 ∷ behind) matching (matches_indirect p) rest (match_operators (64 ∷ behind)).0
      (matches_indirect_steps r behind p rest (below_again p rest w (operand_ends rest s) (greedy_ends (bare_primary p) rest s))).0
  tail_again (matches_not_indirect p) rest w s =
      let behind = spell_primary p ++ rest in
      by_operator r (39 ∷ 63 ∷ 64 ∷ behind) (64 ∷ behind) matching_not (matches_not_indirect p) rest (match_operators (64 ∷ behind)).1
      (matches_indirect_steps r behind p rest (below_again p rest w (operand_ends rest s) (greedy_ends (bare_primary p) rest s))).1
  tail_again (raise o) rest w s =
      by_operator r (42 ∷ 42 ∷ (spell_operand o ++ rest)) (spell_operand o ++ rest) raising (raise o) rest (raise_operator (spell_operand o ++ rest))
      (raise_step r (spell_operand o ++ rest) o rest (operand_again o rest w s))

  no_tail_after : (rest : List ℕ) → operator_at rest ≡ None → tail_with r rest ≡ Some None
  unfolding tail_with
  no_tail_after rest h = rw h refl

  tails_again : (s : TailsTree) (rest : List ℕ) → WellTails d s → Ends rest → many (tail_with r) (length (spell_tails s ++ rest)) (spell_tails s ++ rest) ≡ Some (tails_list s, rest)
  tails_again s rest w f =
      let xs = tails_list s in
      let same : spell_tails s ≡ each spell_tail xs = ap spell_tails (sym (tails_back s)) ∙ spell_tails-each xs in
      let well = list_well d s w in
      let enough = count_le spell_tail (WellTail d) (tail_with r) (λ x v. Begins-long is_operator (spell_tail x) (tail_begins x)) xs rest well in
      rw same (many_again spell_tail (WellTail d) (tail_with r) OperandEnds tail_again (λ x cs v. tail_ends x cs)
      (length (each spell_tail xs ++ rest)) xs rest enough well f.0 (no_tail_after rest (no_operator rest f.1)))

  pub expr_again : Again spell_expr (WellExpr d) Ends (expr_with r)
  unfolding expr_with
  expr_again (expr first tails) rest w f =
      let parts : (spell_operand first ++ spell_tails tails) ++ rest ≡ spell_operand first ++ (spell_tails tails ++ rest) = append_assoc (spell_operand first) (spell_tails tails) rest in
      ap (expr_with r) parts ∙ rw (operand_again first (spell_tails tails ++ rest) w.0 (tails_stop tails rest f.0), tails_again tails rest w.1 f, tails_back tails) refl

  -- no point that begins no number is where an expression begins
  primary_no_point : (p : PrimaryTree) (more : List ℕ) → WellPrimary d p → OperandEnds more → NoPoint (spell_primary p ++ more)
  primary_no_point (number t) more w s = number_ahead (t ++ more) (t, more) (number_again t more w (Stops-weaker goes_on goes_on_number more (λ c h. (not_on c h).0) (operand_ends more s)))
  primary_no_point (text t) more w s = refl
  primary_no_point (special word) more w s = refl
  primary_no_point (reference v) more w s =
      other_begins begins_reference (spell_reference v ++ more) reference_no_point (Begins-append begins_reference (spell_reference v) more (reference_begins d v w))
  primary_no_point (bracket e) more w s = refl
  primary_no_point (call word args) more w s = refl
  primary_no_point (select word choices) more w s = refl
  primary_no_point (refer word v xs) more w s = refl
  primary_no_point (extrinsic e xs) more w s = refl

  operand_no_point : (o : OperandTree) (more : List ℕ) → WellOperand d o → OperandEnds more → NoPoint (spell_operand o ++ more)
  operand_no_point (operand [] p) more w s = primary_no_point p more w s
  operand_no_point (operand (plus ∷ ss) p) more w s = refl
  operand_no_point (operand (minus ∷ ss) p) more w s = refl
  operand_no_point (operand (negate ∷ ss) p) more w s = refl

  expr_no_point : (e : ExprTree) (rest : List ℕ) → WellExpr d e → Ends rest → NoPoint (spell_expr e ++ rest)
  expr_no_point (expr first tails) rest w f =
      subst NoPoint (sym (append_assoc (spell_operand first) (spell_tails tails) rest)) (operand_no_point first (spell_tails tails ++ rest) w.0 (tails_stop tails rest f.0))

  pub actual_again : Again spell_actual (WellActual d) ActualEnds (actual_with r)
  actual_again missing_actual rest w b = missing_step r rest b
  actual_again (value_actual e) rest w b =
      let ends = actual_ends rest b in
      value_step r (spell_expr e ++ rest) e rest (Begins-append begins_operand (spell_expr e) rest (expr_begins d e w)) (expr_no_point e rest w ends) (expr_again e rest w ends)
  actual_again (name_actual name) rest w b =
      let front = Begins-append is_name_start name rest (named name w) in
      let ends = entry_ends rest (operand_ends rest (actual_ends rest b).0) in
      name_step r (name ++ rest) name rest (Begins-stops is_name_start is_digit (name ++ rest) start_no_digit front) ((name_in_front (name ++ rest) front).2) (name_again name rest w ends.0)
  actual_again (indirect_actual p) rest w b =
      let ends = (actual_ends rest b).0 in
      operand_step r (spell_primary p ++ rest) p rest (below_again p rest w (operand_ends rest ends) (greedy_ends (bare_primary p) rest ends))

record Spelled (d : ℕ) : Type 0 where
  inner : Again spell_expr (WellInner d) Ends (inner_at d)
  within : Again spell_reference (WellWithin d) OperandEnds ((readers_at d).within)
  handed : Again spell_actual (WellHanded d) ActualEnds ((readers_at d).handed)
  below : AgainFree spell_primary (WellBelow d) bare_primary ((readers_at d).below)
  pattern : Again spell_atoms (WellList (WellAtom d)) (Stops goes_on) ((readers_at d).pattern)

all_spelled : (d : ℕ) → Spelled d
unfolding readers_at
all_spelled zero = record {
  inner = λ e rest w f. absurd (omega (arith, w.0));
  within = λ v rest w f. absurd (omega (arith, w.0));
  handed = λ a rest w f. absurd (omega (arith, w.0));
  below = λ p rest w f g. absurd (omega (arith, w.0));
  pattern = pattern_at_again zero;
}
all_spelled (suc d) =
    let below = all_spelled d in
    record {
      inner = λ e rest w f. expr_again d (readers_at d) (below.inner) (below.within) (below.handed) (below.below) (below.pattern) e rest (inside WellExpr d e w) f;
      within = λ v rest w f. reference_again d (readers_at d) (below.inner) (below.below) v rest (inside WellReference d v w) f;
      handed = λ a rest w f. actual_again d (readers_at d) (below.inner) (below.within) (below.handed) (below.below) (below.pattern) a rest (inside WellActual d a w) f;
      below = λ p rest w f g. primary_again_free d (readers_at d) (below.inner) (below.within) (below.handed) (below.below) p rest (inside WellPrimary d p w) f g;
      pattern = pattern_at_again (suc d);
    }

pub inner_again : (d : ℕ) → Again spell_expr (WellInner d) Ends (inner_at d)
inner_again d = (all_spelled d).inner

pub within_again : (d : ℕ) → Again spell_reference (WellWithin d) OperandEnds ((readers_at d).within)
within_again d = (all_spelled d).within

pub handed_again : (d : ℕ) → Again spell_actual (WellHanded d) ActualEnds ((readers_at d).handed)
handed_again d = (all_spelled d).handed

pub below_again : (d : ℕ) → AgainFree spell_primary (WellBelow d) bare_primary ((readers_at d).below)
below_again d = (all_spelled d).below

pub read_pattern_again : (d : ℕ) → Again spell_atoms (WellList (WellAtom d)) (Stops goes_on) ((readers_at d).pattern)
read_pattern_again d = (all_spelled d).pattern
