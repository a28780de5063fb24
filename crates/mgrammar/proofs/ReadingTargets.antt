-- SPDX-License-Identifier: Apache-2.0
-- What is read of the left side of a set_argument is spelled so, and what is spelled so is read.
use Rattle.mgrammar.proofs.GrammarWords.{◌≡◌, ℕ, suc, ◌<◌, ◌-◌, Bool, true, eqb, cond, List, [], ◌∷◌, ◌++◌, length, Option, Some, None, inl, inr, refl, sym, ap}
use Rattle.mgrammar.proofs.GrammarWords.{subst, ◌∙◌, append_assoc, arith, eqb-true, nat_tests, is_letter, AllAre, ExprTree, PrimaryTree, no_exprs}
use Rattle.mgrammar.proofs.GrammarWords.{ReferenceTree, indirect, ExprsTree, exprs_of, TargetTree, variable, part, DestinationTree, one, several, ArgTree}
use Rattle.mgrammar.proofs.GrammarWords.{assign, indirect_args, FormTree, spell_expr, spell_primary, spell_reference, spell_more, spell_more_exprs}
use Rattle.mgrammar.proofs.GrammarWords.{spell_target, spell_destination, spell_arg, set_argument, ValueFunctionTree, FunctionTree, of_values, of_variable}
use Rattle.mgrammar.proofs.GrammarWords.{of_choices, function_of, takes, is_part, IsPart, exprs_count, max_depth, bare_primary, bare_destination, WellBelow}
use Rattle.mgrammar.proofs.GrammarWords.{WellReference, WellTarget, WellDestination, WellArg, Read, ◌>>=◌, run_of, after_run, past, Readers, reference_with}
use Rattle.mgrammar.proofs.GrammarWords.{expr_at, readers_at, many, after_comma, part_with, part_by, target_with, destination_at, given_by, set_argument_by}
use Rattle.mgrammar.proofs.GrammarWords.{set_argument_at}
use Rattle.mgrammar.proofs.ReadingBasics.{IsRead, Takes, Again, Stops, Begins, Begins-append, Begins-stops, Begins-weaker, bind_some, chosen, some_is}
use Rattle.mgrammar.proofs.ReadingBasics.{run_parts, run_again, past_takes, not_past}
use Rattle.mgrammar.proofs.ReadingLists.{each, joined_by, listed_or_one, bracketed_again, spell_more-each, many_takes, comma_takes, more_again}
use Rattle.mgrammar.proofs.ReadingTrees.{WellInner, exprs_list, exprs_back, more_exprs-list, count-length, exprs_well, exprs_inner}
use Rattle.mgrammar.proofs.ReadingReferences.{OperandEnds, Ends, TakesFree, AgainFree, WellWithin, begins_reference, reference_takes, reference_again}
use Rattle.mgrammar.proofs.ReadingReferences.{reference_begins, bare_spelled, bare_well, bare_reference_is}
use Rattle.mgrammar.proofs.ReadingPrimaries.{reference_tests, refer_cells, refer_spread, more_ends}
use Rattle.mgrammar.proofs.ReadingExprs.{begins_operand, inner_takes, within_takes, below_takes, handed_takes, handed_again, inner_again, within_again}
use Rattle.mgrammar.proofs.ReadingExprs.{below_again, expr_takes, expr_again, read_pattern_takes, read_pattern_again}

-- ---- what is read is spelled so

module _ (d : ℕ) (r : Readers) (takes_inner : Takes spell_expr (WellInner d) (r.inner)) (within : Takes spell_reference (WellWithin d) (r.within)) (below : TakesFree spell_primary (WellBelow d) bare_primary (r.below)) where
  -- after a word and its bracket
  part_takes : (f : ValueFunctionTree) (least : ℕ) (most : Option ℕ) (w cs ds after : List ℕ) (x : TargetTree × List ℕ) → ds ≡ w ++ after → after ≡ 40 ∷ cs → AllAre is_letter w → function_of w ≡ Some (of_values f least most)
      → is_part f ≡ true → part_with r least most w cs ≡ Some x → IsRead spell_target (WellTarget d) (36 ∷ ds) x
  unfolding part_with
  part_takes f least most w cs ds after x p q l named is e =
      let v = bind_some (r.within cs) (λ v. many (after_comma (r.inner)) (length v.1) v.1 >>= λ y. past 41 y.1 >>= λ rest. cond (takes least most (suc (length y.0))) (Some (part w v.0 (exprs_of y.0), rest)) None) x e in
      let b = bind_some (many (after_comma (r.inner)) (length v.0.1) v.0.1) (λ y. past 41 y.1 >>= λ rest. cond (takes least most (suc (length y.0))) (Some (part w v.0.0 (exprs_of y.0), rest)) None) x v.2 in
      let k = bind_some (past 41 b.0.1) (λ rest. cond (takes least most (suc (length b.0.0))) (Some (part w v.0.0 (exprs_of b.0.0), rest)) None) x b.2 in
      let variable = within cs v.0 v.1 in
      let more = many_takes (λ a. 44 ∷ spell_expr a) (WellInner d) (after_comma (r.inner)) (comma_takes spell_expr (WellInner d) (r.inner) takes_inner) (length v.0.1) v.0.1 b.0 b.1 in
      let z = past_takes 41 b.0.1 k.0 k.1 in
      elim (chosen (takes least most (suc (length b.0.0))) (Some (part w v.0.0 (exprs_of b.0.0), k.0)) None (Some x) k.2) [
        | inl u ↦
            let counted : IsPart w (exprs_count (exprs_of b.0.0)) = (f, least, most, named, is, ap (λ (n : ℕ). takes least most (suc n)) (count-length b.0.0) ∙ u.0) in
            subst (IsRead spell_target (WellTarget d) (36 ∷ ds)) {x = (part w v.0.0 (exprs_of b.0.0), k.0)} (some_is (part w v.0.0 (exprs_of b.0.0), k.0) x u.1) (
              refer_cells ds w after cs (spell_reference v.0.0) v.0.1 (each (λ a. 44 ∷ spell_expr a) b.0.0) (spell_more_exprs (exprs_of b.0.0)) b.0.1 k.0 p q variable.0 more.0 z (more_exprs-list b.0.0 ∙ spell_more-each spell_expr b.0.0),
              (l, counted, variable.1.1, exprs_well d b.0.0 more.1),
            )
        | inr u ↦ absurd cc
      ]

  part_takes_by : (w cs ds after : List ℕ) (o : Option FunctionTree) (x : TargetTree × List ℕ) → ds ≡ w ++ after → after ≡ 40 ∷ cs → AllAre is_letter w → function_of w ≡ o → part_by r w o cs ≡ Some x
      → IsRead spell_target (WellTarget d) (36 ∷ ds) x
  part_takes_by w cs ds after None x p q l named e = absurd cc
  part_takes_by w cs ds after (Some (of_values f least most)) x p q l named e =
      elim (chosen (is_part f) (part_with r least most w cs) None (Some x) e) [
        | inl s ↦ part_takes f least most w cs ds after x p q l named s.0 s.1
        | inr s ↦ absurd cc
      ]
  part_takes_by w cs ds after (Some (of_variable f most)) x p q l named e = absurd cc
  part_takes_by w cs ds after (Some of_choices) x p q l named e = absurd cc

  pub target_takes : Takes spell_target (WellTarget d) (target_with r)
  unfolding target_with
  target_takes [] x e = absurd cc
  target_takes (c ∷ cs) x e =
      let w = run_of is_letter cs in
      let after = after_run is_letter cs in
      elim (chosen (eqb c 36) (past 40 after >>= part_by r w (function_of w)) (reference_with r (c ∷ cs) >>= λ n. Some (variable n.0, n.1)) (Some x) e) [
        | inl p ↦
            let k = bind_some (past 40 after) (part_by r w (function_of w)) x p.1 in
            let parts = run_parts is_letter cs in
            let at : c ≡ 36 = eqb-true _ _ p.0 in
            let is = part_takes_by w k.0 cs after (function_of w) x parts.0 (past_takes 40 after k.0 k.1) parts.1 refl k.2 in
            (ap (λ (y : ℕ). y ∷ cs) at ∙ is.0, is.1)
        | inr p ↦
            let b = bind_some (reference_with r (c ∷ cs)) (λ n. Some (variable n.0, n.1)) x p.1 in
            subst (IsRead spell_target (WellTarget d) (c ∷ cs)) (some_is (variable b.0.0, b.0.1) x b.2) (reference_takes d r takes_inner below (c ∷ cs) b.0 b.1)
      ]

-- how the targets of a list are read
abbrev listed : List ℕ → Read TargetTree
listed = target_with (readers_at (max_depth - 1))

destination_takes : Takes spell_destination WellDestination destination_at
unfolding destination_at
destination_takes [] x e = absurd cc
destination_takes (c ∷ cs) x e =
    let taken = λ (d : ℕ). target_takes d (readers_at d) (inner_takes d) (within_takes d) (below_takes d) in
    listed_or_one spell_target (WellTarget (max_depth - 1)) listed several spell_target (WellTarget max_depth) (target_with (readers_at max_depth)) one (IsRead spell_destination WellDestination (c ∷ cs))
    (taken (max_depth - 1)) (taken max_depth) c cs x e (λ ys rest q w. (q, w)) (λ t rest q w. (q, w))

-- a destination that is an `@` with its operand alone
bare_is : (d : DestinationTree) (p : PrimaryTree) → bare_destination d ≡ Some p → WellDestination d → (spell_destination d ≡ 64 ∷ spell_primary p) × WellBelow max_depth p
bare_is (one (variable v)) p e w = bare_reference_is max_depth v p e w
bare_is (one (part word v more)) p e w = absurd cc
bare_is (several ts) p e w = absurd cc

given_takes : (cs : List ℕ) (d : DestinationTree) (t : List ℕ) (o : Option PrimaryTree) (x : ArgTree × List ℕ) → cs ≡ spell_destination d ++ t → WellDestination d → bare_destination d ≡ o → given_by set_argument t o ≡ Some x → IsRead spell_arg (WellArg set_argument) cs x
given_takes cs d t None x p w h e = absurd cc
given_takes cs d t (Some q) x p w h e =
    let is = bare_is d q h w in
    subst (IsRead spell_arg (WellArg set_argument) cs) {x = (indirect_args set_argument q, t)} (some_is (indirect_args set_argument q, t) x e) (p ∙ ap (λ (y : List ℕ). y ++ t) is.0, (refl, refl, is.1))

set_argument_takes_by : (cs : List ℕ) (d : DestinationTree) (t : List ℕ) (o : Option (List ℕ)) (x : ArgTree × List ℕ) → cs ≡ spell_destination d ++ t → WellDestination d → past 61 t ≡ o → set_argument_by d t o ≡ Some x → IsRead spell_arg (WellArg set_argument) cs x
set_argument_takes_by cs d t None x p w h e = given_takes cs d t (bare_destination d) x p w refl e
set_argument_takes_by cs d t (Some rest) x p w h e =
    let v = bind_some (expr_at max_depth rest) (λ v. Some (assign d v.0, v.1)) x e in
    let value = expr_takes max_depth (readers_at max_depth) (inner_takes max_depth) (within_takes max_depth) (handed_takes max_depth) (below_takes max_depth) (read_pattern_takes max_depth) rest v.0 v.1 in
    subst (IsRead spell_arg (WellArg set_argument) cs) {x = (assign d v.0.0, v.0.1)} (some_is (assign d v.0.0, v.0.1) x v.2)
    (joined_by 61 cs (spell_destination d) t rest (spell_expr v.0.0) v.0.1 p (past_takes 61 t rest h) value.0, ((w, value.1), refl))

pub set_argument_takes : Takes spell_arg (WellArg set_argument) set_argument_at
unfolding set_argument_at
set_argument_takes cs x e =
    let t = bind_some (destination_at cs) (λ t. set_argument_by t.0 t.1 (past 61 t.1)) x e in
    let destination = destination_takes cs t.0 t.1 in
    set_argument_takes_by cs t.0.0 t.0.1 (past 61 t.0.1) x destination.0 destination.1 refl t.2

-- ---- what is spelled so is read

variable_step : (r : Readers) (cs : List ℕ) (v : ReferenceTree) (rest : List ℕ) → Begins begins_reference cs → reference_with r cs ≡ Some (v, rest) → target_with r cs ≡ Some (variable v, rest)
unfolding target_with
variable_step r [] v rest b h = absurd b
variable_step r (c ∷ cs) v rest b h = rw ((reference_tests c b).3, h) refl

part_step : (r : Readers) (f : ValueFunctionTree) (least : ℕ) (most : Option ℕ) (w cs t : List ℕ) (v : ReferenceTree) (more : List ExprTree) (rest : List ℕ) → AllAre is_letter w → function_of w ≡ Some (of_values f least most)
    → is_part f ≡ true → takes least most (suc (length more)) ≡ true → r.within cs ≡ Some (v, t) → many (after_comma (r.inner)) (length t) t ≡ Some (more, 41 ∷ rest)
    → target_with r (36 ∷ (w ++ 40 ∷ cs)) ≡ Some (part w v (exprs_of more), rest)
unfolding target_with part_with
part_step r f least most w cs t v more rest l named is u h k =
    let i = run_again is_letter w (40 ∷ cs) l refl in
    rw (i.0, i.1, named, is, h, k, u) refl

module _ (d : ℕ) (r : Readers) (lt : 0 < d) (again : Again spell_expr (WellInner d) Ends (r.inner)) (within : Again spell_reference (WellWithin d) OperandEnds (r.within)) (below : AgainFree spell_primary (WellBelow d) bare_primary (r.below)) where
  pub target_again : Again spell_target (WellTarget d) OperandEnds (target_with r)
  target_again (variable v) rest w s =
      variable_step r (spell_reference v ++ rest) v rest (Begins-append begins_reference (spell_reference v) rest (reference_begins d v w)) (reference_again d r again below v rest w s)
  target_again (part word v more) rest w s =
      let es = exprs_list more in
      let is = w.1 in
      let same : spell_more_exprs more ≡ spell_more spell_expr es = ap spell_more_exprs (sym (exprs_back more)) ∙ more_exprs-list es in
      let count : takes is.1 is.2 (suc (length es)) ≡ true = ap (λ (n : ℕ). takes is.1 is.2 (suc n)) (sym (count-length es) ∙ ap exprs_count (exprs_back more)) ∙ is.5 in
      let t : List ℕ = spell_more spell_expr es ++ 41 ∷ rest in
      let variable = within v t (lt, w.2) (more_ends es rest) in
      let others = more_again spell_expr (WellInner d) (r.inner) Ends (λ more. (refl, refl)) again es (41 ∷ rest) (exprs_inner d more lt w.3) (refl, refl) refl in
      ap (target_with r) (refer_spread word (spell_reference v) (spell_more_exprs more) rest ∙ ap (λ (y : List ℕ). 36 ∷ (word ++ 40 ∷ (spell_reference v ++ (y ++ 41 ∷ rest)))) same)
      ∙ part_step r is.0 is.1 is.2 word (spell_reference v ++ t) t v es rest w.0 is.3 is.4 count variable others
      ∙ ap (λ (y : ExprsTree). Some (part word v y, rest)) (exprs_back more)

-- a text that begins with no bracket
one_step : (cs : List ℕ) (t : TargetTree) (rest : List ℕ) → Stops (λ c. eqb c 40) cs → target_with (readers_at max_depth) cs ≡ Some (t, rest) → destination_at cs ≡ Some (one t, rest)
unfolding destination_at target_with
one_step [] t rest s h = absurd cc
one_step (c ∷ cs) t rest s h = rw (s, h) refl

target_stops : (d : ℕ) (t : TargetTree) (rest : List ℕ) → WellTarget d t → Stops (λ c. eqb c 40) (spell_target t ++ rest)
target_stops d (variable v) rest w =
    Begins-stops begins_reference (λ c. eqb c 40) (spell_reference v ++ rest) (λ c h. (reference_tests c h).2) (Begins-append begins_reference (spell_reference v) rest (reference_begins d v w))
target_stops d (part word name more) rest w = refl

destination_again : Again spell_destination WellDestination OperandEnds destination_at
unfolding destination_at
destination_again (one t) rest w s =
    one_step (spell_target t ++ rest) t rest (target_stops max_depth t rest w) (target_again max_depth (readers_at max_depth) (omega arith) (inner_again max_depth) (within_again max_depth) (below_again max_depth) t rest w s)
destination_again (several ts) rest w s =
    let again = target_again (max_depth - 1) (readers_at (max_depth - 1)) (omega arith) (inner_again (max_depth - 1)) (within_again (max_depth - 1)) (below_again (max_depth - 1)) in
    bracketed_again spell_target (WellTarget (max_depth - 1)) listed OperandEnds several destination_at (λ cs. refl) (λ cs. (refl, refl)) again ts rest w

assignment_step : (cs t u : List ℕ) (destination : DestinationTree) (value : ExprTree) (rest : List ℕ) → destination_at cs ≡ Some (destination, t) → past 61 t ≡ Some u → expr_at max_depth u ≡ Some (value, rest)
    → set_argument_at cs ≡ Some (assign destination value, rest)
unfolding set_argument_at
assignment_step cs t u destination value rest h k l = rw (h, k, l) refl

given_step : (cs t : List ℕ) (d : DestinationTree) (p : PrimaryTree) → destination_at cs ≡ Some (d, t) → past 61 t ≡ None → bare_destination d ≡ Some p → set_argument_at cs ≡ Some (indirect_args set_argument p, t)
unfolding set_argument_at
given_step cs t d p h k b = rw (h, k, b) refl

abbrev pub is_equals : ℕ → Bool
is_equals c = eqb c 61

pub set_argument_again : Again spell_arg (WellArg set_argument) (λ rest. Ends rest × Stops is_equals rest) set_argument_at
set_argument_again (assign destination value) rest w s =
    let u : List ℕ = spell_expr value ++ rest in
    ap set_argument_at (append_assoc (spell_destination destination) (61 ∷ spell_expr value) rest)
    ∙ assignment_step (spell_destination destination ++ 61 ∷ u) (61 ∷ u) u destination value rest (destination_again destination (61 ∷ u) w.0.0 refl) refl (expr_again max_depth (readers_at max_depth) (inner_again max_depth) (within_again max_depth) (handed_again max_depth) (below_again max_depth) (read_pattern_again max_depth) value rest w.0.1 s.0)
set_argument_again (indirect_args f p) rest w s =
    let v : ReferenceTree = indirect p no_exprs in
    let well : WellReference max_depth v = bare_well max_depth p w.2 in
    ap (λ (y : List ℕ). set_argument_at (y ++ rest)) (sym (bare_spelled p))
    ∙ given_step (spell_reference v ++ rest) rest (one (variable v)) p (destination_again (one (variable v)) rest well s.0.0) (not_past 61 rest s.1) refl
    ∙ ap (λ (g : FormTree). Some (indirect_args g p, rest)) (sym w.0)
set_argument_again a rest w s = absurd w.0

-- a variable begins an argument of SET, or a `$`, or a bracket
pub variable_begins : (c : ℕ) → begins_reference c ≡ true → begins_operand c ≡ true
variable_begins c h = grind (arith, nat_tests, h)

target_begins : (d : ℕ) (t : TargetTree) → WellTarget d t → Begins begins_operand (spell_target t)
target_begins d (variable v) w = Begins-weaker begins_reference begins_operand (spell_reference v) variable_begins (reference_begins d v w)
target_begins d (part word name more) w = refl

destination_begins : (d : DestinationTree) → WellDestination d → Begins begins_operand (spell_destination d)
destination_begins (one t) w = target_begins max_depth t w
destination_begins (several ts) w = refl

pub set_argument_begins : (a : ArgTree) → WellArg set_argument a → Begins begins_operand (spell_arg a)
set_argument_begins (assign d e) w = Begins-append begins_operand (spell_destination d) (61 ∷ spell_expr e) (destination_begins d w.0.0)
set_argument_begins (indirect_args f p) w = refl
set_argument_begins a w = absurd w.0
