-- SPDX-License-Identifier: Apache-2.0
-- What is read of an argument of each form is spelled so, and what is spelled so is read. Those of SET stand in ReadingTargets.
use Rattle.mgrammar.proofs.GrammarWords.{FormTree, Read, cond, ◌≡◌, ℕ, zero, suc, ◌<◌, Bool, true, false, eqb, List, [], ◌∷◌, ◌++◌, length, Option, Some, None}
use Rattle.mgrammar.proofs.GrammarWords.{refl, ap, subst, ◌∙◌, append_assoc, arith, replicate, eqb-true, nat_tests, is_name_rest, AllAre, IsName, ExprTree}
use Rattle.mgrammar.proofs.GrammarWords.{ReferenceTree, ParameterTree, once, onward, until, ArgTree, formats, coded, shown, kill_one, kill_others, new_one}
use Rattle.mgrammar.proofs.GrammarWords.{new_others, tested, hang_for, returned, loop, kill_argument, new_argument, if_argument, hang_argument, quit_argument}
use Rattle.mgrammar.proofs.GrammarWords.{for_argument, write_argument, spell_expr, spell_reference, spell_list, spell_names, spell_parameter, spell_arg}
use Rattle.mgrammar.proofs.GrammarWords.{max_depth, WellExpr, WellReference, WellList, WellParameter, WellPlain, ◌>>=◌, run_of, after_run, name_at, past}
use Rattle.mgrammar.proofs.GrammarWords.{list_at, expr_at, readers_at, reference_with, write_argument_by, write_argument_at, names_at, kill_argument_at}
use Rattle.mgrammar.proofs.GrammarWords.{new_argument_at, if_argument_at, hang_argument_at, quit_argument_at, limit_by, increment_by, parameter_at}
use Rattle.mgrammar.proofs.GrammarWords.{for_argument_at, is_format, value_by, sym, append-nil}
use Rattle.mgrammar.proofs.ReadingBasics.{IsRead, Takes, Again, Stops, Begins, Begins-stops, Begins-append, Begins-weaker, bind_some, some_is, run_parts}
use Rattle.mgrammar.proofs.ReadingBasics.{run_again, past_takes, not_past, name_takes, name_again, Stops-weaker}
use Rattle.mgrammar.proofs.ReadingActuals.{is_caret}
use Rattle.mgrammar.proofs.ReadingLists.{joined_by, listed_or_one, bracketed_again, is_comma, list_takes, list_again}
use Rattle.mgrammar.proofs.ReadingReferences.{OperandEnds, Ends, begins_reference, name_begins_reference, reference_takes, reference_again, reference_begins}
use Rattle.mgrammar.proofs.ReadingPrimaries.{reference_tests}
use Rattle.mgrammar.proofs.ReadingExprs.{begins_operand, expr_begins, inner_takes, within_takes, below_takes, handed_takes, handed_again, inner_again}
use Rattle.mgrammar.proofs.ReadingExprs.{within_again, below_again, expr_takes, expr_again, read_pattern_takes, read_pattern_again}
use Rattle.mgrammar.proofs.ReadingOperators.{is_operator, no_format, no_match}
use Rattle.mgrammar.proofs.ReadingTargets.{variable_begins, is_equals}

-- ---- short forms

pub whole_takes : Takes spell_expr (WellExpr max_depth) (expr_at max_depth)
whole_takes = expr_takes max_depth (readers_at max_depth) (inner_takes max_depth) (within_takes max_depth) (handed_takes max_depth) (below_takes max_depth) (read_pattern_takes max_depth)

pub whole_again : Again spell_expr (WellExpr max_depth) Ends (expr_at max_depth)
whole_again = expr_again max_depth (readers_at max_depth) (inner_again max_depth) (within_again max_depth) (handed_again max_depth) (below_again max_depth) (read_pattern_again max_depth)

pub variable_takes : Takes spell_reference (WellReference max_depth) (reference_with (readers_at max_depth))
variable_takes = reference_takes max_depth (readers_at max_depth) (inner_takes max_depth) (below_takes max_depth)

pub variable_again : Again spell_reference (WellReference max_depth) OperandEnds (reference_with (readers_at max_depth))
variable_again = reference_again max_depth (readers_at max_depth) (inner_again max_depth) (below_again max_depth)

abbrev pub is_colon : ℕ → Bool
is_colon c = eqb c 58

-- ---- outputs

-- what may follow an argument
abbrev pub Follows : List ℕ → Type 0
Follows rest = Ends rest × Stops is_colon rest × Stops is_caret rest × Stops is_equals rest

operand_tests : (c : ℕ) → begins_operand c ≡ true → (is_format c ≡ false) × (eqb c 63 ≡ false) × (eqb c 42 ≡ false)
operand_tests c h = (grind (arith, nat_tests), grind (arith, nat_tests), grind (arith, nat_tests))

-- what begins an expression does not go on with a kind of characters that no operand begins with
operand_stops : (q : ℕ → Bool) (e : ExprTree) (rest : List ℕ) → ((c : ℕ) → begins_operand c ≡ true → q c ≡ false) → WellExpr max_depth e → Stops q (spell_expr e ++ rest)
operand_stops q e rest f w = Begins-stops begins_operand q (spell_expr e ++ rest) f (Begins-append begins_operand (spell_expr e) rest (expr_begins max_depth e w))

pub all_copies : (a : ℕ) (xs : List ℕ) → AllAre (λ c. eqb c a) xs → xs ≡ replicate (length xs) a
all_copies a [] h = refl
all_copies a (c ∷ cs) h = let at : c ≡ a = eqb-true _ _ h.0 in rw (← at) (ap (λ (y : List ℕ). c ∷ y) (rw at (all_copies a cs h.1)))

pub copies_are : (a n : ℕ) → eqb a a ≡ true → AllAre (λ c. eqb c a) (replicate n a)
copies_are a zero h = tt
copies_are a (suc n) h = (h, copies_are a n h)

-- as write_argument_takes, where no format is in front
value_takes : (cs : List ℕ) (o : Option (List ℕ)) (x : ArgTree × List ℕ) → past 42 cs ≡ o → value_by cs o ≡ Some x → IsRead spell_arg (WellPlain write_argument) cs x
value_takes cs None x h e =
    let b = bind_some (expr_at max_depth cs) (λ y. Some (shown y.0, y.1)) x e in
    let t = whole_takes cs b.0 b.1 in
    subst (IsRead spell_arg (WellPlain write_argument) cs) (some_is (shown b.0.0, b.0.1) x b.2) t
value_takes cs (Some rest) x h e =
    let b = bind_some (expr_at max_depth rest) (λ y. Some (coded y.0, y.1)) x e in
    let t = whole_takes rest b.0 b.1 in
    subst (IsRead spell_arg (WellPlain write_argument) cs) (some_is (coded b.0.0, b.0.1) x b.2) (past_takes 42 cs rest h ∙ ap (λ (y : List ℕ). 42 ∷ y) t.0, t.1)

-- with this run of formats in front
formats_take : (run cs : List ℕ) (o : Option (List ℕ)) (x : ArgTree × List ℕ) → AllAre is_format run → past 63 cs ≡ o → write_argument_by run cs o ≡ Some x
    → IsRead spell_arg (WellPlain write_argument) (run ++ cs) x
formats_take run cs (Some rest) x all h e =
    let b = bind_some (expr_at max_depth rest) (λ y. Some (formats run (Some y.0), y.1)) x e in
    let t = whole_takes rest b.0 b.1 in
    let parts : run ++ cs ≡ (run ++ 63 ∷ spell_expr b.0.0) ++ b.0.1 =
    ap (λ (y : List ℕ). run ++ y) (past_takes 63 cs rest h ∙ ap (λ (y : List ℕ). 63 ∷ y) t.0) ∙ sym (append_assoc run (63 ∷ spell_expr b.0.0) b.0.1) in
    subst (IsRead spell_arg (WellPlain write_argument) (run ++ cs)) (some_is (formats run (Some b.0.0), b.0.1) x b.2) (parts, (all, t.1))
formats_take [] cs None x all h e = value_takes cs (past 42 cs) x refl e
formats_take (f ∷ fs) cs None x all h e =
    let long : 0 < length (f ∷ fs) = omega arith in
    let parts : (f ∷ fs) ++ cs ≡ ((f ∷ fs) ++ []) ++ cs = ap (λ (y : List ℕ). y ++ cs) (sym (append-nil (f ∷ fs))) in
    subst (IsRead spell_arg (WellPlain write_argument) ((f ∷ fs) ++ cs)) (some_is (formats (f ∷ fs) None, cs) x e) (parts, (long, all))

pub write_argument_takes : Takes spell_arg (WellPlain write_argument) write_argument_at
unfolding write_argument_at
write_argument_takes cs x e =
    let r = run_parts is_format cs in
    let t = formats_take (run_of is_format cs) (after_run is_format cs) (past 63 (after_run is_format cs)) x r.1 refl e in
    (r.0 ∙ t.0, t.1)

pub write_argument_again : Again spell_arg (WellPlain write_argument) Follows write_argument_at
unfolding write_argument_at
write_argument_again (formats [] None) rest w s = absurd (let none = w.0 in omega (arith, none))
write_argument_again (formats (f ∷ fs) None) rest w s =
    let r = run_again is_format (f ∷ fs) rest w.1 (Stops-weaker is_operator is_format rest no_format s.0.1) in
    let no_tab = not_past 63 rest (Stops-weaker is_operator (λ c. eqb c 63) rest no_match s.0.1) in
    rw (append-nil fs, r.0, r.1, no_tab) refl
write_argument_again (formats [] (Some e)) rest w s = rw (whole_again e rest w.1 s.0) refl
write_argument_again (formats (f ∷ fs) (Some e)) rest w s =
    let r = run_again is_format (f ∷ fs) (63 ∷ (spell_expr e ++ rest)) w.0 refl in
    rw (append_assoc fs (63 ∷ spell_expr e) rest, r.0, r.1, whole_again e rest w.1 s.0) refl
write_argument_again (coded e) rest w s = rw (whole_again e rest w s.0) refl
write_argument_again (shown e) rest w s =
    let r = run_again is_format [] (spell_expr e ++ rest) tt (operand_stops is_format e rest (λ c h. (operand_tests c h).0) w) in
    let no_tab = not_past 63 (spell_expr e ++ rest) (operand_stops (λ c. eqb c 63) e rest (λ c h. (operand_tests c h).1) w) in
    let no_code = not_past 42 (spell_expr e ++ rest) (operand_stops (λ c. eqb c 42) e rest (λ c h. (operand_tests c h).2) w) in
    rw (r.0, r.1, no_tab, no_code, whole_again e rest w s.0) refl
write_argument_again a rest w s = absurd w

-- ---- names in brackets

abbrev closed : List (List ℕ) × List ℕ → Option (List ℕ) → Option (List (List ℕ) × List ℕ)
closed y o = o >>= λ rest. Some (y.0, rest)

abbrev made_of : {B : Type 0} → (List (List ℕ) → B) → List (List ℕ) × List ℕ → Option (B × List ℕ)
made_of made y = Some (made y.0, y.1)

-- the list of the names, and the tree made of it, at once
names_made : {B : Type 0} (made : List (List ℕ) → B) (o : Option (List (List ℕ) × List ℕ)) → ((o >>= λ y. closed y (past 41 y.1)) >>= made_of made) ≡ (o >>= λ y. past 41 y.1 >>= λ rest. Some (made y.0, rest))
names_made made None = refl
names_made made (Some y) = made_closed (past 41 y.1)
  where
    made_closed : (o : Option (List ℕ)) → (closed y o >>= made_of made) ≡ (o >>= λ rest. Some (made y.0, rest))
    made_closed None = refl
    made_closed (Some rest) = refl

-- names in brackets, or one thing, as KILL and NEW have them
module _ {A : Type 0} (form : FormTree) (spell : A → List ℕ) (W : A → Type 0) (single : List ℕ → Read A) (others : List (List ℕ) → ArgTree) (one : A → ArgTree) where
  names_or_one : Takes spell W single → (c : ℕ) (cs : List ℕ) (x : ArgTree × List ℕ)
      → cond (eqb c 40) (names_at cs >>= made_of others) (single (c ∷ cs) >>= λ v. Some (one v.0, v.1)) ≡ Some x
      → ((names : List (List ℕ)) (rest : List ℕ) → c ∷ cs ≡ spell_names names ++ rest → WellList IsName names → IsRead spell_arg (WellPlain form) (c ∷ cs) (others names, rest))
      → ((v : A) (rest : List ℕ) → c ∷ cs ≡ spell v ++ rest → W v → IsRead spell_arg (WellPlain form) (c ∷ cs) (one v, rest)) → IsRead spell_arg (WellPlain form) (c ∷ cs) x
  unfolding names_at
  names_or_one takes c cs x e =
      listed_or_one (λ n. n) IsName name_at others spell W single one (IsRead spell_arg (WellPlain form) (c ∷ cs)) name_takes takes c cs x
      (ap (λ o. cond (eqb c 40) o (single (c ∷ cs) >>= λ v. Some (one v.0, v.1))) (sym (names_made others (list_at name_at cs))) ∙ e)

names_again : (others : List (List ℕ) → ArgTree) (read : List ℕ → Read ArgTree) → ((cs : List ℕ) → read (40 ∷ cs) ≡ (names_at cs >>= made_of others))
    → (names : List (List ℕ)) (rest : List ℕ) → WellList IsName names → read (spell_names names ++ rest) ≡ Some (others names, rest)
unfolding names_at
names_again others read opens =
    bracketed_again (λ n. n) IsName name_at (Stops is_name_rest) others read (λ cs. opens cs ∙ names_made others (list_at name_at cs)) (λ cs. (refl, refl)) name_again

-- ---- KILL and NEW

pub kill_argument_takes : Takes spell_arg (WellPlain kill_argument) kill_argument_at
unfolding kill_argument_at
kill_argument_takes [] x e = absurd cc
kill_argument_takes (c ∷ cs) x e =
    names_or_one kill_argument spell_reference (WellReference max_depth) (reference_with (readers_at max_depth)) kill_others kill_one variable_takes c cs x e (λ names rest q w. (q, w)) (λ v rest q w. (q, w))

kill_one_step : (cs : List ℕ) (v : ReferenceTree) (rest : List ℕ) → Begins begins_reference cs → reference_with (readers_at max_depth) cs ≡ Some (v, rest) → kill_argument_at cs ≡ Some (kill_one v, rest)
unfolding kill_argument_at
kill_one_step [] v rest b h = absurd b
kill_one_step (c ∷ cs) v rest b h = rw ((reference_tests c b).2, h) refl

pub kill_argument_again : Again spell_arg (WellPlain kill_argument) OperandEnds kill_argument_at
unfolding kill_argument_at
kill_argument_again (kill_one v) rest w s =
    kill_one_step (spell_reference v ++ rest) v rest (Begins-append begins_reference (spell_reference v) rest (reference_begins max_depth v w)) (variable_again v rest w s)
kill_argument_again (kill_others names) rest w s = names_again kill_others kill_argument_at (λ cs. refl) names rest w
kill_argument_again a rest w s = absurd w

pub new_argument_takes : Takes spell_arg (WellPlain new_argument) new_argument_at
unfolding new_argument_at
new_argument_takes [] x e = absurd cc
new_argument_takes (c ∷ cs) x e =
    names_or_one new_argument (λ n. n) IsName name_at new_others new_one name_takes c cs x e (λ names rest q w. (q, w)) (λ v rest q w. (q, w))

new_one_step : (n rest : List ℕ) → IsName n → Stops is_name_rest rest → new_argument_at (n ++ rest) ≡ Some (new_one n, rest)
unfolding new_argument_at
new_one_step [] rest w s = absurd w
new_one_step (c ∷ n) rest w s = rw ((reference_tests c (name_begins_reference c w.0)).2, name_again (c ∷ n) rest w s) refl

pub new_argument_again : Again spell_arg (WellPlain new_argument) (Stops is_name_rest) new_argument_at
unfolding new_argument_at
new_argument_again (new_one n) rest w s = new_one_step n rest w s
new_argument_again (new_others names) rest w s = names_again new_others new_argument_at (λ cs. refl) names rest w
new_argument_again a rest w s = absurd w

-- ---- conditions of IF

pub if_argument_takes : Takes spell_arg (WellPlain if_argument) if_argument_at
unfolding if_argument_at
if_argument_takes cs x e =
    let b = bind_some (expr_at max_depth cs) (λ y. Some (tested y.0, y.1)) x e in
    subst (IsRead spell_arg (WellPlain if_argument) cs) (some_is (tested b.0.0, b.0.1) x b.2) (whole_takes cs b.0 b.1)

pub if_argument_again : Again spell_arg (WellPlain if_argument) Ends if_argument_at
unfolding if_argument_at
if_argument_again (tested e) rest w s = rw (whole_again e rest w s) refl
if_argument_again a rest w s = absurd w

-- ---- seconds of HANG

pub hang_argument_takes : Takes spell_arg (WellPlain hang_argument) hang_argument_at
unfolding hang_argument_at
hang_argument_takes cs x e =
    let b = bind_some (expr_at max_depth cs) (λ y. Some (hang_for y.0, y.1)) x e in
    subst (IsRead spell_arg (WellPlain hang_argument) cs) (some_is (hang_for b.0.0, b.0.1) x b.2) (whole_takes cs b.0 b.1)

pub quit_argument_takes : Takes spell_arg (WellPlain quit_argument) quit_argument_at
unfolding quit_argument_at
quit_argument_takes cs x e =
    let b = bind_some (expr_at max_depth cs) (λ y. Some (returned y.0, y.1)) x e in
    subst (IsRead spell_arg (WellPlain quit_argument) cs) (some_is (returned b.0.0, b.0.1) x b.2) (whole_takes cs b.0 b.1)

pub quit_argument_again : Again spell_arg (WellPlain quit_argument) Ends quit_argument_at
unfolding quit_argument_at
quit_argument_again (returned e) rest w s = rw (whole_again e rest w s) refl
quit_argument_again a rest w s = absurd w

pub hang_argument_again : Again spell_arg (WellPlain hang_argument) Ends hang_argument_at
unfolding hang_argument_at
hang_argument_again (hang_for e) rest w s = rw (whole_again e rest w s) refl
hang_argument_again a rest w s = absurd w

-- ---- parameters of FOR

-- what may follow a parameter
abbrev pub ParameterEnds : List ℕ → Type 0
ParameterEnds rest = Ends rest × Stops is_colon rest

three_parts : (cs a t u b v w c rest : List ℕ) → cs ≡ a ++ t → t ≡ 58 ∷ u → u ≡ b ++ v → v ≡ 58 ∷ w → w ≡ c ++ rest → cs ≡ (a ++ 58 ∷ (b ++ 58 ∷ c)) ++ rest
three_parts cs a t u b v w c rest p q s y z =
    let whole : cs ≡ a ++ 58 ∷ (b ++ 58 ∷ (c ++ rest)) = rw (p, q, s, y, z) refl in
    let same : (a ++ 58 ∷ (b ++ 58 ∷ c)) ++ rest ≡ a ++ 58 ∷ (b ++ 58 ∷ (c ++ rest)) = simp append_assoc in
    whole ∙ sym same

limit_takes : (cs t u v : List ℕ) (e by : ExprTree) (o : Option (List ℕ)) (x : ParameterTree × List ℕ) → cs ≡ spell_expr e ++ t → t ≡ 58 ∷ u → u ≡ spell_expr by ++ v → WellExpr max_depth e → WellExpr max_depth by
    → past 58 v ≡ o → limit_by e by v o ≡ Some x → IsRead spell_parameter WellParameter cs x
limit_takes cs t u v e by None x p q s w z h k = subst (IsRead spell_parameter WellParameter cs) {x = (onward e by, v)} (some_is (onward e by, v) x k) (joined_by 58 cs (spell_expr e) t u (spell_expr by) v p q s, (w, z))
limit_takes cs t u v e by (Some rest) x p q s w z h k =
    let b = bind_some (expr_at max_depth rest) (λ to. Some (until e by to.0, to.1)) x k in
    let to = whole_takes rest b.0 b.1 in
    subst (IsRead spell_parameter WellParameter cs) {x = (until e by b.0.0, b.0.1)} (some_is (until e by b.0.0, b.0.1) x b.2)
    (three_parts cs (spell_expr e) t u (spell_expr by) v rest (spell_expr b.0.0) b.0.1 p q s (past_takes 58 v rest h) to.0, (w, z, to.1))

increment_takes : (cs t : List ℕ) (e : ExprTree) (o : Option (List ℕ)) (x : ParameterTree × List ℕ) → cs ≡ spell_expr e ++ t → WellExpr max_depth e → past 58 t ≡ o → increment_by e t o ≡ Some x → IsRead spell_parameter WellParameter cs x
increment_takes cs t e None x p w h k = subst (IsRead spell_parameter WellParameter cs) {x = (once e, t)} (some_is (once e, t) x k) (p, w)
increment_takes cs t e (Some rest) x p w h k =
    let b = bind_some (expr_at max_depth rest) (λ by. limit_by e by.0 by.1 (past 58 by.1)) x k in
    let by = whole_takes rest b.0 b.1 in
    limit_takes cs t rest b.0.1 e b.0.0 (past 58 b.0.1) x p (past_takes 58 t rest h) by.0 w by.1 refl b.2

parameter_takes : Takes spell_parameter WellParameter parameter_at
unfolding parameter_at
parameter_takes cs x e =
    let b = bind_some (expr_at max_depth cs) (λ e. increment_by e.0 e.1 (past 58 e.1)) x e in
    let t = whole_takes cs b.0 b.1 in
    increment_takes cs b.0.1 b.0.0 (past 58 b.0.1) x t.0 t.1 refl b.2

once_step : (cs : List ℕ) (e : ExprTree) (rest : List ℕ) → expr_at max_depth cs ≡ Some (e, rest) → past 58 rest ≡ None → parameter_at cs ≡ Some (once e, rest)
unfolding parameter_at
once_step cs e rest h k = rw (h, k) refl

onward_step : (cs u : List ℕ) (e by : ExprTree) (rest : List ℕ) → expr_at max_depth cs ≡ Some (e, 58 ∷ u) → expr_at max_depth u ≡ Some (by, rest) → past 58 rest ≡ None → parameter_at cs ≡ Some (onward e by, rest)
unfolding parameter_at
onward_step cs u e by rest h k l = rw (h, k, l) refl

until_step : (cs u v : List ℕ) (e by to : ExprTree) (rest : List ℕ) → expr_at max_depth cs ≡ Some (e, 58 ∷ u) → expr_at max_depth u ≡ Some (by, 58 ∷ v) → expr_at max_depth v ≡ Some (to, rest) → parameter_at cs ≡ Some (until e by to, rest)
unfolding parameter_at
until_step cs u v e by to rest h k l = rw (h, k, l) refl

parameter_again : Again spell_parameter WellParameter ParameterEnds parameter_at
parameter_again (once e) rest w s = once_step (spell_expr e ++ rest) e rest (whole_again e rest w s.0) (not_past 58 rest s.1)
parameter_again (onward e by) rest w s =
    ap parameter_at (append_assoc (spell_expr e) (58 ∷ spell_expr by) rest)
    ∙ onward_step (spell_expr e ++ 58 ∷ (spell_expr by ++ rest)) (spell_expr by ++ rest) e by rest (whole_again e (58 ∷ (spell_expr by ++ rest)) w.0 (refl, refl)) (whole_again by rest w.1 s.0) (not_past 58 rest s.1)
parameter_again (until e by to) rest w s =
    let u : List ℕ = spell_expr by ++ 58 ∷ (spell_expr to ++ rest) in
    let parts : (spell_expr e ++ 58 ∷ (spell_expr by ++ 58 ∷ spell_expr to)) ++ rest ≡ spell_expr e ++ 58 ∷ u = simp append_assoc in
    ap parameter_at parts
    ∙ until_step (spell_expr e ++ 58 ∷ u) u (spell_expr to ++ rest) e by to rest (whole_again e (58 ∷ u) w.0 (refl, refl)) (whole_again by (58 ∷ (spell_expr to ++ rest)) w.1 (refl, refl)) (whole_again to rest w.2 s.0)

pub for_argument_takes : Takes spell_arg (WellPlain for_argument) for_argument_at
unfolding for_argument_at
for_argument_takes cs x e =
    let n = bind_some (name_at cs) (λ n. past 61 n.1 >>= λ rest. list_at parameter_at rest >>= λ x. Some (loop n.0 x.0, x.1)) x e in
    let k = bind_some (past 61 n.0.1) (λ rest. list_at parameter_at rest >>= λ x. Some (loop n.0.0 x.0, x.1)) x n.2 in
    let b = bind_some (list_at parameter_at k.0) (λ x. Some (loop n.0.0 x.0, x.1)) x k.2 in
    let name = name_takes cs n.0 n.1 in
    let equals = past_takes 61 n.0.1 k.0 k.1 in
    let all = list_takes spell_parameter WellParameter parameter_at parameter_takes k.0 b.0 b.1 in
    let made : ArgTree × List ℕ = (loop n.0.0 b.0.0, b.0.1) in
    subst (IsRead spell_arg (WellPlain for_argument) cs) {x = made} (some_is made x b.2)
    (joined_by 61 cs n.0.0 n.0.1 k.0 (spell_list spell_parameter b.0.0) b.0.1 name.0 equals all.0, (name.1, all.1))

loop_step : (cs n t u : List ℕ) (ps : List ParameterTree) (rest : List ℕ) → name_at cs ≡ Some (n, t) → past 61 t ≡ Some u → list_at parameter_at u ≡ Some (ps, rest) → for_argument_at cs ≡ Some (loop n ps, rest)
unfolding for_argument_at
loop_step cs n t u ps rest h k l = rw (h, k, l) refl

-- a comma would go on with the parameters
pub for_argument_again : Again spell_arg (WellPlain for_argument) (λ rest. ParameterEnds rest × Stops is_comma rest) for_argument_at
for_argument_again (loop index parameters) rest w s =
    let u : List ℕ = spell_list spell_parameter parameters ++ rest in
    ap for_argument_at (append_assoc index (61 ∷ spell_list spell_parameter parameters) rest)
    ∙ loop_step (index ++ 61 ∷ u) index (61 ∷ u) u parameters rest (name_again index (61 ∷ u) w.0 refl) refl
    (list_again spell_parameter WellParameter parameter_at ParameterEnds (λ cs. ((refl, refl), refl)) parameter_again parameters rest w.1 s)
for_argument_again a rest w s = absurd w

-- ---- where an argument begins

pub names_begin : (n : List ℕ) → IsName n → Begins begins_operand n
names_begin [] w = absurd w
names_begin (c ∷ n) w = variable_begins c (name_begins_reference c w.0)

pub kill_argument_begins : (a : ArgTree) → WellPlain kill_argument a → Begins begins_operand (spell_arg a)
kill_argument_begins (kill_one v) w = Begins-weaker begins_reference begins_operand (spell_reference v) variable_begins (reference_begins max_depth v w)
kill_argument_begins (kill_others names) w = refl
kill_argument_begins a w = absurd w

pub new_argument_begins : (a : ArgTree) → WellPlain new_argument a → Begins begins_operand (spell_arg a)
new_argument_begins (new_one n) w = names_begin n w
new_argument_begins (new_others names) w = refl
new_argument_begins a w = absurd w

pub if_argument_begins : (a : ArgTree) → WellPlain if_argument a → Begins begins_operand (spell_arg a)
if_argument_begins (tested e) w = expr_begins max_depth e w
if_argument_begins a w = absurd w

pub quit_argument_begins : (a : ArgTree) → WellPlain quit_argument a → Begins begins_operand (spell_arg a)
quit_argument_begins (returned e) w = expr_begins max_depth e w
quit_argument_begins a w = absurd w

pub hang_argument_begins : (a : ArgTree) → WellPlain hang_argument a → Begins begins_operand (spell_arg a)
hang_argument_begins (hang_for e) w = expr_begins max_depth e w
hang_argument_begins a w = absurd w

pub for_argument_begins : (a : ArgTree) → WellPlain for_argument a → Begins begins_operand (spell_arg a)
for_argument_begins (loop index parameters) w = Begins-append begins_operand index (61 ∷ spell_list spell_parameter parameters) (names_begin index w.0)
for_argument_begins a w = absurd w
