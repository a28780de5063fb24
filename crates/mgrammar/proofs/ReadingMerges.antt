-- SPDX-License-Identifier: Apache-2.0
-- What is read of an argument of MERGE is spelled so, and what is spelled so is read.
use Rattle.mgrammar.proofs.GrammarWords.{◌≡◌, ℕ, List, [], ◌∷◌, ◌++◌, Option, Some, None, refl, sym, ap, subst, ◌∙◌, append_assoc, PrimaryTree, no_exprs}
use Rattle.mgrammar.proofs.GrammarWords.{ReferenceTree, indirect, ArgTree, indirect_args, FormTree, merge_argument, merge_one, spell_reference, spell_arg}
use Rattle.mgrammar.proofs.GrammarWords.{max_depth, bare_reference, WellReference, WellArg, ◌>>=◌, past, readers_at, reference_with, given_by}
use Rattle.mgrammar.proofs.GrammarWords.{merge_argument_by, merge_argument_at}
use Rattle.mgrammar.proofs.ReadingBasics.{IsRead, Takes, Again, Begins, Begins-append, Begins-weaker, bind_some, some_is, past_takes, not_past}
use Rattle.mgrammar.proofs.ReadingLists.{joined_by}
use Rattle.mgrammar.proofs.ReadingReferences.{begins_reference, reference_begins, bare_spelled, bare_well, bare_reference_is}
use Rattle.mgrammar.proofs.ReadingExprs.{begins_operand}
use Rattle.mgrammar.proofs.ReadingTargets.{variable_begins}
use Rattle.mgrammar.proofs.ReadingArguments.{Follows, variable_takes, variable_again}

-- ---- what is read is spelled so

-- a target that is an `@` with its operand alone, with no `=` after it
given_takes : (cs : List ℕ) (v : ReferenceTree) (t : List ℕ) (o : Option PrimaryTree) (x : ArgTree × List ℕ) → cs ≡ spell_reference v ++ t
    → WellReference max_depth v → bare_reference v ≡ o → given_by merge_argument t o ≡ Some x → IsRead spell_arg (WellArg merge_argument) cs x
given_takes cs v t None x p w h e = absurd cc
given_takes cs v t (Some q) x p w h e =
    let is = bare_reference_is max_depth v q h w in
    subst (IsRead spell_arg (WellArg merge_argument) cs) {x = (indirect_args merge_argument q, t)} (some_is (indirect_args merge_argument q, t) x e)
    (p ∙ ap (λ (y : List ℕ). y ++ t) is.0, (refl, refl, is.1))

takes_by : (cs : List ℕ) (v : ReferenceTree) (t : List ℕ) (o : Option (List ℕ)) (x : ArgTree × List ℕ) → cs ≡ spell_reference v ++ t → WellReference max_depth v
    → past 61 t ≡ o → merge_argument_by v t o ≡ Some x → IsRead spell_arg (WellArg merge_argument) cs x
takes_by cs v t None x p w h e = given_takes cs v t (bare_reference v) x p w refl e
takes_by cs v t (Some rest) x p w h e =
    let s = bind_some (reference_with (readers_at max_depth) rest) (λ s. Some (merge_one v s.0, s.1)) x e in
    let source = variable_takes rest s.0 s.1 in
    subst (IsRead spell_arg (WellArg merge_argument) cs) {x = (merge_one v s.0.0, s.0.1)} (some_is (merge_one v s.0.0, s.0.1) x s.2)
    (joined_by 61 cs (spell_reference v) t rest (spell_reference s.0.0) s.0.1 p (past_takes 61 t rest h) source.0, ((w, source.1), refl))

pub merge_argument_takes : Takes spell_arg (WellArg merge_argument) merge_argument_at
unfolding merge_argument_at
merge_argument_takes cs x e =
    let v = bind_some (reference_with (readers_at max_depth) cs) (λ v. merge_argument_by v.0 v.1 (past 61 v.1)) x e in
    let target = variable_takes cs v.0 v.1 in
    takes_by cs v.0.0 v.0.1 (past 61 v.0.1) x target.0 target.1 refl v.2

-- ---- what is spelled so is read

copy_step : (cs t u : List ℕ) (target source : ReferenceTree) (rest : List ℕ) → reference_with (readers_at max_depth) cs ≡ Some (target, t) → past 61 t ≡ Some u
    → reference_with (readers_at max_depth) u ≡ Some (source, rest)
    → merge_argument_at cs ≡ Some (merge_one target source, rest)
unfolding merge_argument_at
copy_step cs t u target source rest h k l = rw (h, k, l) refl

given_step : (cs t : List ℕ) (v : ReferenceTree) (p : PrimaryTree) → reference_with (readers_at max_depth) cs ≡ Some (v, t) → past 61 t ≡ None
    → bare_reference v ≡ Some p → merge_argument_at cs ≡ Some (indirect_args merge_argument p, t)
unfolding merge_argument_at
given_step cs t v p h k b = rw (h, k, b) refl

pub merge_argument_again : Again spell_arg (WellArg merge_argument) Follows merge_argument_at
merge_argument_again (merge_one target source) rest w s =
    let u : List ℕ = spell_reference source ++ rest in
    ap merge_argument_at (append_assoc (spell_reference target) (61 ∷ spell_reference source) rest)
    ∙ copy_step (spell_reference target ++ 61 ∷ u) (61 ∷ u) u target source rest
    (variable_again target (61 ∷ u) w.0.0 refl) refl (variable_again source rest w.0.1 s.0.0)
merge_argument_again (indirect_args f p) rest w s =
    let v : ReferenceTree = indirect p no_exprs in
    let well : WellReference max_depth v = bare_well max_depth p w.2 in
    ap (λ (y : List ℕ). merge_argument_at (y ++ rest)) (sym (bare_spelled p))
    ∙ given_step (spell_reference v ++ rest) rest v p (variable_again v rest well s.0.0) (not_past 61 rest s.3) refl
    ∙ ap (λ (g : FormTree). Some (indirect_args g p, rest)) (sym w.0)
merge_argument_again a rest w s = absurd w.0

pub merge_argument_begins : (a : ArgTree) → WellArg merge_argument a → Begins begins_operand (spell_arg a)
merge_argument_begins (merge_one target source) w =
    Begins-append begins_operand (spell_reference target) (61 ∷ spell_reference source)
    (Begins-weaker begins_reference begins_operand (spell_reference target) variable_begins (reference_begins max_depth target w.0.0))
merge_argument_begins (indirect_args f p) w = refl
merge_argument_begins a w = absurd w.0
