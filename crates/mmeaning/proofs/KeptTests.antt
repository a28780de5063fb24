-- SPDX-License-Identifier: Apache-2.0
-- A function leaves $TEST as it was.
use Rattle.mmeaning.proofs.MeaningWords.{◌≡◌, Bool, List, Some, subst, refl, ap, Answer, Plan, Done, Ask, Ops, then_plan, perform, State, Outcome, Gives}
use Rattle.mmeaning.proofs.MeaningWords.{Fails, Act, on_gives, EntryTree, ActualsTree, Completion, Go_on, Skips, Quits, Goes, Context, closed, context}
use Rattle.mmeaning.proofs.MeaningWords.{answering, target, Shared}
use Rattle.mspec.specs.Scopes.{Binding}
use Rattle.mspec.specs.Act.{with_locals}
use Rattle.mmeaning.specs.Levels.{answers, a_level_free, deeper}
use Rattle.mmeaning.specs.Parameters.{bare_list, formals_of_target, formals_for, with_formals}
use Rattle.mmeaning.specs.LineMeaning.{Returns, at_depth, entering, answer, lines_called, returned_value}
use Rattle.mmeaning.specs.CallLaws.{FunctionKeepsTest}

-- each state that a plan may give something with is as Q says
AllGive : {A : Type 0} → (State → Type 0) → Plan (Outcome A) → Type 0
AllGive Q (Done (Gives a s)) = Q s
AllGive Q (Done (Fails c s)) = Unit {0}
AllGive Q (Ask op k) = (r : Answer op) → AllGive Q (k r)

module _ {A B : Type 0} (Q : State → Type 0) where
  -- if what comes last is so, from any state
  last_gives : (p : Plan (Outcome A)) (f : A → Act B) → ((x : A) (s : State) → AllGive Q (f x s)) → AllGive Q (then_plan p (on_gives f))
  unfolding AllGive
  last_gives (Done (Gives x s)) f all = all x s
  last_gives (Done (Fails c s)) f all = tt
  last_gives (Ask op k) f all = λ r. last_gives (k r) f all

  -- if what comes first is so, and the rest keeps it
  first_gives : (p : Plan (Outcome A)) (f : A → Act B) → AllGive Q p → ((x : A) (s : State) → Q s → AllGive Q (f x s)) → AllGive Q (then_plan p (on_gives f))
  unfolding AllGive
  first_gives (Done (Gives x s)) f first kept = kept x s first
  first_gives (Done (Fails c s)) f first kept = tt
  first_gives (Ask op k) f first kept = λ r. first_gives (k r) f (first r) kept

outcome_gives : {A : Type 0} (Q : State → Type 0) (o : Outcome A) (x : A) (after : State) (w left : Shared) → AllGive Q (Done o) → ◌≡◌ {A = Outcome A × Shared} (o, w) (Gives x after, left) → Q after
unfolding AllGive
outcome_gives Q (Gives y s) x after w left all e =
    let outcome : Gives y s ≡ Gives x after = ap (λ r. r.0) e in
    let same : s ≡ after = cc in
    subst Q same all
outcome_gives {A} Q (Fails c s) x after w left all e = absurd (let clash : ◌≡◌ {A = Outcome A} (Fails c s) (Gives x after) = ap (λ r. r.0) e in cc)

plan_gives : {A : Type 0} (Q : State → Type 0) (ops : Ops Shared) (p : Plan (Outcome A)) (x : A) (after : State) (w left : Shared) → AllGive Q p → perform ops p w ≡ (Gives x after, left) → Q after
unfolding AllGive
plan_gives Q ops (Done o) x after w left all e = outcome_gives Q o x after w left all e
plan_gives Q ops (Ask op k) x after w left all e = plan_gives Q ops (k (ops op w).0) x after (ops op w).1 left (all (ops op w).0) e

-- $TEST is this
abbrev Tests : Bool → State → Type 0
Tests b s = s.test ≡ b

closed_tests : (b : Bool) (s : Completion) (now : State) → AllGive (Tests b) (closed (answers b) s now)
unfolding AllGive
closed_tests b Go_on now = tt
closed_tests b Skips now = tt
closed_tests b Quits now = tt
closed_tests b (Goes t) now = tt
closed_tests b (Returns v) now = refl

entering_tests : (x : Context) (e : EntryTree) (xs : ActualsTree) (bs : List Binding) (b : Bool) (s : State)
    → AllGive (Tests b) (entering x e xs bs (answers b) s)
entering_tests x e xs bs b s =
    last_gives (Tests b) (a_level_free x.position.depth s) _ (λ u s2.
    last_gives (Tests b) (target x.position.level.copy 0 e s2) _ (λ t s3.
    last_gives (Tests b) (formals_of_target t s3) _ (λ names s4.
    last_gives (Tests b) (formals_for xs names bs s4) _ (λ formals s5.
    last_gives (Tests b) (with_locals (with_formals formals) s5) _ (λ v s6.
    last_gives (Tests b) (lines_called (record x { position = deeper (answers b) x.position (record { copy = t.copy; next = Some t.line; dots = 0 }) }) s6) _
    (λ k s7. closed_tests b k s7))))))

value_tests : (b : Bool) (s : Completion) (now : State) → Tests b now → AllGive (Tests b) (returned_value s now)
unfolding AllGive
value_tests b Go_on now h = tt
value_tests b Skips now h = tt
value_tests b Quits now h = tt
value_tests b (Goes t) now h = tt
value_tests b (Returns v) now h = h

answer_tests : (x : Context) (e : EntryTree) (bs : List Binding) (b : Bool) (s : State) → AllGive (Tests b) (answer x e bs b s)
answer_tests x e bs b s = first_gives (Tests b) (entering x e bare_list bs (answers b) s) returned_value (entering_tests x e bare_list bs b s) (value_tests b)

pub function_keeps_test : FunctionKeepsTest
function_keeps_test ops a n p d e hands s after w left x is =
    plan_gives (Tests s.test) ops (answering (context a n p) d e hands s) x after w left
    (last_gives (Tests s.test) (hands s) _ (λ bs s1. answer_tests (at_depth (context a n p) d) e bs s.test s1)) is
