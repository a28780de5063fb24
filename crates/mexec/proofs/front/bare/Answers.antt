-- SPDX-License-Identifier: Apache-2.0
use Rattle.mexec.proofs.ExecLaws.{Ok, [], not, refl, ask, with_locals, killed_except, newed_except, at_evaluated, does_evaluated, completion_of, stops}
use Rattle.mexec.proofs.ExecLaws.{at_turns, at_block, outcome_of, stop_of, at_then, at_gives, goes_on, gives_over, give, over, at_failed, at_yielded}
use Rattle.mspec.specs.Plan.{Release}
use Rattle.mmeaning.specs.LineMeaning as meaning
use Rattle.mexec.specs.declared.completion.Completion.TheVariants as completion
use Rattle.mexec.proofs.front.bare.Goals as goal

pub returns-in-For-clause-does : goal.returns-in-For-clause-does
returns-in-For-clause-does g c p = rw c.in-For.is (at_gives (stops at_turns) (outcome_of []) _ refl)

pub returns-in-Do-clause-does : goal.returns-in-Do-clause-does
returns-in-Do-clause-does g c p = rw c.in-Do.is (at_gives (stops at_block) (outcome_of []) _ refl)

pub returns-in-Kill-clause-does : goal.returns-in-Kill-clause-does
returns-in-Kill-clause-does g c p =
    rw (c.in-Kill.is, c.over-in-Kill.ensures)
    (gives_over (stop_of []) (Ok completion.GoOn) (goes_on (λ i. with_locals (killed_except [])) c.args.parts.now.eval.depth (Ok tt) (does_evaluated c.kill_others.ensures)))

pub returns-in-New-clause-does : goal.returns-in-New-clause-does
returns-in-New-clause-does g c p =
    rw (c.in-New.is, c.over-in-New.ensures, c.went_on.ensures) (gives_over (stop_of []) _ (goes_on (λ i. with_locals (newed_except [])) c.args.parts.now.eval.depth c.hide_others.result (does_evaluated c.hide_others.ensures)))

pub returns-in-If-clause-does : goal.returns-in-If-clause-does
returns-in-If-clause-does g c p =
    rw (c.in-If.is, c.over-in-If.ensures) (gives_over (stop_of []) (Ok c.where_true.result) (at_then (λ a n b. give (meaning.where_true b)) (at_evaluated c.args.parts.now.eval.depth c.test.ensures) (at_gives _ completion_of _ c.where_true.ensures)))

pub returns-in-Else-clause-does : goal.returns-in-Else-clause-does
returns-in-Else-clause-does g c p =
    rw (c.in-Else.is, c.over-in-Else.ensures) (gives_over (stop_of []) (Ok c.where_true-in-Else.result) (at_then (λ a n b. give (meaning.where_true (not b))) (at_evaluated c.args.parts.now.eval.depth c.test-in-Else.ensures) (at_gives _ completion_of _ c.where_true-in-Else.ensures)))

pub returns-in-Lock-clause-does : goal.returns-in-Lock-clause-does
returns-in-Lock-clause-does g c p =
    rw (c.in-Lock.is, c.over-in-Lock.ensures)
    (gives_over (stop_of []) (Ok completion.GoOn) (goes_on (λ i. ask Release) c.args.parts.now.eval.depth (Ok tt) c.release.ensures.does))

pub returns-in-Halt-clause-does : goal.returns-in-Halt-clause-does
returns-in-Halt-clause-does g c p = rw c.in-Halt.is (at_failed (λ a n s. give (over s)) {f = completion_of} (at_yielded (record { ends = λ s. refl })))

pub returns-in-HaltOrHang-clause-does : goal.returns-in-HaltOrHang-clause-does
returns-in-HaltOrHang-clause-does g c p =
    rw c.in-HaltOrHang.is (at_failed (λ a n s. give (over s)) {f = completion_of} (at_yielded (record { ends = λ s. refl })))
