-- SPDX-License-Identifier: Apache-2.0
use Rattle.mexec.proofs.ExecLaws.{[], Go_on, refl, context, position_of, at_as, at_gives, at_then, at_stopped, at_yielded}
use Rattle.mmeaning.specs.Programs.{over}
use Rattle.mexec.specs.Programs.{pause_of}
use Rattle.mexec.specs.declared.programs.Pause.TheVariants as pause
use Rattle.mexec.specs.declared.completion.Completion.TheVariants as completion
use Rattle.mprogram.specs.Views.{ending_view}
use Rattle.mcommand.specs.Steps.{items_view}
use Rattle.mexec.specs.Programs.{ends_with}
use Rattle.mexec.proofs.ProgramRuns.{pauses_over, ends_by_value}
use Rattle.mexec.proofs.programs.ended.Goals as goal

pub returns-in-Assign : goal.returns-in-Assign
returns-in-Assign g c = λ w. rw c.in-Assign.is (c.assigned.ensures (context [] 0 (position_of c.args.position.now)) w)

pub returns-in-Enter : goal.returns-in-Enter
returns-in-Enter g c = λ w. rw c.in-Enter.is (at_yielded (c.entered.ensures (context [] 0 (position_of c.args.position.now)) w))

pub returns-in-Go : goal.returns-in-Go
returns-in-Go g c = λ w. rw (c.in-Go.is, c.paused.ensures) (pauses_over w c.leads_to.result c.leads_to.ensures)

pub returns-in-Kill : goal.returns-in-Kill
returns-in-Kill g c = λ w. rw c.in-Kill.is (c.killed.ensures (context [] 0 (position_of c.args.position.now)) w)

pub returns-in-Merge : goal.returns-in-Merge
returns-in-Merge g c = λ w. rw c.in-Merge.is (c.merged.ensures (context [] 0 (position_of c.args.position.now)) w)

pub returns-in-Lock : goal.returns-in-Lock
returns-in-Lock g c = λ w. rw c.in-Lock.is (c.locked.ensures (context [] 0 (position_of c.args.position.now)) w)

pub returns-in-Nothing : goal.returns-in-Nothing
returns-in-Nothing g c = λ w. rw c.in-Nothing.is (at_gives (over Go_on) (pause_of w) (pause.Over completion.GoOn) refl)

pub returns-in-Loop : goal.returns-in-Loop
returns-in-Loop g c = λ w. rw c.in-Loop.is (c.looped.ensures (context [] 0 (position_of c.args.position.now)) [] [] w)

pub returns-in_err-value-in_default : goal.returns-in_err-value-in_default
returns-in_err-value-in_default g c = λ w.
    at_as
    (λ a n. ends_by_value (context a n (position_of c.args.position.now)) c.args.ending (items_view c.args.items.items) c.in_default.not-Assign
    c.in_default.not-Enter c.in_default.not-Go c.in_default.not-Kill c.in_default.not-Merge c.in_default.not-Lock c.in_default.not-Nothing
    c.in_default.not-Loop)
    (at_stopped (λ a n v. ends_with (ending_view c.args.ending) v.0) (at_yielded c.in_err-value-in_default.ensures) c.from_residual.ensures)

pub returns-in_ok-value-in_default : goal.returns-in_ok-value-in_default
returns-in_ok-value-in_default g c = λ w.
    at_as
    (λ a n. ends_by_value (context a n (position_of c.args.position.now)) c.args.ending (items_view c.args.items.items) c.in_default.not-Assign
    c.in_default.not-Enter c.in_default.not-Go c.in_default.not-Kill c.in_default.not-Merge c.in_default.not-Lock c.in_default.not-Nothing
    c.in_default.not-Loop)
    (at_then (λ a n v. ends_with (ending_view c.args.ending) v.0) (at_yielded c.in_ok-value-in_default.ensures) (c.ended_with.ensures w))
