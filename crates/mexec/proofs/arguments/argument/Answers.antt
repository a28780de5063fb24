-- SPDX-License-Identifier: Apache-2.0
use Rattle.mexec.proofs.ExecLaws.{Ok, [], ◌∷◌, refl, with_locals, killed_except, newed, newed_except, form_of, destination_tree, expr_tree, reference_tree}
use Rattle.mexec.proofs.ExecLaws.{condition_tree, kind_tree, locked_tree, keyword_tree, primary_tree, called_tree, does_evaluated, at_done, stops, into_given}
use Rattle.mexec.proofs.ExecLaws.{entrance_of, start_of, completion_of, position_of, at_as, at_gives, at_depth, goes_on, goes_here, gives_over, enters_where}
use Rattle.mexec.proofs.ExecLaws.{entered_where, neither, where_enters, coding_here, formatting_here, hanging_here, killing_here, locking_here, merging_here}
use Rattle.mexec.proofs.ExecLaws.{returning_here, setting_here, showing_here, testing_here}
use Rattle.mgrammar.specs.CallsIn.{has_call, has_call_actuals, has_call_optional}
use Rattle.mmeaning.specs.LineMeaning as meaning
use Rattle.mmeaning.specs.Locking.{locking}
use Rattle.mmeaning.specs.Merging.{merging}
use Rattle.mexec.specs.Arguments.{IsReady}
use Rattle.mexec.specs.declared.completion.Completion.TheVariants as completion
use Rattle.mexec.proofs.arguments.argument.Goals as goal

pub returns-in-Assign-clause-does : goal.returns-in-Assign-clause-does
returns-in-Assign-clause-does g c =
    let quiet = rw c.in-Assign.is at c.requires in
    let p = c.args.position.now in
    rw (c.in-Assign.is, c.done.ensures) (gives_over entrance_of _ (goes_here p (λ i. meaning.setting i (destination_tree c.in-Assign.destination) (expr_tree c.in-Assign.e)) (setting_here (position_of p) (destination_tree c.in-Assign.destination) (expr_tree c.in-Assign.e) quiet) c.setting.result c.setting.ensures))

pub returns-in-Formats-clause-does : goal.returns-in-Formats-clause-does
returns-in-Formats-clause-does g c =
    let quiet = rw c.in-Formats.is at c.requires in
    let does = rw c.as_bytes.ensures.bytes at c.formats.ensures in
    let p = c.args.position.now in
    rw (c.in-Formats.is, c.done-in-Formats.ensures) (gives_over entrance_of _ (goes_here p (λ i. meaning.formatting i c.in-Formats.run' (condition_tree c.in-Formats.tab)) (formatting_here (position_of p) c.in-Formats.run' (condition_tree c.in-Formats.tab) quiet) c.formats.result does))

pub returns-in-Coded-clause-does : goal.returns-in-Coded-clause-does
returns-in-Coded-clause-does g c =
    let quiet = rw c.in-Coded.is at c.requires in
    let p = c.args.position.now in
    rw (c.in-Coded.is, c.done-in-Coded.ensures) (gives_over entrance_of _ (goes_here p (λ i. meaning.coding i (expr_tree c.in-Coded.e)) (coding_here (position_of p) (expr_tree c.in-Coded.e) quiet) c.coding.result c.coding.ensures))

pub returns-in-Value-clause-does : goal.returns-in-Value-clause-does
returns-in-Value-clause-does g c =
    let quiet = rw c.in-Value.is at c.requires in
    let p = c.args.position.now in
    rw (c.in-Value.is, c.done-in-Value.ensures) (gives_over entrance_of _ (goes_here p (λ i. meaning.showing i (expr_tree c.in-Value.e)) (showing_here (position_of p) (expr_tree c.in-Value.e) quiet) c.showing.result c.showing.ensures))

pub returns-in-KillOne-clause-does : goal.returns-in-KillOne-clause-does
returns-in-KillOne-clause-does g c =
    let quiet = rw c.in-KillOne.is at c.requires in
    let p = c.args.position.now in
    rw (c.in-KillOne.is, c.done-in-KillOne.ensures) (gives_over entrance_of _ (goes_here p (λ i. meaning.killing i (reference_tree c.in-KillOne.reference)) (killing_here (position_of p) (reference_tree c.in-KillOne.reference) quiet) c.killing.result c.killing.ensures))

pub returns-in-MergeOne-clause-does : goal.returns-in-MergeOne-clause-does
returns-in-MergeOne-clause-does g c =
    let quiet = rw c.in-MergeOne.is at c.requires in
    let p = c.args.position.now in
    let target = reference_tree c.in-MergeOne.target in
    let source = reference_tree c.in-MergeOne.source in
    rw (c.in-MergeOne.is, c.done-in-MergeOne.ensures)
    (gives_over entrance_of _
    (goes_here p (λ i. merging i target source) (merging_here (position_of p) target source quiet) c.merging.result c.merging.ensures))

pub returns-in-NewOne-clause-does : goal.returns-in-NewOne-clause-does
returns-in-NewOne-clause-does g c =
    rw (c.in-NewOne.is, c.done-in-NewOne.ensures) (gives_over entrance_of _ (goes_on (λ i. with_locals (newed (c.in-NewOne.name ∷ []))) c.args.position.now.depth c.hide_one.result (does_evaluated c.hide_one.ensures)))

pub returns-in-KillOthers-clause-does : goal.returns-in-KillOthers-clause-does
returns-in-KillOthers-clause-does g c =
    let does = rw c.deref.ensures.value at c.kill_others.ensures in
    rw (c.in-KillOthers.is, c.done-in-KillOthers.ensures) (gives_over entrance_of _ (goes_on (λ i. with_locals (killed_except c.in-KillOthers.names.items)) c.args.position.now.depth (Ok tt) (does_evaluated does)))

pub returns-in-NewOthers-clause-does : goal.returns-in-NewOthers-clause-does
returns-in-NewOthers-clause-does g c =
    let does = rw c.deref-in-NewOthers.ensures.value at c.hide_others.ensures in
    rw (c.in-NewOthers.is, c.done-in-NewOthers.ensures) (gives_over entrance_of _ (goes_on (λ i. with_locals (newed_except c.in-NewOthers.names.items)) c.args.position.now.depth c.hide_others.result (does_evaluated does)))

pub returns-in-Tested-clause-does : goal.returns-in-Tested-clause-does
returns-in-Tested-clause-does g c =
    let quiet = rw c.in-Tested.is at c.requires in
    let here = testing_here (position_of c.args.position.now) (expr_tree c.in-Tested.e) quiet in
    rw (c.in-Tested.is, c.over.ensures) (gives_over entrance_of c.tested.result (at_as here (at_depth c.args.position.now.depth c.tested.ensures)))

pub returns-in-Returned-clause-does : goal.returns-in-Returned-clause-does
returns-in-Returned-clause-does g c =
    let quiet = rw c.in-Returned.is at c.requires in
    let here = returning_here (position_of c.args.position.now) (expr_tree c.in-Returned.e) quiet in
    rw (c.in-Returned.is, c.over-in-Returned.ensures) (gives_over entrance_of c.returning.result (at_as here (at_depth c.args.position.now.depth c.returning.ensures)))

pub returns-in-Loop-clause-does : goal.returns-in-Loop-clause-does
returns-in-Loop-clause-does g c =
    rw (c.in-Loop.is, c.done-in-Loop.ensures) (at_depth c.args.position.now.depth (gives_over entrance_of (Ok completion.GoOn) (at_gives meaning.Go_on completion_of completion.GoOn refl)))

pub returns-in-DoOne-clause-does : goal.returns-in-DoOne-clause-does
returns-in-DoOne-clause-does g c =
    let both = neither (has_call_actuals (called_tree c.in-DoOne.called).1) (has_call_optional (condition_tree c.in-DoOne.condition)) (rw c.in-DoOne.is at c.requires) in
    rw (c.in-DoOne.is, c.enters.ensures) (entered_where c.args.position.now (condition_tree c.in-DoOne.condition) both.1 _ c.holds.result c.holds.ensures)

pub returns-in-DoOne-clause-enters : goal.returns-in-DoOne-clause-enters
returns-in-DoOne-clause-enters g c all at =
    let both = neither (has_call_actuals (called_tree c.in-DoOne.called).1) (has_call_optional (condition_tree c.in-DoOne.condition)) (rw c.in-DoOne.is at c.requires) in
    rw c.enters.ensures (where_enters (IsReady all at) c.holds.result _ both.0)

pub returns-in-GoTo-clause-does : goal.returns-in-GoTo-clause-does
returns-in-GoTo-clause-does g c =
    rw (c.in-GoTo.is, c.over-in-GoTo.ensures) (gives_over entrance_of c.going.result (at_depth c.args.position.now.depth c.going.ensures))

pub returns-in-Executed-clause-does : goal.returns-in-Executed-clause-does
returns-in-Executed-clause-does g c =
    let both = neither (has_call (expr_tree c.in-Executed.e)) (has_call_optional (condition_tree c.in-Executed.condition)) (rw c.in-Executed.is at c.requires) in
    rw (c.in-Executed.is, c.enters-in-Executed.ensures) (entered_where c.args.position.now (condition_tree c.in-Executed.condition) both.1 _ c.holds-in-Executed.result c.holds-in-Executed.ensures)

pub returns-in-Executed-clause-enters : goal.returns-in-Executed-clause-enters
returns-in-Executed-clause-enters g c all at =
    let both = neither (has_call (expr_tree c.in-Executed.e)) (has_call_optional (condition_tree c.in-Executed.condition)) (rw c.in-Executed.is at c.requires) in
    rw c.enters-in-Executed.ensures (where_enters (IsReady all at) c.holds-in-Executed.result _ both.0)

pub returns-in-Lock-clause-does : goal.returns-in-Lock-clause-does
returns-in-Lock-clause-does g c =
    let quiet = rw c.in-Lock.is at c.requires in
    let p = c.args.position.now in
    rw (c.in-Lock.is, c.done-in-Lock.ensures) (gives_over entrance_of _ (goes_here p (λ i. locking i (kind_tree c.in-Lock.kind) (locked_tree c.in-Lock.names) (condition_tree c.in-Lock.timeout)) (locking_here (position_of p) (kind_tree c.in-Lock.kind) (locked_tree c.in-Lock.names) (condition_tree c.in-Lock.timeout) quiet) c.locking.result c.locking.ensures))

pub returns-in-HangFor-clause-does : goal.returns-in-HangFor-clause-does
returns-in-HangFor-clause-does g c =
    let quiet = rw c.in-HangFor.is at c.requires in
    let p = c.args.position.now in
    rw (c.in-HangFor.is, c.done-in-HangFor.ensures) (gives_over entrance_of _ (goes_here p (λ i. meaning.hanging i (expr_tree c.in-HangFor.seconds)) (hanging_here (position_of p) (expr_tree c.in-HangFor.seconds) quiet) c.hanging.result c.hanging.ensures))

pub returns-in-Indirect-clause-does : goal.returns-in-Indirect-clause-does
returns-in-Indirect-clause-does g c =
    let begun = stops (into_given (form_of (keyword_tree c.in-Indirect.keyword)) (primary_tree c.in-Indirect.operand)) in
    rw c.in-Indirect.is (at_depth c.args.position.now.depth (at_gives begun start_of _ refl))

pub returns-in-Indirect-clause-enters : goal.returns-in-Indirect-clause-enters
returns-in-Indirect-clause-enters g c all at = rw c.in-Indirect.is at c.requires
