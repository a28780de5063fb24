-- SPDX-License-Identifier: Apache-2.0
use Rattle.mexec.proofs.ExecLaws.{[], ◌+◌, ◌<◌, ◌≤◌, length, refl, arith, none_left, context, commands_from, completion_of, position_of, over, stops, front}
use Rattle.mexec.proofs.ExecLaws.{front_of, stop_of, at_gives, at_as, at_plain, command_begins, command_stopped, charge_stopped, passes_next, args_there}
use Rattle.mexec.proofs.ExecLaws.{item_there, one_stepped, one_uncalled, played_plain, played_stepped}
use Rattle.mgrammar.specs.CallsIn.{has_call_spaced}
use Rattle.mgrammar.specs.ProgramsIn.{in_steps_spaced}
use Rattle.mtree.specs.Tree.{spaced_tree}
use Rattle.mmeaning.specs.LineMeaning as meaning
use Rattle.mexec.specs.declared.completion.Completion.TheVariants as completion
use Rattle.mexec.specs.declared.completion.Progress.TheVariants as progress
use Rattle.mexec.proofs.front.commands_in_turn.Goals as goal

pub loop-at-init : goal.loop-at-init
loop-at-init g c = record {
  fewer = omega arith;
  leads = λ r p k. k;
}

pub returns-clause-does : goal.returns-clause-does
returns-clause-does g c =
    let v = c.args.line.now.commands in
    let test = rw c.len.ensures at c.loop-at-test.false in
    let past : length v.items ≤ c.loop-at.at = omega (arith, test, v.ok) in
    let leads = rw (none_left c.loop-at.at v.items past) at c.loop-at.invariant.leads in
    leads _ _ (at_gives (over meaning.Go_on, []) (front_of c.args.line.now) (progress.Over completion.GoOn, c.loop-at.at) (rw (none_left c.loop-at.at v.items past) refl))

pub returns-in_err-charge-clause-does : goal.returns-in_err-charge-clause-does
returns-in_err-charge-clause-does g c =
    let v = c.args.line.now.commands in
    let test = rw c.len.ensures at c.loop-at-test.true in
    let less : c.loop-at.at < length v.items = omega (arith, test, v.ok) in
    c.loop-at.invariant.leads _ _ (charge_stopped (position_of c.args.position.now) c.args.line.now c.loop-at.at less (at_plain c.in_err-charge.ensures.does) c.from_residual.ensures)

pub returns-in_err-completion-clause-does : goal.returns-in_err-completion-clause-does
returns-in_err-completion-clause-does g c =
    let v = c.args.line.now.commands in
    let test = rw c.len.ensures at c.loop-at-test.true in
    let less : c.loop-at.at < length v.items = omega (arith, test, v.ok) in
    c.loop-at.invariant.leads _ _ (command_stopped (position_of c.args.position.now) c.args.line.now c.loop-at.at c.index.result.now less c.index.ensures (at_plain c.in_ok-charge.ensures.does) c.in_ok-charge.ensures.spent c.in_err-completion.ensures.does c.from_residual-in_err-completion.ensures)

pub loop-at-preserved : goal.loop-at-preserved
loop-at-preserved g c =
    let v = c.args.line.now.commands in
    let test = rw c.len.ensures at c.loop-at-test.true in
    let less : c.loop-at.at < length v.items = omega (arith, test, v.ok) in
    let does = rw (c.in-Over.is, c.in-GoOn.is) at c.in_ok-completion.ensures.does in
    record {
      fewer = omega arith;
      leads = λ r q k.
          c.loop-at.invariant.leads r q
          (command_begins (position_of c.args.position.now) c.args.line.now c.loop-at.at c.index.result.now less c.index.ensures (at_plain c.in_ok-charge.ensures.does) c.in_ok-charge.ensures.spent does k);
    }

pub returns-in_default-clause-does : goal.returns-in_default-clause-does
returns-in_default-clause-does g c =
    let l = c.args.line.now in
    let p = position_of c.args.position.now in
    let test = rw c.len.ensures at c.loop-at-test.true in
    let less : c.loop-at.at < length l.commands.items = omega (arith, test, l.commands.ok) in
    let rest = commands_from l (c.loop-at.at + 1) in
    let s = c.in-Over.completion in
    let does = rw c.in-Over.is at c.in_ok-completion.ensures.does in
    c.loop-at.invariant.leads _ _
    (command_begins p l c.loop-at.at c.index.result.now less c.index.ensures (at_plain c.in_ok-charge.ensures.does) c.in_ok-charge.ensures.spent does
    (at_as (λ a n. passes_next s rest (front (context a n p) rest) c.in_default.not-GoOn) (at_gives (over (completion_of s), rest) (front_of l) (progress.Over s, c.loop-at.at + 1) refl)))

pub returns-in-Stops-clause-spent : goal.returns-in-Stops-clause-spent
returns-in-Stops-clause-spent g c =
    let before = c.loop-at.invariant.fewer in
    let spent = c.in_ok-charge.ensures.spent in
    let done = rw c.in-Stops.is at c.in_ok-completion.ensures.ahead in
    omega (arith, before, spent, done)

pub returns-in-Stops-clause-stops : goal.returns-in-Stops-clause-stops
returns-in-Stops-clause-stops g c =
    let l = c.args.line.now in
    let test = rw c.len.ensures at c.loop-at-test.true in
    let less : c.loop-at.at < length l.commands.items = omega (arith, test, l.commands.ok) in
    let there = rw c.in-Stops.is at c.in_ok-completion.ensures.stops in
    rw (item_there l.commands.items c.loop-at.at c.index.result.now less c.index.ensures) there

pub returns-in-Stops-clause-does : goal.returns-in-Stops-clause-does
returns-in-Stops-clause-does g c =
    let l = c.args.line.now in
    let test = rw c.len.ensures at c.loop-at-test.true in
    let less : c.loop-at.at < length l.commands.items = omega (arith, test, l.commands.ok) in
    let x = c.index.result.now in
    let st = c.in-Stops.stop in
    let there = args_there l c.loop-at.at x less c.index.ensures in
    let does = rw c.in-Stops.is at c.in_ok-completion.ensures.does in
    c.loop-at.invariant.leads _ _
    (command_begins (position_of c.args.position.now) l c.loop-at.at x less c.index.ensures (at_plain c.in_ok-charge.ensures.does) c.in_ok-charge.ensures.spent does
    (at_gives (stops (stop_of x.command.args.items st), commands_from l (c.loop-at.at + 1)) (front_of l) (progress.Stops st, c.loop-at.at + 1) (rw there refl)))

pub command-requires-clause-plain : goal.command-requires-clause-plain
command-requires-clause-plain g c =
    let v = c.args.line.now.commands in
    let test = rw c.len.ensures at c.loop-at-test.true in
    let less : c.loop-at.at < length v.items = omega (arith, test, v.ok) in
    λ h.
    one_uncalled has_call_spaced spaced_tree v.items c.loop-at.at c.index.result.now less c.index.ensures (played_plain c.args.line.now c.requires.played (c.requires.plain h))

pub command-requires-clause-stepped : goal.command-requires-clause-stepped
command-requires-clause-stepped g c =
    let v = c.args.line.now.commands in
    let test = rw c.len.ensures at c.loop-at-test.true in
    let less : c.loop-at.at < length v.items = omega (arith, test, v.ok) in
    one_stepped in_steps_spaced spaced_tree v.items c.loop-at.at c.index.result.now less c.index.ensures (played_stepped c.args.line.now c.requires.played)
