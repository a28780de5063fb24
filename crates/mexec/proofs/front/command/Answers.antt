-- SPDX-License-Identifier: Apache-2.0
use Rattle.mexec.proofs.ExecLaws.{suc, ◌≡◌, Bool, map, cond, refl, Act, give}
use Rattle.mexec.proofs.ExecLaws.{Context, Go_on, context, keyword_tree, arg_tree, at_done, position_of, Progress, over}
use Rattle.mmeaning.proofs.ProgramSteps.{each_of}
use Rattle.mexec.proofs.ExecLaws.{effect_started, outcome_of, Stop, at_then, at_stopped, at_gives}
use Rattle.mexec.proofs.ExecLaws.{at_as, one_more, inside_of, condition_tree, holds_here, neither, Option}
use Rattle.mexec.proofs.ExecLaws.{ahead_before, arith, effect_stops, stops, ap, sym, ◌∙◌, DoesAt, Ghosts, Parts, Result, Code, Position}
use Rattle.std.specs.Prelude.{false}
use Rattle.mmeaning.specs.LineMeaning.{holds}
use Rattle.std.specs.List.{list_any}
use Rattle.mgrammar.specs.Grammar.{ExprTree}
use Rattle.mgrammar.specs.CallsIn.{has_call_arg, has_call_optional}
use Rattle.mgrammar.specs.ProgramsIn.{in_steps_args, in_steps_optional}
use Rattle.mtree.specs.Tree.{command_tree}
use Rattle.mexec.specs.Uncalled.{has_call_command}
use Rattle.mtree.specs.declared.tree.Command.{Command}
use Rattle.mexec.specs.Fronts.{at_condition, command_started, command_started_plainly}
use Rattle.mexec.specs.declared.completion.Progress as the_progress
use Rattle.mexec.specs.declared.front.Stop as the_stop
use Rattle.mexec.proofs.front.command.Goals as goal

-- once it is known whether its condition holds
abbrev applied : Context → Command → Bool → Act (Progress Stop)
applied x command b = cond b (effect_started x (keyword_tree command.keyword) (map arg_tree command.args.items)) (give (over Go_on))

-- its condition and its arguments call no function
abbrev condition : Command → Option ExprTree
condition command = condition_tree command.condition

apart : (command : Command) → has_call_command (command_tree command) ≡ false
    → (has_call_optional (condition command) ≡ false) × (list_any has_call_arg (map arg_tree command.args.items) ≡ false)
apart command quiet = neither (has_call_optional (condition command)) (list_any has_call_arg (map arg_tree command.args.items)) quiet

-- whether they do
without : (command : Command) (may_call : Bool) → (may_call ≡ false → has_call_command (command_tree command) ≡ false) → may_call ≡ false
    → has_call_optional (condition command) ≡ false
without command may_call plain h = (apart command (plain h)).0

pub calls_in_condition-requires : goal.calls_in_condition-requires
calls_in_condition-requires g c = without c.args.command.now c.args.may_call c.requires.plain

pub effect-requires-clause-plain : goal.effect-requires-clause-plain
effect-requires-clause-plain g c = λ h. rw c.deref.ensures.value (apart c.args.command.now (c.requires.plain h)).1

pub effect-requires-clause-stepped : goal.effect-requires-clause-stepped
effect-requires-clause-stepped g c =
    rw c.deref.ensures.value
    (each_of (in_steps_optional (condition c.args.command.now)) (in_steps_args (map arg_tree c.args.command.now.args.items)) c.requires.stepped).1

-- a command whose condition has no call
plainly : {S : Type 0} {g : Ghosts S} (p : Position) (command : Command) {old new : Parts S} {r : Result (the_progress.Progress the_stop.Stop) Code}
    → has_call_optional (condition command) ≡ false
    → DoesAt g (λ a n. command_started_plainly (context a (suc n) p) (command_tree command)) (outcome_of command.args.items) old r new
    → DoesAt g (λ a n. command_started (context a (suc n) p) (command_tree command)) (outcome_of command.args.items) old r new
plainly p command none does =
    at_as
    (λ a n. ap (λ b. cond b (give (stops (at_condition (command_tree command))))
    (command_started_plainly (context a (suc n) p) (command_tree command))) none) does

pub returns-in_err-applies-clause-does : goal.returns-in_err-applies-clause-does
returns-in_err-applies-clause-does g c =
    let none = c.if-calls_in_condition.false in
    let quiet = sym c.calls_in_condition.ensures ∙ none in
    plainly (position_of c.args.position.now) c.args.command.now quiet
    (at_stopped (λ a n. applied (context a (suc n) (position_of c.args.position.now)) c.args.command.now)
    (one_more (λ a n. holds (inside_of (context a n (position_of c.args.position.now))) (condition c.args.command.now))
    (at_as (holds_here (position_of c.args.position.now) (condition c.args.command.now) quiet)
    (at_done c.args.position.now.depth c.in_err-applies.ensures))) c.from_residual.ensures)

pub returns-then-applies-clause-does : goal.returns-then-applies-clause-does
returns-then-applies-clause-does g c =
    let none = c.if-calls_in_condition.false in
    let quiet = sym c.calls_in_condition.ensures ∙ none in
    let applies = rw c.if-applies.true at c.in_ok-applies.ensures in
    let effect = rw c.deref.ensures.value at c.effect.ensures.does in
    plainly (position_of c.args.position.now) c.args.command.now quiet
    (at_then (λ a n. applied (context a (suc n) (position_of c.args.position.now)) c.args.command.now)
    (one_more (λ a n. holds (inside_of (context a n (position_of c.args.position.now))) (condition c.args.command.now))
    (at_as (holds_here (position_of c.args.position.now) (condition c.args.command.now) quiet) (at_done c.args.position.now.depth applies))) effect)

pub returns-then-applies-clause-stops : goal.returns-then-applies-clause-stops
returns-then-applies-clause-stops g c =
    let stops = rw c.deref.ensures.value at c.effect.ensures.stops in
    effect_stops c.args.command.now c.effect.result stops

pub returns-else-applies-clause-does : goal.returns-else-applies-clause-does
returns-else-applies-clause-does g c =
    let none = c.if-calls_in_condition.false in
    let quiet = sym c.calls_in_condition.ensures ∙ none in
    let applies = rw c.if-applies.false at c.in_ok-applies.ensures in
    plainly (position_of c.args.position.now) c.args.command.now quiet
    (at_then (λ a n. applied (context a (suc n) (position_of c.args.position.now)) c.args.command.now)
    (one_more (λ a n. holds (inside_of (context a n (position_of c.args.position.now))) (condition c.args.command.now))
    (at_as (holds_here (position_of c.args.position.now) (condition c.args.command.now) quiet) (at_done c.args.position.now.depth applies)))
    (at_gives (over Go_on) (outcome_of c.args.command.now.args.items) _ refl))

pub returns-then-calls_in_condition-clause-does : goal.returns-then-calls_in_condition-clause-does
returns-then-calls_in_condition-clause-does g c =
    let has = sym c.calls_in_condition.ensures ∙ c.if-calls_in_condition.true in
    let command = c.args.command.now in
    at_as (λ a n. ap (λ b. cond b (give (stops (at_condition (command_tree command))))
    (command_started_plainly (context a (suc n) (position_of c.args.position.now)) (command_tree command))) has)
    (at_gives (stops (at_condition (command_tree command))) (outcome_of command.args.items) _ refl)

pub returns-then-calls_in_condition-clause-stops : goal.returns-then-calls_in_condition-clause-stops
returns-then-calls_in_condition-clause-stops g c =
    let has = sym c.calls_in_condition.ensures ∙ c.if-calls_in_condition.true in
    let command = c.args.command.now in
    (refl, has, (each_of (in_steps_optional (condition command)) (in_steps_args (map arg_tree command.args.items)) c.requires.stepped).0)

pub returns-then-calls_in_condition-clause-ahead : goal.returns-then-calls_in_condition-clause-ahead
returns-then-calls_in_condition-clause-ahead g c = omega arith

pub returns-then-applies-clause-ahead : goal.returns-then-applies-clause-ahead
returns-then-applies-clause-ahead g c = ahead_before _ _ _ c.effect.result c.in_ok-applies.ensures.keeps.eval.fewer c.effect.ensures.ahead
