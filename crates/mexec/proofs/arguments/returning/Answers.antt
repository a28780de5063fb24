-- SPDX-License-Identifier: Apache-2.0
use Rattle.mexec.proofs.ExecLaws.{ap, give, Text, at_evaluated, completion_of, at_then, at_stopped, at_wanting, at_gives}
use Rattle.mmeaning.specs.LineMeaning as meaning
use Rattle.mexec.specs.declared.completion.Completion.TheVariants as completion
use Rattle.mexec.proofs.arguments.returning.Goals as goal

pub returns-in_err-value : goal.returns-in_err-value
returns-in_err-value g c = at_stopped (λ a n (x : Text). give (meaning.Returns x)) (at_evaluated c.args.position.now.depth c.in_err-value.ensures.does) c.from_residual.ensures

pub returns : goal.returns
returns g c =
    at_then (λ a n (x : Text). give (meaning.Returns x)) (at_evaluated c.args.position.now.depth c.in_ok-value.ensures.does)
    (at_gives (meaning.Returns c.in_ok-value.value) completion_of (completion.Returns c.in_ok-value-2.value) (ap meaning.Returns c.in_ok-value-2.ensures.ok))

pub returns-in_err-value-2 : goal.returns-in_err-value-2
returns-in_err-value-2 g c =
    at_then (λ a n (x : Text). give (meaning.Returns x)) (at_evaluated c.args.position.now.depth c.in_ok-value.ensures.does)
    (at_wanting (λ a n. give (meaning.Returns c.in_ok-value.value)) completion_of _ c.from_residual-in_err-value-2.ensures)
