-- SPDX-License-Identifier: Apache-2.0
use Rattle.mexec.proofs.ExecLaws.{refl, give, closing_of, completion_of, at_as, at_then, at_gives, at_yielded, value_taken, value_refused, value_missed}
use Rattle.mexec.proofs.ExecLaws.{closed_plainly}
use Rattle.mmeaning.specs.LineMeaning.{Returns}
use Rattle.mexec.specs.declared.completion.Completion.TheVariants as completion
use Rattle.mexec.proofs.levels.closed.Goals as goal

pub returns-then-wants_value : goal.returns-then-wants_value
returns-then-wants_value g c =
    let v = c.in-Returns.value.value in
    rw c.in-Returns.is
    (at_as (λ a n. value_taken (closing_of c.args.closing) v (rw c.wants_value.ensures at c.if-wants_value.true))
    (at_then (λ a n _. give (Returns v)) c.close.ensures (at_gives (Returns v) completion_of (completion.Returns c.in-Returns.value) refl)))

pub returns-else-wants_value : goal.returns-else-wants_value
returns-else-wants_value g c =
    rw c.in-Returns.is (at_as (λ a n. value_refused (closing_of c.args.closing) c.in-Returns.value.value (rw c.wants_value.ensures at c.if-wants_value.false)) (at_yielded (record { ends = λ s. refl })))

pub returns-then-wants_value-2 : goal.returns-then-wants_value-2
returns-then-wants_value-2 g c =
    at_as (λ a n. value_missed (closing_of c.args.closing) c.args.completion (rw c.wants_value-in_default.ensures at c.if-wants_value-2.true) c.in_default.not-Returns) (at_yielded (record { ends = λ s. refl }))

pub returns-else-wants_value-2 : goal.returns-else-wants_value-2
returns-else-wants_value-2 g c =
    at_as (λ a n. closed_plainly (closing_of c.args.closing) c.args.completion (rw c.wants_value-in_default.ensures at c.if-wants_value-2.false) c.in_default.not-Returns)
    (at_then (λ a n _. give (completion_of c.args.completion)) c.close-else-wants_value-2.ensures (at_gives _ completion_of c.args.completion refl))
