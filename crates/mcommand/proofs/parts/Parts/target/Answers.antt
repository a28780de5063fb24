-- SPDX-License-Identifier: Apache-2.0
use Rattle.mcommand.proofs.CommandLaws.{◌≡◌, true, ap, subst, ◌∙◌, entry_tree, does_is, does_then, does_stopped, does_spoken, target_in, target_is}
use Rattle.std.specs.Prelude.{IfOk, slice_get}
use Rattle.mmeaning.specs.Levels.{has_dots}
use Rattle.mcommand.specs.Targets.{target_among}
use Rattle.mcommand.proofs.parts.Parts.target.Goals as goal

pub returns-in_err-copy-clause-does : goal.returns-in_err-copy-clause-does
returns-in_err-copy-clause-does g c =
    let e = entry_tree c.args.entry.now in
    does_is (λ i. target_is _ c.args.dots e) (does_stopped (λ i lines. target_in lines c.args.dots e) c.in_err-copy.ensures c.from_residual.ensures)

pub returns-clause-does : goal.returns-clause-does
returns-clause-does g c =
    let e = entry_tree c.args.entry.now in
    let found = rw c.language.ensures.language at c.among.ensures.does in
    does_is (λ i. target_is _ c.args.dots e)
    (does_then (λ i lines. target_in lines c.args.dots e) c.in_ok-copy.ensures (does_spoken (λ l. target_among l c.in_ok-copy.copy.value.items c.args.dots e) found))

pub returns-clause-stands : goal.returns-clause-stands
returns-clause-stands g c =
    subst (λ l. IfOk c.among.result (λ target. has_dots l c.args.dots (slice_get target.copy.value.items target.line) ≡ true))
    (c.language.ensures.language ∙ ap (λ b. b.given.language) c.in_ok-copy.ensures.keeps.eval.same) c.among.ensures.stands
