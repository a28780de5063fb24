-- SPDX-License-Identifier: Apache-2.0
use Rattle.std.proofs.Common.{codes, ◌∙◌, sym, ap, Some}
use Rattle.clap.specs.Words.{found_of}
use Rattle.clap.proofs.WalkLemmas.{first_value-rows}
use Rattle.mjob.proofs.command_line.store_of.Goals as goal

pub returns-in-Some-memory-clause-ok : goal.returns-in-Some-memory-clause-ok
returns-in-Some-memory-clause-ok c =
    sym (first_value-rows (found_of c.args.options.now) (codes "store")) ∙ (sym c.in-Some-memory.ensures ∙ ap Some c.in-Some-memory.is-memory)

pub returns-in_ok-owned-in-Some-clause-ok : goal.returns-in_ok-owned-in-Some-clause-ok
returns-in_ok-owned-in-Some-clause-ok c = (
  sym (first_value-rows (found_of c.args.options.now) (codes "store")) ∙ (sym c.in-Some.ensures ∙ ap Some (sym c.in_ok-owned-in-Some.ensures.ok)),
  λ e. c.in-Some.not-memory (sym c.in_ok-owned-in-Some.ensures.ok ∙ e),
)
