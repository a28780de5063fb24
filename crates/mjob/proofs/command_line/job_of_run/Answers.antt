-- SPDX-License-Identifier: Apache-2.0
use Rattle.std.proofs.Common.{sym, ◌∙◌, ap, codes, Some}
use Rattle.clap.specs.Words.{found_of}
use Rattle.clap.proofs.WalkLemmas.{first_value-rows}
use Rattle.mjob.proofs.command_line.job_of_run.Goals as goal
use Rattle.mjob.proofs.command_line.job_of_run.Goals.{in-Some+in_ok-owned-in-Some, in-None}

pub returns-clause-ok : goal.returns-clause-ok
returns-clause-ok c =
    let f = found_of c.args.options.now in
    let only_is = first_value-rows f (codes "only") in (
      c.in_ok-settings.ensures.ok.0,
      c.in_ok-settings.ensures.ok.1,
      elim c.match-get_str.branch [
        | in-Some+in_ok-owned-in-Some w ↦ rw w.only-is (sym only_is ∙ (sym w.in-Some.ensures ∙ ap Some (sym w.in_ok-owned-in-Some.ensures.ok)))
        | in-None w ↦ rw w.only-is (sym only_is ∙ sym w.in-None.ensures)
      ],
    )
