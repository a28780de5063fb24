-- SPDX-License-Identifier: Apache-2.0
use Rattle.std.proofs.Common.{sym, ◌∙◌, codes}
use Rattle.clap.specs.Words.{found_of}
use Rattle.clap.proofs.WalkLemmas.{first_value-rows}
use Rattle.mjob.proofs.command_line.settings_and_store.Goals as goal

pub returns-clause-ok : goal.returns-clause-ok
returns-clause-ok c = (sym (first_value-rows (found_of c.args.options.now) (codes "settings")) ∙ c.in_ok-settings.ensures.ok, c.in_ok-store.ensures.ok)
