-- SPDX-License-Identifier: Apache-2.0
use Rattle.mmeaning.specs.LineMeaning.{tabbing}
use Rattle.mcommand.proofs.CommandLaws.{condition_tree, does_then, does_stopped}
use Rattle.mcommand.proofs.parts.Parts.formats.Goals as goal

pub returns-in_err-write_formats : goal.returns-in_err-write_formats
returns-in_err-write_formats g c = does_stopped (λ i (u : Unit {0}). tabbing i (condition_tree c.args.tab.now)) c.in_err-write_formats.ensures c.from_residual.ensures

pub returns : goal.returns
returns g c = does_then (λ i (u : Unit {0}). tabbing i (condition_tree c.args.tab.now)) c.in_ok-write_formats.ensures c.tabbing.ensures
