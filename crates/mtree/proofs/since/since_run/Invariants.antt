-- SPDX-License-Identifier: Apache-2.0
use Rattle.std.proofs.Common.{◌≡◌, drop}
use Rattle.std.specs.Prelude.{max}
use Rattle.mgrammar.specs.Languages.{since_all, since_format}
use Rattle.mtree.proofs.since.since_run.Given as goal

abbrev pub invariant-loop-format : goal.invariant-loop-format
invariant-loop-format l = max l.since (since_all since_format (drop l.format-index l.run)) ≡ since_all since_format l.run
