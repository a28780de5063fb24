-- SPDX-License-Identifier: Apache-2.0
use Rattle.mscan.proofs.CharacterRuns.{run_below_128}
use Rattle.mscan.proofs.runs.run.Goals as goal

pub returns-clause-seven_bits : goal.returns-clause-seven_bits
returns-clause-seven_bits c = rw c.split_run.ensures.run (run_below_128 c.args.class c.args.bytes.now)
