-- SPDX-License-Identifier: Apache-2.0
use Rattle.std.proofs.Common.{◌≡◌, ◌++◌, take, drop}
use Rattle.mgrammar.specs.ReadingWords.{run_of, after_run}
use Rattle.mscan.specs.Classes.{in_class}
use Rattle.mscan.proofs.runs.split_run.Given as goal

abbrev pub invariant-loop-byte : goal.invariant-loop-byte
invariant-loop-byte l = (l.count ≡ l.byte-index)
    × (run_of (in_class l.class) l.bytes ≡ take l.byte-index l.bytes ++ run_of (in_class l.class) (drop l.byte-index l.bytes))
    × (after_run (in_class l.class) l.bytes ≡ after_run (in_class l.class) (drop l.byte-index l.bytes))
