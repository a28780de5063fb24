-- SPDX-License-Identifier: Apache-2.0
use Rattle.std.proofs.Common.{arith}
use Rattle.std.proofs.lemmas.Grind.{common_steps}
use Rattle.mgrammar.proofs.ReadingLoops.{pushes}
use Rattle.mscan.proofs.runs.text_after.Goals as goal
use Rattle.mscan.proofs.runs.text_after.Goals.{then-byte-eq34, then-quoted+in_ok-push, else-quoted, else-byte-eq34+else-quoted-2+then-has+in_ok-push-2}

pub loop-i-preserved : goal.loop-i-preserved
loop-i-preserved c =
    elim c.if-byte-eq34.branch [
      | then-byte-eq34 w ↦ elim w.if-quoted.branch [ then-quoted+in_ok-push v ↦ grind (arith, common_steps, pushes) | else-quoted v ↦ grind (arith, common_steps, pushes) ]
      | else-byte-eq34+else-quoted-2+then-has+in_ok-push-2 w ↦ grind (arith, common_steps, pushes)
    ]
