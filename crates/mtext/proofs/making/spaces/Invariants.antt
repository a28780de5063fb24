-- SPDX-License-Identifier: Apache-2.0
use Rattle.mtext.proofs.TextWords.{◌≡◌, replicate}
use Rattle.mtext.proofs.making.spaces.Given as goal

abbrev pub invariant-loop : goal.invariant-loop
invariant-loop l = l.out ≡ replicate l.counter 32
