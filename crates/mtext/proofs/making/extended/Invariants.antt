-- SPDX-License-Identifier: Apache-2.0
use Rattle.mtext.proofs.TextWords.{◌≡◌, ◌++◌, repeat}
use Rattle.mtext.proofs.making.extended.Given as goal

abbrev pub invariant-loop : goal.invariant-loop
invariant-loop l = l.out ≡ l.text ++ repeat l.counter l.delimiter
