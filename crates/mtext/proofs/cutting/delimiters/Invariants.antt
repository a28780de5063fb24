-- SPDX-License-Identifier: Apache-2.0
use Rattle.mtext.proofs.TextWords.{◌-◌, ◌≤◌, length, IsBehind}
use Rattle.mtext.proofs.cutting.delimiters.Given as goal

abbrev pub invariant-loop-before : goal.invariant-loop-before
invariant-loop-before l = record { behind : IsBehind l.finder l.text l.passed l.at; few : l.passed ≤ l.at }

abbrev pub decreases-loop-before : goal.decreases-loop-before
decreases-loop-before l = length l.text - l.at
