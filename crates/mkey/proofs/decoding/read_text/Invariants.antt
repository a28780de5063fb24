-- SPDX-License-Identifier: Apache-2.0
use Rattle.mkey.proofs.KeyWords.{◌≡◌, ◌++◌, drop}
use Rattle.mkey.proofs.TextFronts.{raised_text}
use Rattle.mkey.proofs.decoding.read_text.Given as goal

abbrev pub invariant-loop-i : goal.invariant-loop-i
invariant-loop-i l = l.bytes ≡ raised_text l.text.items ++ drop l.i l.bytes
