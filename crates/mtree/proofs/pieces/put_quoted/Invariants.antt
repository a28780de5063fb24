-- SPDX-License-Identifier: Apache-2.0
use Rattle.std.proofs.Common.{◌≡◌, ◌++◌, drop}
use Rattle.mgrammar.specs.Grammar.{quoted}
use Rattle.mtree.proofs.pieces.put_quoted.Given as goal

abbrev pub invariant-loop-byte : goal.invariant-loop-byte
invariant-loop-byte l = l.out ++ quoted (drop l.byte-index l.byte-items) ≡ l.fn.out ++ quoted l.fn.text
