-- SPDX-License-Identifier: Apache-2.0
use Rattle.std.proofs.Common.{◌≡◌, ◌++◌, drop}
use Rattle.mgrammar.specs.Grammar.{spell_more}
use Rattle.mtree.proofs.put_list.put_list.Given as goal

abbrev pub invariant-loop-other : goal.invariant-loop-other
invariant-loop-other g l = l.out ++ spell_more g.T.Listed.spelling (drop l.other-index l.rest) ≡ l.initial.out ++ spell_more g.T.Listed.spelling l.rest
