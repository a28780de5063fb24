-- SPDX-License-Identifier: Apache-2.0
use Rattle.mcommand.proofs.CommandWords.{◌≡◌, ◌++◌, List, map, Prepared, prepared_view}
use Rattle.mmeaning.specs.LineMeaning as meaning
use Rattle.mcommand.proofs.set.all_own.Given as goal

abbrev pub invariant-loop-prepared : goal.invariant-loop-prepared
invariant-loop-prepared l =
    (left : List Prepared) → l.fn.all.items ≡ l.yielded ++ left → map prepared_view l.own.items ++ map prepared_view left ≡ map prepared_view l.fn.all.items
