-- SPDX-License-Identifier: Apache-2.0
use Rattle.mlocal.proofs.LocalWords.{◌≡◌, ◌++◌, map, is_from, filter}
use Rattle.mlocal.proofs.subtree.keys_from.Given as goal

abbrev pub invariant-loop-entry : goal.invariant-loop-entry
invariant-loop-entry l = l.found.items ++ map (λ e. e.0) l.entry-iterator ≡ map (λ e. e.0) (filter (λ e. is_from l.low l.high e.0) l.values.entries)
