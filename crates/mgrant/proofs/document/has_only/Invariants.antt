-- SPDX-License-Identifier: Apache-2.0
use Rattle.mgrant.proofs.GrantWords.{◌≡◌, table_view, has_only, keys_view}
use Rattle.mgrant.proofs.Keys.{keys_only}
use Rattle.mgrant.proofs.document.has_only.Given as goal

abbrev pub invariant-loop-key : goal.invariant-loop-key
invariant-loop-key l =
    (goal.iterator-loop-key).can_next l.key-iterator ×
    (goal.iterator-loop-key).is_finite l.key-iterator ×
    (keys_only (keys_view l.keys) l.key-iterator ≡ has_only (keys_view l.keys) (table_view l.table))
