-- SPDX-License-Identifier: Apache-2.0
use Rattle.mgrant.proofs.GrantWords.{◌≡◌, ◌++◌, drop, map, option_map, items_view, array_view, each_read, written_by}
use Rattle.mgrant.proofs.document.list.Given as goal

abbrev pub invariant-loop-value : goal.invariant-loop-value
invariant-loop-value g l =
    option_map (λ zs. map g.E.Entry.seen l.all.items ++ zs) (each_read (written_by g.E.Entry.written) (items_view (drop l.value-index l.values.items))) ≡ each_read (written_by g.E.Entry.written) (array_view l.values)
