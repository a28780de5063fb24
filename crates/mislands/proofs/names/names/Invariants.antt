-- SPDX-License-Identifier: Apache-2.0
use Rattle.mislands.proofs.IslandWords.{◌≡◌, ◌++◌, drop, option_map, items_view, array_view, each_read, written_name, texts_in}
use Rattle.mislands.proofs.names.names.Given as goal

abbrev pub invariant-loop-value : goal.invariant-loop-value
invariant-loop-value l = option_map (λ zs. texts_in l.all ++ zs) (each_read written_name (items_view (drop l.value-index l.values.items))) ≡ each_read written_name (array_view l.values)
