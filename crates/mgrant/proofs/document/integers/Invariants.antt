-- SPDX-License-Identifier: Apache-2.0
use Rattle.mgrant.proofs.GrantWords.{◌≡◌, ◌++◌, drop, option_map, as_integer, items_view, array_view, each_read}

abbrev pub invariant-loop-value : Rattle.mgrant.proofs.document.integers.Given.invariant-loop-value
invariant-loop-value l = option_map (λ zs. l.all.items ++ zs) (each_read as_integer (items_view (drop l.value-index l.values.items))) ≡ each_read as_integer (array_view l.values)
