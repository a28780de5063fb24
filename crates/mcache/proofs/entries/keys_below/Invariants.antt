-- SPDX-License-Identifier: Apache-2.0
use Rattle.mcache.proofs.EntryLists.{Noted}
use Rattle.mcache.proofs.entries.keys_below.Given as goal

abbrev pub invariant-loop-bytes : goal.invariant-loop-bytes
invariant-loop-bytes l = Noted l.entries.entries l.key l.keys.items l.bytes-iterator
