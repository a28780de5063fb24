-- SPDX-License-Identifier: Apache-2.0
use Rattle.mcache.proofs.CacheWords.{◌≡◌, IsIn}
use Rattle.mcache.proofs.EntryLists.{AreGone}
use Rattle.mcache.proofs.entries.forget_below.Given as goal

abbrev pub invariant-loop-bytes : goal.invariant-loop-bytes
invariant-loop-bytes l = record {
  kept : IsIn l.entries.entries l.fn.entries.entries;
  gone : AreGone l.entries.entries l.bytes-items l.bytes-index;
  cap : l.entries.cap ≡ l.fn.entries.cap;
}
