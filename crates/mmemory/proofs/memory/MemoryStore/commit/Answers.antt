-- SPDX-License-Identifier: Apache-2.0
use Rattle.mmemory.proofs.MemoryWords.{◌≡◌, true, None, map, drop, get_or, option_map, refl, ap, ◌∙◌, inl, View, Commits, OnlyCommits, no_doubt, undone, shown}
use Rattle.mmemory.proofs.MemoryWords.{now, moment, view_of, current, left_of}
use Rattle.mmemory.proofs.memory.MemoryStore.commit.Goals as goal

only_commits : (old new : View) → Commits old new → OnlyCommits old new
only_commits old new h = λ i. record (h.is i) { committed = new.committed }

pub returns-clause-ok : goal.returns-clause-ok
returns-clause-ok c _ =
    let s = c.args.self.now in
    let new = c.forget.new.self in
    let it = c.forget.ensures in
    let same : now new ≡ current s = it.now in
    let base : moment new 0 ≡ current s = ap (λ l. undone (drop 0 l) (now new)) it.log ∙ same in
    record {
      sound = refl;
      is = λ i. view_of (same i) (base i) (map (λ m. shown (moment new m)) (it.marks i)) (λ k. option_map (left_of (now new)) (get_or s.cursors.items k None));
    }

pub returns-clause-frame : goal.returns-clause-frame
returns-clause-frame c clean = only_commits _ _ (returns-clause-ok c clean)

pub returns-clause-crash : goal.returns-clause-crash
returns-clause-crash c db h = inl (refl, h ∙ ap (λ (v : View). v.committed) (returns-clause-ok c (no_doubt true refl)).is)
