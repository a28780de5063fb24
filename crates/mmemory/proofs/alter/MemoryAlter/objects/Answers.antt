-- SPDX-License-Identifier: Apache-2.0
use Rattle.mmemory.proofs.MemoryLaws.{◌≡◌, ◌≢◌, ◌<◌, length, map, rules, sym, append_assoc, length-map, Absent, no_heading, objects_step, listed_unless_absent}
use Rattle.mmemory.proofs.MemoryLaws.{plain, heading, shown_at}
use Rattle.mmemory.proofs.alter.MemoryAlter.objects.Goals.{then-ne+in_ok-listing+in_ok-push, else-ne}
use Rattle.mmemory.proofs.alter.MemoryAlter.objects.Goals as goal

pub loop-at-preserved : goal.loop-at-preserved
loop-at-preserved c =
    let x = c.index-trees-at.result in
    let trees = c.as_slice-trees.result.now in
    let at = c.loop-at.at in
    let within : at < length (map heading (map plain trees)) = rw (length-map, length-map) c.loop-at-test.true in
    let there : at < length (map plain trees) = rw length-map c.loop-at-test.true in
    let is = shown_at heading (map plain trees) at no_heading (plain x) there (sym (shown_at plain trees at (plain x) x c.loop-at-test.true c.index-trees-at.is)) in
    let was = rw (objects_step (map heading (map plain trees)) at at (heading (plain x)) within is) at c.loop-at.invariant in
    elim c.if-ne.branch [
      | then-ne+in_ok-listing+in_ok-push w ↦
          let present : x.shape ≢ Absent = search rules in
          rw (w.rows-is, w.in_ok-push.ensures.items, w.in_ok-listing.ensures, append_assoc) (rw (listed_unless_absent _ _ _ present) at was)
      | else-ne w ↦ let absent : x.shape ≡ Absent = search rules in rw w.rows-is (rw absent at was)
    ]
