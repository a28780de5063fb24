-- SPDX-License-Identifier: Apache-2.0
use Rattle.mmemory.proofs.MemoryLaws.{true, refl, sym, ◌∙◌, arith, MayRelist, no_doubt, Memory, memory_view, kept_both, each_at, still_there, more_relisted}
use Rattle.mmemory.proofs.MemoryLaws.{went_back, fails_to_relist, of_ok, of_err}
use Rattle.sqlite_trees.specs.declared.error.StoreError.TheVariants.{OutOfMemory}
use Rattle.mmemory.proofs.alter.MemoryAlter.relist.Goals as goal

pub relabel-requires : goal.relabel-requires
relabel-requires c =
    let s = c.args.self.now in
    let may = each_at (MayRelist (memory_view s)) c.args.changes.now c.loop-change.change-index _ (c.requires.each (no_doubt true refl)) c.loop-change-test.true in
    still_there s c.loop-change.self _ _ c.loop-change.invariant.done may

pub returns-then-is_err-clause-err : goal.returns-then-is_err-clause-err
returns-then-is_err-clause-err c =
    let s = c.args.self.now in
    let back : Memory = record { held = c.undo_to.new.self; cursors = c.loop-change.self.cursors; near = c.loop-change.self.near } in
    let kept = of_err c.relabel.result (sym c.is_err.ensures.value ∙ c.if-is_err.true) c.relabel.ensures.err in
    let it = c.undo_to.ensures in
    let past = kept_both s.held c.loop-change.self.held c.relabel.new.self c.loop-change.invariant.past kept.keeps in
    fails_to_relist s back OutOfMemory
    (went_back s.held c.relabel.new.self c.undo_to.new.self c.len-len.result (omega (arith, c.len-len.ensures, s.held.log.ok.0)) past it.past it.now (it.log (omega (arith, c.len-len.ensures, s.held.log.ok.0, past.longer))) it.marks)

pub loop-change-preserved : goal.loop-change-preserved
loop-change-preserved c =
    let s = c.args.self.now in
    let next : Memory = record { held = c.relabel.new.self; cursors = c.loop-change.self.cursors; near = c.loop-change.self.near } in
    let made = of_ok c.relabel.result (sym c.is_err.ensures.value ∙ c.if-is_err.false) c.relabel.ensures.ok in
    let may = each_at (MayRelist (memory_view s)) c.args.changes.now c.loop-change.change-index _ (c.requires.each (no_doubt true refl)) c.loop-change-test.true in
    record {
      past = kept_both s.held c.loop-change.self.held c.relabel.new.self c.loop-change.invariant.past made.keeps;
      done =
          more_relisted s c.loop-change.self next c.args.changes.now c.loop-change.change-index _ c.loop-change-test.true c.loop-change.invariant.done may made;
    }
