-- SPDX-License-Identifier: Apache-2.0
use Rattle.mmemory.proofs.MemoryLaws.{◌≡◌, refl, ap, ◌∙◌, catalog_tree, objects_from, with_tree, version_twice, Memory, State, headings, rows_of, shown, now}
use Rattle.mmemory.proofs.MemoryLaws.{moment, KeepsShown, memory_view, view_of, current, marks_of, after_error, beside, fails}
use Rattle.mmemory.proofs.alter.MemoryAlter.set_version.Goals as goal

pub returns-in_err-set_version-clause-err : goal.returns-in_err-set_version-clause-err
returns-in_err-set_version-clause-err c =
    let s = c.args.self.now in
    let new : Memory = record { held = c.set_version.new.self; cursors = c.clear.new.self; near = c.args.self.now.near } in
    let it = c.in_err-set_version.ensures in
    let same : now new.held ≡ now s.held = λ i. record { trees = it.trees i; version = it.version i } in
    let kept : KeepsShown s.held new.held = record { keeps = it.past; shown_is = ap shown same } in
    fails s new c.from_residual.result (after_error _ kept)

pub returns-clause-ok : goal.returns-clause-ok
returns-clause-ok c _ =
    let s = c.args.self.now in
    let v = c.args.version in
    let new : Memory = record { held = c.set_version.new.self; cursors = c.clear.new.self; near = c.args.self.now.near } in
    let it = c.in_ok-set_version.ensures in
    let made : State = record { trees = (current s).trees; version = v } in
    let same : current new ≡ made = λ i. record { trees = it.trees i; version = it.version i } in
    let seen = (memory_view new).cursors in
    let db = with_tree (rows_of (current s)) catalog_tree (objects_from 0 (headings (current s))) in
    record {
      sound = refl;
      is = beside s new it.past ∙ (λ i. view_of (same i) (moment s.held 0) (marks_of s) seen)
          ∙ (λ i. record (memory_view s) { trees = version_twice db (current s).version v i; cursors = seen });
    }
