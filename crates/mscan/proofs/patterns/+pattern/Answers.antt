-- SPDX-License-Identifier: Apache-2.0
use Rattle.std.proofs.Common.{◌≡◌, ◌++◌, ◌∷◌, [], length, map, refl, rules}
use Rattle.std.proofs.lemmas.Result.{err_from_is_err_and}
use Rattle.std.proofs.lemmas.List.{map_push}
use Rattle.mtree.specs.Tree.{alternative_trees, atom_tree}
use Rattle.mgrammar.specs.ReadingWords.{many, after_comma, list_at, atom_with, pattern_with, group_at}
use Rattle.mgrammar.proofs.ReadingLoops.{goes_on, stops, is_done, list_begins, comma_goes_on, comma_stops}
use Rattle.mscan.proofs.Faults.{fails, list_fails, comma_fails}
use Rattle.mscan.proofs.patterns.+pattern.Goals as goal
use Rattle.mscan.proofs.patterns.+pattern.Goals.{atoms-else-loop-test, atoms-then-loop-test+in_ok-item+in_default, patterns-else-loop-test}
use Rattle.mscan.proofs.patterns.+pattern.Goals.{patterns-then-loop-test+in_default}

pub atoms-returns-in_err-item : goal.atoms-returns-in_err-item
atoms-returns-in_err-item t c =
    let item = atom_with (group_at c.args.depth) in
    let p = err_from_is_err_and c.from_residual.result c.from_residual.ensures.1 in
    rw (p.1, p.2) (fails item c.in_err-item.field-0.0 (map atom_tree c.loop.all.items) (length c.args.bytes.now) c.loop.counter c.loop.rest.now
    (many item (length c.args.bytes.now) c.args.bytes.now) c.loop-test.true c.in_err-item.ensures c.loop.invariant)

pub atoms-loop-preserved : goal.atoms-loop-preserved
atoms-loop-preserved t c =
    let item = atom_with (group_at c.args.depth) in
    let e : map atom_tree c.push.new.self.items ≡ map atom_tree c.loop.all.items ++ atom_tree c.in-Some.item ∷ [] = rw c.in_ok-push.ensures.items (map_push _ c.loop.all.items c.in-Some.item) in
    rw e (goes_on item (map atom_tree c.loop.all.items) (length c.args.bytes.now) c.loop.counter c.loop.rest.now (atom_tree c.in-Some.item) c.in-Some.after.now
    (many item (length c.args.bytes.now) c.args.bytes.now) c.loop-test.true (rw c.in-Some.is at c.in_ok-item.ensures) c.loop.invariant)

pub atoms-returns : goal.atoms-returns
atoms-returns t c =
    let item = atom_with (group_at c.args.depth) in
    elim c.loop-test.branch [
      | atoms-else-loop-test w ↦ is_done item (map atom_tree c.loop.all.items) (length c.args.bytes.now) c.loop.counter c.loop.rest.now
          (many item (length c.args.bytes.now) c.args.bytes.now) w.loop-test.false c.loop.invariant
      | atoms-then-loop-test+in_ok-item+in_default w ↦ stops item (map atom_tree c.loop.all.items) (length c.args.bytes.now) c.loop.counter c.loop.rest.now
          (many item (length c.args.bytes.now) c.args.bytes.now) w.loop-test.true (search rules) c.loop.invariant
    ]

pub patterns-returns-in_err-first : goal.patterns-returns-in_err-first
patterns-returns-in_err-first t c =
    let p = err_from_is_err_and c.from_residual.result c.from_residual.ensures.1 in
    rw (p.1, p.2) (list_fails (pattern_with (group_at c.args.depth)) c.in_err-first.field-0.0 c.args.bytes.now c.in_err-first.ensures)

pub patterns-loop-init : goal.patterns-loop-init
patterns-loop-init t c =
    let e : map alternative_trees c.push.new.self.items ≡ alternative_trees c.in_ok-first.first ∷ [] = rw (c.in_ok-push.ensures.items, c.new-all.ensures.items) refl in
    rw e (list_begins (pattern_with (group_at c.args.depth)) c.args.bytes.now (alternative_trees c.in_ok-first.first) c.in_ok-first.start.now c.in_ok-first.ensures)

pub patterns-returns-in_err-item : goal.patterns-returns-in_err-item
patterns-returns-in_err-item t c =
    let item = pattern_with (group_at c.args.depth) in
    let p = err_from_is_err_and c.from_residual-in_err-item.result c.from_residual-in_err-item.ensures.1 in
    rw (p.1, p.2) (comma_fails item c.in_err-item.field-0.0 (map alternative_trees c.loop.all.items) (length c.in_ok-first.start.now) c.loop.counter c.loop.rest.now c.in-Some.behind.now
    (list_at item c.args.bytes.now) c.loop-test.true (search rules) c.in_err-item.ensures c.loop.invariant)

pub patterns-loop-preserved : goal.patterns-loop-preserved
patterns-loop-preserved t c =
    let item = pattern_with (group_at c.args.depth) in
    let e : map alternative_trees c.push-in-loop.new.self.items ≡ map alternative_trees c.loop.all.items ++ alternative_trees c.in_ok-item.item ∷ [] = rw c.in_ok-push-2.ensures.items (map_push _ c.loop.all.items c.in_ok-item.item) in
    rw e (comma_goes_on item (map alternative_trees c.loop.all.items) (length c.in_ok-first.start.now) c.loop.counter c.loop.rest.now c.in-Some.behind.now (alternative_trees c.in_ok-item.item) c.in_ok-item.after.now
    (list_at item c.args.bytes.now) c.loop-test.true (search rules) c.in_ok-item.ensures c.loop.invariant)

pub patterns-returns : goal.patterns-returns
patterns-returns t c =
    let item = pattern_with (group_at c.args.depth) in
    elim c.loop-test.branch [
      | patterns-else-loop-test w ↦ is_done (after_comma item) (map alternative_trees c.loop.all.items) (length c.in_ok-first.start.now) c.loop.counter c.loop.rest.now (list_at item c.args.bytes.now) w.loop-test.false c.loop.invariant
      | patterns-then-loop-test+in_default w ↦ comma_stops item (map alternative_trees c.loop.all.items) (length c.in_ok-first.start.now) c.loop.counter c.loop.rest.now (list_at item c.args.bytes.now) w.loop-test.true (search rules) c.loop.invariant
    ]
