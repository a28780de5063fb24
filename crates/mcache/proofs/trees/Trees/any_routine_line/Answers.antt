-- SPDX-License-Identifier: Apache-2.0
use Rattle.mcache.proofs.CacheWords.{◌≡◌, Some, err_from_is_err_and, routine_line_at, routine_line_tree, Syntax}
use Rattle.mtree.specs.Tree.{IsBodyCounted}
use Rattle.mcache.proofs.Held.{with_routine_line, routine_lines_looked, counted_routine_line}
use Rattle.mcache.proofs.Texts.{routine_line_is, no_routine_line, handed_on}
use Rattle.mcache.proofs.trees.Trees.any_routine_line.Goals as goal

pub returns-in_err-parse_routine_line-clause-syntax : goal.returns-in_err-parse_routine_line-clause-syntax
returns-in_err-parse_routine_line-clause-syntax c h =
    let p = err_from_is_err_and c.from_residual.result c.from_residual.ensures.1 in
    no_routine_line c.args.text.now (c.in_err-parse_routine_line.ensures.syntax (handed_on c.from_residual.result p.0 c.in_err-parse_routine_line.field-0.0 Syntax p.1 p.2 h))

tree_is : (c : goal.After-keep) → routine_line_at c.args.text.now ≡ Some (routine_line_tree c.in_ok-line.line.value)
tree_is c = rw c.in_ok-line.ensures.ok (routine_line_is c.args.text.now (routine_line_tree c.in_ok-parse_routine_line.field-0) c.in_ok-parse_routine_line.ensures.tree)

counted : (c : goal.After-keep) → IsBodyCounted c.in_ok-line.line.value.body
counted c = rw c.in_ok-line.ensures.ok c.in_ok-parse_routine_line.ensures.counted

pub invariant_of-self-2 : goal.invariant_of-self-2
invariant_of-self-2 c = with_routine_line c.self.invariant c.args.text.now c.in_ok-line.line.value c.find.new.tree_cache.entries c.make_room.new.routine_lines.entries c.keep.new.tree_cache.entries c.make_room.new.lines.entries c.find.ensures.within c.make_room.ensures.routine_lines c.make_room.ensures.lines c.make_room.ensures.room c.keep.ensures.within c.keep.ensures.count (tree_is c) (counted c)

pub returns-clause-tree : goal.returns-clause-tree
returns-clause-tree c = tree_is c

pub returns-then-not-is_wanted-clause-tree : goal.returns-then-not-is_wanted-clause-tree
returns-then-not-is_wanted-clause-tree c = rw c.in_ok-line.ensures.ok (routine_line_is c.args.text.now (routine_line_tree c.in_ok-parse_routine_line.field-0) c.in_ok-parse_routine_line.ensures.tree)

pub invariant_of-self : goal.invariant_of-self
invariant_of-self c = routine_lines_looked c.self.invariant c.args.text.now c.find.new.tree_cache.entries c.find.ensures.within c.find.ensures.count

pub returns-in-Some-clause-counted : goal.returns-in-Some-clause-counted
returns-in-Some-clause-counted c = counted_routine_line c.self.invariant c.args.text.now c.in-Some.line.value c.in-Some.ensures.found

pub invariant_of-self-in_err-parse_routine_line : goal.invariant_of-self-in_err-parse_routine_line
invariant_of-self-in_err-parse_routine_line c = routine_lines_looked c.self.invariant c.args.text.now c.find.new.tree_cache.entries c.find.ensures.within c.find.ensures.count

pub invariant_of-self-in_err-line : goal.invariant_of-self-in_err-line
invariant_of-self-in_err-line c = routine_lines_looked c.self.invariant c.args.text.now c.find.new.tree_cache.entries c.find.ensures.within c.find.ensures.count

pub invariant_of-self-then-not-is_wanted : goal.invariant_of-self-then-not-is_wanted
invariant_of-self-then-not-is_wanted c = routine_lines_looked c.self.invariant c.args.text.now c.find.new.tree_cache.entries c.find.ensures.within c.find.ensures.count
