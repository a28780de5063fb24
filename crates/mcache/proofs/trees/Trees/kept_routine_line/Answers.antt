-- SPDX-License-Identifier: Apache-2.0
use Rattle.mcache.proofs.Held.{routine_lines_looked, trees_found}
use Rattle.mcache.proofs.trees.Trees.kept_routine_line.Goals as goal

pub invariant_of-self : goal.invariant_of-self
invariant_of-self c = routine_lines_looked c.self.invariant c.args.text.now c.find.new.tree_cache.entries c.find.ensures.within c.find.ensures.count

pub returns-clause-tree : goal.returns-clause-tree
returns-clause-tree c = trees_found c.self.invariant c.args.text.now c.find.result c.find.ensures.found
