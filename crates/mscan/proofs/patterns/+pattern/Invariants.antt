-- SPDX-License-Identifier: Apache-2.0
use Rattle.std.proofs.Common.{◌≡◌, ◌+◌, ◌*◌, ◌-◌, length, map}
use Rattle.mtree.specs.Tree.{alternative_trees, atom_tree}
use Rattle.mgrammar.specs.ReadingWords.{with_front, many, after_comma, list_at, atom_with, pattern_with, group_at}
use Rattle.mscan.proofs.patterns.+pattern.Given as goal

-- Brackets fall in number at `group` alone; each other call leads to a lower rank.

abbrev pub decreases-group : goal.decreases-group
decreases-group l = 8 * l.depth + 0

abbrev pub decreases-repeated : goal.decreases-repeated
decreases-repeated l = 8 * l.depth + 1

abbrev pub decreases-atom : goal.decreases-atom
decreases-atom l = 8 * l.depth + 2

abbrev pub decreases-atoms : goal.decreases-atoms
decreases-atoms l = 8 * l.depth + 3

abbrev pub decreases-some_atoms : goal.decreases-some_atoms
decreases-some_atoms l = 8 * l.depth + 4

abbrev pub decreases-alternative : goal.decreases-alternative
decreases-alternative l = 8 * l.depth + 5

abbrev pub decreases-patterns : goal.decreases-patterns
decreases-patterns l = 8 * l.depth + 6

abbrev pub invariant-atoms-loop : goal.invariant-atoms-loop
invariant-atoms-loop l =
    with_front (map atom_tree l.all.items) (many (atom_with (group_at l.depth)) (length l.bytes - l.counter) l.rest) ≡ many (atom_with (group_at l.depth)) (length l.bytes) l.bytes

abbrev pub invariant-patterns-loop : goal.invariant-patterns-loop
invariant-patterns-loop l =
    with_front (map alternative_trees l.all.items) (many (after_comma (pattern_with (group_at l.depth))) (l.end - l.counter) l.rest) ≡ list_at (pattern_with (group_at l.depth)) l.bytes
