-- SPDX-License-Identifier: Apache-2.0
use Rattle.mparse.proofs.ParseWords.{◌≡◌, ◌-◌, length, map, with_front, many, after_comma}
use Rattle.mparse.proofs.list.more.Given as goal

abbrev pub invariant-loop : goal.invariant-loop
invariant-loop g l =
    with_front (map (g.T.Items.tree) l.all.items) (many (after_comma (g.T.Items.read l.items)) (l.end - l.counter) l.rest)
    ≡ with_front (map (g.T.Items.tree) l.initial.all.items) (many (after_comma (g.T.Items.read l.items)) (length l.bytes) l.bytes)
