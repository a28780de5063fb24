-- SPDX-License-Identifier: Apache-2.0
use Rattle.mparse.proofs.ParseWords.{◌≡◌, ◌+◌, ◌*◌, ◌-◌, length, map, with_front, many, after_comma, list_at, choice_with, tail_with, readers_at, inner_at}
use Rattle.mparse.proofs.ParseWords.{expr_tree, tail_tree, choice_tree, actual_tree}
use Rattle.mparse.proofs.expr.+expr.Given as goal

-- Brackets fall in number at `inner`, `within`, `handed` and `below` alone; each other call leads to a lower rank.

abbrev pub decreases-inner : goal.decreases-inner
decreases-inner l = 16 * l.depth + 0

abbrev pub decreases-within : goal.decreases-within
decreases-within l = 16 * l.depth + 0

abbrev pub decreases-below : goal.decreases-below
decreases-below l = 16 * l.depth + 0

abbrev pub decreases-handed : goal.decreases-handed
decreases-handed l = 16 * l.depth + 0

abbrev pub decreases-by_reference : goal.decreases-by_reference
decreases-by_reference l = 16 * l.depth + 1

abbrev pub decreases-some_actuals : goal.decreases-some_actuals
decreases-some_actuals l = 16 * l.depth + 1

abbrev pub decreases-actuals : goal.decreases-actuals
decreases-actuals l = 16 * l.depth + 2

abbrev pub decreases-called : goal.decreases-called
decreases-called l = 16 * l.depth + 3

abbrev pub decreases-extrinsic : goal.decreases-extrinsic
decreases-extrinsic l = 16 * l.depth + 4

abbrev pub decreases-bracket : goal.decreases-bracket
decreases-bracket l = 16 * l.depth + 1

abbrev pub decreases-choice : goal.decreases-choice
decreases-choice l = 16 * l.depth + 1

abbrev pub decreases-more_exprs : goal.decreases-more_exprs
decreases-more_exprs l = 16 * l.depth + 1

abbrev pub decreases-exprs : goal.decreases-exprs
decreases-exprs l = 16 * l.depth + 2

abbrev pub decreases-choices : goal.decreases-choices
decreases-choices l = 16 * l.depth + 2

abbrev pub decreases-subscripts : goal.decreases-subscripts
decreases-subscripts l = 16 * l.depth + 3

abbrev pub decreases-attached : goal.decreases-attached
decreases-attached l = 16 * l.depth + 4

abbrev pub decreases-indirect : goal.decreases-indirect
decreases-indirect l = 16 * l.depth + 5

abbrev pub decreases-extended : goal.decreases-extended
decreases-extended l = 16 * l.depth + 4

abbrev pub decreases-global : goal.decreases-global
decreases-global l = 16 * l.depth + 5

abbrev pub decreases-local : goal.decreases-local
decreases-local l = 16 * l.depth + 6

abbrev pub decreases-reference : goal.decreases-reference
decreases-reference l = 16 * l.depth + 7

abbrev pub decreases-refer : goal.decreases-refer
decreases-refer l = 16 * l.depth + 3

abbrev pub decreases-call : goal.decreases-call
decreases-call l = 16 * l.depth + 3

abbrev pub decreases-select : goal.decreases-select
decreases-select l = 16 * l.depth + 3

abbrev pub decreases-dollar : goal.decreases-dollar
decreases-dollar l = 16 * l.depth + 5

abbrev pub decreases-primary : goal.decreases-primary
decreases-primary l = 16 * l.depth + 8

abbrev pub decreases-operand : goal.decreases-operand
decreases-operand l = 16 * l.depth + 9

abbrev pub decreases-matches : goal.decreases-matches
decreases-matches l = 16 * l.depth + 9

abbrev pub decreases-matches_not : goal.decreases-matches_not
decreases-matches_not l = 16 * l.depth + 9

abbrev pub decreases-tail_by : goal.decreases-tail_by
decreases-tail_by l = 16 * l.depth + 10

abbrev pub decreases-tail : goal.decreases-tail
decreases-tail l = 16 * l.depth + 11

abbrev pub decreases-tails : goal.decreases-tails
decreases-tails l = 16 * l.depth + 12

abbrev pub decreases-expr : goal.decreases-expr
decreases-expr l = 16 * l.depth + 13

abbrev pub decreases-actual : goal.decreases-actual
decreases-actual l = 16 * l.depth + 14

abbrev pub invariant-tails-loop : goal.invariant-tails-loop
invariant-tails-loop l =
    with_front (map tail_tree l.tails.items) (many (tail_with (readers_at l.depth)) (length l.bytes - l.counter) l.rest) ≡ many (tail_with (readers_at l.depth)) (length l.bytes) l.bytes

abbrev pub invariant-more_exprs-loop : goal.invariant-more_exprs-loop
invariant-more_exprs-loop l =
    with_front (map expr_tree l.all.items) (many (after_comma (inner_at l.depth)) (length l.bytes - l.counter) l.rest)
    ≡ with_front (map expr_tree l.fn.front.items) (many (after_comma (inner_at l.depth)) (length l.bytes) l.bytes)

abbrev pub invariant-choices-loop : goal.invariant-choices-loop
invariant-choices-loop l =
    with_front (map choice_tree l.all.items) (many (after_comma (choice_with (readers_at l.depth))) (l.end - l.counter) l.rest) ≡ list_at (choice_with (readers_at l.depth)) l.bytes

abbrev pub invariant-some_actuals-loop : goal.invariant-some_actuals-loop
invariant-some_actuals-loop l =
    with_front (map actual_tree l.all.items) (many (after_comma ((readers_at l.depth).handed)) (l.end - l.counter) l.rest) ≡ list_at ((readers_at l.depth).handed) l.bytes
