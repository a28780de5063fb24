-- SPDX-License-Identifier: Apache-2.0
use Rattle.mexec.proofs.ExecLaws.{◌≡◌, Bool, ◌+◌, arith, Act, ◌>>=◌, test_is, Level, deeper, restores, Context, context, closed, in_level, lines_next, depth_of}
use Rattle.mexec.proofs.ExecLaws.{position_of, Position, Completion, runs_then, runs_stopped, runs_wanting, at_plain, lines_opened_as}
use Rattle.mspec.specs.Act.{level_begun}
use Rattle.mexec.proofs.entering.doing_block.Goals as goal

-- its lines
abbrev block : Position → Level
block p = record p.level { dots = p.level.dots + 1 }

-- once $TEST is known
abbrev there : Context → Bool → Act Completion
there x b = in_level x (block x.position) (restores b) level_begun lines_next

pub returns-in_err-depth-clause-does : goal.returns-in_err-depth-clause-does
returns-in_err-depth-clause-does g c =
    runs_stopped (λ a n _. test_is >>= there (context a n (position_of c.args.position.now))) c.in_err-depth.ensures.does c.from_residual.ensures

pub returns-in_err-copy-clause-does : goal.returns-in_err-copy-clause-does
returns-in_err-copy-clause-does g c =
    runs_then (λ a n _. test_is >>= there (context a n (position_of c.args.position.now))) c.in_ok-depth.ensures.does
    (runs_wanting _ _ c.from_residual-in_err-copy.ensures)

pub returns-in_err-open_level-clause-does : goal.returns-in_err-open_level-clause-does
returns-in_err-open_level-clause-does g c =
    let p = position_of c.args.position.now in
    let test = c.test-test.result in
    runs_then (λ a n _. test_is >>= there (context a n p)) c.in_ok-depth.ensures.does
    (runs_then (λ a n. there (context a n p)) (at_plain c.test-test.ensures)
    (runs_stopped (λ a n _. lines_next (context a n (deeper (restores test) p (block p))) >>= closed (restores test)) (at_plain c.in_err-open_level.ensures) c.from_residual-in_err-open_level.ensures))

pub returns-clause-does : goal.returns-clause-does
returns-clause-does g c =
    let p = position_of c.args.position.now in
    let test = c.test-test.result in
    let level : Level = record { copy = c.in_ok-copy.copy.value.items; next = p.level.next; dots = p.level.dots + 1 } in
    let same : level ≡ block p = λ i. record { copy = (c.in_ok-copy.ensures.cases i).items; next = p.level.next; dots = p.level.dots + 1 } in
    runs_then (λ a n _. test_is >>= there (context a n p)) c.in_ok-depth.ensures.does
    (runs_then (λ a n. there (context a n p)) (at_plain c.test-test.ensures)
    (runs_then (λ a n _. lines_next (context a n (deeper (restores test) p (block p))) >>= closed (restores test)) (at_plain c.in_ok-open_level.ensures)
    (lines_opened_as p (depth_of c.in_ok-depth.depth) c.in_ok-depth.ensures.deeper (block p) level same test c.lines_next.ensures.does)))
