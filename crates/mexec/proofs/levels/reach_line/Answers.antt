-- SPDX-License-Identifier: Apache-2.0
use Rattle.mexec.proofs.ExecWords.{◌≡◌, ℕ, List, Result, View, Ghosts, Code, Parts, Runs, Position, Closing, context, suc, subst}
use Rattle.mexec.specs.Entering.{line_then}
use Rattle.mexec.specs.declared.completion.Completion as completions
use Rattle.mexec.proofs.ExecLaws.{ap, get_or, [], get_or_read, position_of, closing_of, runs_stopped, runs_wanting, at_plain, line_listed, line_unlisted}
use Rattle.mexec.proofs.ExecLaws.{listed, unlisted}
use Rattle.mexec.proofs.levels.reach_line.Goals as goal

-- a line at a position that is the same
line_there : {S : Type 0} {g : Ghosts S} (q p : Position) (c : Closing) (at : ℕ) {fs fs' : List View} {old new : Parts S} {r : Result completions.Completion Code}
    → q ≡ p
    → Runs g (λ a n. line_then (context a (suc n) q) c at (get_or q.level.copy at [])) fs old r fs' new → Runs g (λ a n. line_then (context a (suc n) p) c at (get_or p.level.copy at [])) fs old r fs' new
line_there {g = g} q p c at {fs = fs} {fs' = fs'} {old = old} {new = new} {r = r} e k =
    subst (λ (q : Position). Runs g (λ a n. line_then (context a (suc n) q) c at (get_or q.level.copy at [])) fs old r fs' new) e k

pub returns-in_err-charge-clause-does : goal.returns-in_err-charge-clause-does
returns-in_err-charge-clause-does g c = runs_stopped _ (at_plain c.in_err-charge.ensures.does) c.from_residual.ensures

pub returns-then-has_formal_list-clause-does : goal.returns-then-has_formal_list-clause-does
returns-then-has_formal_list-clause-does g c =
    let lines = c.args.position.now.level.copy.value.items in
    let text = get_or_read lines c.args.at c.index.result.now c.requires (rw c.deref.ensures at c.index.ensures) [] in
    let found = rw (c.as_bytes.ensures.bytes, text, c.language-language.ensures.language, c.if-has_formal_list.true) at c.has_formal_list.ensures in
    line_listed (position_of c.args.position.now) (closing_of c.args.closing) c.args.at (get_or lines c.args.at []) (at_plain c.in_ok-charge.ensures.does) (listed _ found)

pub returns-clause-does : goal.returns-clause-does
returns-clause-does g c =
    let lines = c.args.position.now.level.copy.value.items in
    let text = get_or_read lines c.args.at c.index.result.now c.requires (rw c.deref.ensures at c.index.ensures) [] in
    let found = rw (c.as_bytes.ensures.bytes, text, c.language-language.ensures.language, c.if-has_formal_list.false) at c.has_formal_list.ensures in
    let does = line_there (position_of c.in_ok-there.there) (position_of c.args.position.now) (closing_of c.args.closing) c.args.at c.in_ok-there.ensures c.read_and_enter.ensures.does in
    line_unlisted (position_of c.args.position.now) (closing_of c.args.closing) c.args.at (get_or lines c.args.at []) (at_plain c.in_ok-charge.ensures.does) c.in_ok-charge.ensures.spent (unlisted _ found) does

pub returns-in_err-there-clause-does : goal.returns-in_err-there-clause-does
returns-in_err-there-clause-does g c =
    let lines = c.args.position.now.level.copy.value.items in
    let text = get_or_read lines c.args.at c.index.result.now c.requires (rw c.deref.ensures at c.index.ensures) [] in
    let found = rw (c.as_bytes.ensures.bytes, text, c.language-language.ensures.language, c.if-has_formal_list.false) at c.has_formal_list.ensures in
    line_unlisted (position_of c.args.position.now) (closing_of c.args.closing) c.args.at (get_or lines c.args.at []) (at_plain c.in_ok-charge.ensures.does) c.in_ok-charge.ensures.spent (unlisted _ found) (runs_wanting _ _ c.from_residual-in_err-there.ensures)

pub read_and_enter-requires-clause-known : goal.read_and_enter-requires-clause-known
read_and_enter-requires-clause-known g c = c.language-language.ensures.known

pub read_and_enter-requires-clause-within : goal.read_and_enter-requires-clause-within
read_and_enter-requires-clause-within g c = rw (ap (λ (p : Position). p.level.copy) c.in_ok-there.ensures) c.requires
