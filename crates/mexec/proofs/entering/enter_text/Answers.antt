-- SPDX-License-Identifier: Apache-2.0
use Rattle.mexec.proofs.ExecLaws.{suc, List, arith, ◌>>=◌, Act, leaves, deeper, commands_of, line_tree, Context, context, closed, depth_of, CommandTree}
use Rattle.mexec.proofs.ExecLaws.{position_of, text_position, tree_entered, Completion, runs_then, runs_stopped, runs_wanting, at_plain, text_opened, at_read}
use Rattle.mexec.proofs.ExecLaws.{line_in, Zsyntax}
use Rattle.mexec.proofs.entering.enter_text.Goals as goal

-- once its level is open
abbrev there : Context → List CommandTree → Act Completion
there x cs = x.texts.enter (deeper leaves x.position (text_position x.position.depth x.position).level) cs >>= closed leaves

pub returns-in_err-line-clause-does : goal.returns-in_err-line-clause-does
returns-in_err-line-clause-does g c =
    let tree = rw (c.as_bytes.ensures.bytes, c.language-language.ensures.language) at c.in_err-line.ensures.does in
    runs_stopped (λ a n. tree_entered (context a (suc n) (position_of c.args.position.now))) (at_read Zsyntax (λ l. line_in l c.args.text.now) tree) c.from_residual.ensures

pub returns-in_err-open_level-clause-does : goal.returns-in_err-open_level-clause-does
returns-in_err-open_level-clause-does g c =
    let p = position_of c.args.position.now in
    let tree = rw (c.as_bytes.ensures.bytes, c.language-language.ensures.language) at c.in_ok-line.ensures.does in
    runs_then (λ a n. tree_entered (context a (suc n) p)) (at_read Zsyntax (λ l. line_in l c.args.text.now) tree)
    (runs_stopped (λ a n _. there (context a (suc n) p) (commands_of (line_tree c.in_ok-line.line.value))) (at_plain c.in_err-open_level.ensures) c.from_residual-in_err-open_level.ensures)

pub returns-in_err-leave_text-clause-does : goal.returns-in_err-leave_text-clause-does
returns-in_err-leave_text-clause-does g c =
    let p = position_of c.args.position.now in
    let tree = rw (c.as_bytes.ensures.bytes, c.language-language.ensures.language) at c.in_ok-line.ensures.does in
    runs_then (λ a n. tree_entered (context a (suc n) p)) (at_read Zsyntax (λ l. line_in l c.args.text.now) tree)
    (runs_then (λ a n _. there (context a (suc n) p) (commands_of (line_tree c.in_ok-line.line.value))) (at_plain c.in_ok-open_level.ensures) (runs_wanting _ _ c.from_residual-in_err-leave_text.ensures))

pub returns-clause-does : goal.returns-clause-does
returns-clause-does g c =
    let p = position_of c.args.position.now in
    let cs = commands_of (line_tree c.in_ok-line.line.value) in
    let tree = rw (c.as_bytes.ensures.bytes, c.language-language.ensures.language) at c.in_ok-line.ensures.does in
    rw c.in_ok-leave_text.ensures.frames
    (runs_then (λ a n. tree_entered (context a (suc n) p)) (at_read Zsyntax (λ l. line_in l c.args.text.now) tree)
    (runs_then (λ a n _. there (context a (suc n) p) cs) (at_plain c.in_ok-open_level.ensures) (text_opened p (depth_of c.args.depth) c.requires cs)))

pub read_line-requires : goal.read_line-requires
read_line-requires g c = c.language-language.ensures.known

pub leave_text-requires : goal.leave_text-requires
leave_text-requires g c = c.in_ok-line.ensures.played
