-- SPDX-License-Identifier: Apache-2.0
use Rattle.mexec.proofs.ExecLaws.{◌∙◌, ap, Err, line_in, standing_of, line_tree, refused, done, failed, never_refused, line_played}
use Rattle.mexec.proofs.text.run_text.Goals as goal
use Rattle.mexec.proofs.text.run_text.Goals.{in-Err, in-Ok-run_line}

pub returns-in-Err-Syntax-clause-does : goal.returns-in-Err-Syntax-clause-does
returns-in-Err-Syntax-clause-does g c =
    let none = rw c.language.ensures.language at c.line.ensures.syntax in
    refused (line_in (standing_of c.args.parts.now.eval).given.language c.args.text.now) c.args.parts.now (none (c.in-Err-Syntax.is ∙ ap Err c.in-Err-Syntax.field-0-is))

pub run_line-requires : goal.run_line-requires
run_line-requires g c = line_played _ _ c.in-Ok.line.value c.language.ensures.known c.in-Ok.ensures.tree c.in-Ok.ensures.counted

pub returns-after-run_line-clause-does : goal.returns-after-run_line-clause-does
returns-after-run_line-clause-does g c =
    let tree = rw c.language.ensures.language at c.in-Ok.ensures.tree in
    let text = line_in (standing_of c.args.parts.now.eval).given.language c.args.text.now in
    elim c.match-run_line.branch [
      | in-Err w ↦ rw (w.result-is, w.ending.ensures) (failed text (line_tree c.in-Ok.line.value) _ _ w.in-Err.code tree w.in-Err.ensures)
      | in-Ok-run_line w ↦ rw w.result-is (done text (line_tree c.in-Ok.line.value) _ _ _ tree w.in-Ok-run_line.ensures)
    ]

pub returns-after-run_line-clause-steady : goal.returns-after-run_line-clause-steady
returns-after-run_line-clause-steady g c =
    let tree = rw c.language.ensures.language at c.in-Ok.ensures.tree in
    let text = line_in (standing_of c.args.parts.now.eval).given.language c.args.text.now in
    elim c.match-run_line.branch [
      | in-Err w ↦
          rw (w.result-is, w.ending.ensures)
          (never_refused g.met.S.NodeStore.steady_is_told (failed text (line_tree c.in-Ok.line.value) _ _ w.in-Err.code tree w.in-Err.ensures))
      | in-Ok-run_line w ↦ rw w.result-is (λ steady room is. cc)
    ]
