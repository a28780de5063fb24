-- SPDX-License-Identifier: Apache-2.0
use Rattle.mexec.proofs.ExecLaws.{sym, ◌∙◌, ap}
use Rattle.mtree.specs.Tree.{formals_tree, routine_line_tree}
use Rattle.mtree.specs.declared.tree.RoutineLine.{RoutineLine}
use Rattle.mexec.proofs.KeptFormals.{kept_formals}
use Rattle.mexec.proofs.entering.formals_listed.Goals as goal

pub returns-in-Some : goal.returns-in-Some
returns-in-Some c =
    let kept = kept_formals c.args.language c.args.line.now (routine_line_tree c.in-Some.tree.value) c.requires c.in-Some.ensures.tree in
    rw (sym (ap (λ (l : RoutineLine). formals_tree l.formals) c.deref.ensures ∙ kept)) c.formals_lent.ensures
