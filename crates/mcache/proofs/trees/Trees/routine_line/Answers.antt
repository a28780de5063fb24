-- SPDX-License-Identifier: Apache-2.0
use Rattle.mcache.proofs.CacheWords.{◌<◌, ◌≤◌, ◌∙◌, ap, subst, routine_line_tree}
use Rattle.mgrammar.specs.Languages.{since_routine_line}
use Rattle.mtree.specs.declared.tree.RoutineLine.{RoutineLine}
use Rattle.mtree.proofs.InLanguages.{routine_line_kept, routine_line_left_out}
use Rattle.mcache.proofs.trees.Trees.routine_line.Goals as goal

pub returns-then-since_routine_line-language-clause-syntax : goal.returns-then-since_routine_line-language-clause-syntax
returns-then-since_routine_line-language-clause-syntax c h =
    routine_line_left_out c.args.language c.args.text.now (routine_line_tree c.in_ok-line.line.value) c.in_ok-line.ensures.tree
    (subst (λ s. c.args.language < s) (c.since_routine_line.ensures ∙ ap (λ (l : RoutineLine). since_routine_line (routine_line_tree l)) c.deref.ensures) c.if-since_routine_line-language.true)

pub returns-clause-tree : goal.returns-clause-tree
returns-clause-tree c =
    routine_line_kept c.args.language c.args.text.now (routine_line_tree c.in_ok-line.line.value) c.in_ok-line.ensures.tree
    (subst (λ s. s ≤ c.args.language) (c.since_routine_line.ensures ∙ ap (λ (l : RoutineLine). since_routine_line (routine_line_tree l)) c.deref.ensures) c.if-since_routine_line-language.false)
