-- SPDX-License-Identifier: Apache-2.0
use Rattle.mcache.proofs.CacheWords.{◌<◌, ◌≤◌, ◌∙◌, ap, subst, line_tree}
use Rattle.mtree.specs.declared.tree.Line.{Line}
use Rattle.mtree.proofs.InLanguages.{line_kept, line_left_out}
use Rattle.mcache.proofs.trees.Trees.line.Goals as goal

pub returns-then-deref-language-clause-syntax : goal.returns-then-deref-language-clause-syntax
returns-then-deref-language-clause-syntax c h =
    line_left_out c.args.language c.args.text.now (line_tree c.in_ok-line.line.value) c.in_ok-line.ensures.tree
    (subst (λ s. c.args.language < s) (ap (λ (l : Line). l.since) c.deref.ensures ∙ c.in_ok-line.ensures.counted) c.if-deref-language.true)

pub returns-clause-tree : goal.returns-clause-tree
returns-clause-tree c =
    line_kept c.args.language c.args.text.now (line_tree c.in_ok-line.line.value) c.in_ok-line.ensures.tree
    (subst (λ s. s ≤ c.args.language) (ap (λ (l : Line). l.since) c.deref.ensures ∙ c.in_ok-line.ensures.counted) c.if-deref-language.false)
