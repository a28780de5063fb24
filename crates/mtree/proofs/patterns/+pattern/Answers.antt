-- SPDX-License-Identifier: Apache-2.0
use Rattle.std.proofs.Common.{◌≡◌, ◌++◌, Bool, List, map, sym, ap, ◌∙◌, arith, append-nil}
use Rattle.mtree.specs.declared.tree.Atom.{Atom}
use Rattle.mgrammar.specs.Grammar.{spell_atoms}
use Rattle.mtree.specs.Tree.{atom_tree}
use Rattle.mtree.proofs.PatternTexts.{comma_from, one_spelled}
use Rattle.mtree.proofs.patterns.+pattern.Goals as goal
use Rattle.mtree.proofs.patterns.+pattern.Goals.{put_group-then-not-first+in_ok-push-2, put_group-else-not-first}

pub put_group-loop-pattern-preserved : goal.put_group-loop-pattern-preserved
put_group-loop-pattern-preserved t c =
    let mid : c.if-not-first.out ≡ c.loop-pattern.out ++ comma_from c.loop-pattern.first = elim c.if-not-first.branch [
      | put_group-then-not-first+in_ok-push-2 w ↦ w.out-is ∙ w.in_ok-push-2.ensures.ok ∙ ap (λ (b : Bool). c.loop-pattern.out ++ comma_from b) (sym w.if-not-first.true)
      | put_group-else-not-first w ↦ w.out-is ∙ sym (append-nil c.loop-pattern.out) ∙ ap (λ (b : Bool). c.loop-pattern.out ++ comma_from b) (sym w.if-not-first.false)
    ] in
    one_spelled c.loop-pattern.first c.args.patterns.now c.loop-pattern.pattern-index c.pattern-item.result c.loop-pattern.out c.if-not-first.out c.put_atoms.new.out _ (omega arith) c.pattern-item.is mid
    (c.in_ok-put_atoms.ensures ∙ ap (λ (xs : List Atom). c.if-not-first.out ++ spell_atoms (map atom_tree xs)) c.deref.ensures.value) c.loop-pattern.invariant
