-- SPDX-License-Identifier: Apache-2.0
use Rattle.moperator.proofs.OperatorWords.{◌≡◌, ◌≤◌, ◌∙◌, ap, sym, subst, refl, arith, ℕ, Bool, true, List, map, list_any, IsJoined, is_any_kept, kept_repeated}
use Rattle.moperator.proofs.OperatorWords.{count_of, AreLed, AreEnds}
use Rattle.std.specs.Prelude.{◌+◌}
use Rattle.std.proofs.Common.{take_all}
use Rattle.mgrammar.specs.Grammar.{RepeatedTree, patterns_of}
use Rattle.mtree.specs.Tree.{repeated_tree, alternative_trees}
use Rattle.mtree.specs.declared.tree.Alternative.{Alternative}
use Rattle.moperator.proofs.PatternParts.{group_is}
use Rattle.moperator.proofs.PatternPlaces.{one_turn_more, no_turn, after_all_turns, after_last_place}
use Rattle.moperator.proofs.PatternSteps.{atom_ends, atoms_step, pattern_step}
use Rattle.moperator.proofs.places.+ends.Goals as goal
use Rattle.moperator.proofs.places.+ends.Goals.{ends_of_repeated-then-loop-turn-test+else-has_mark, ends_of_repeated-else-loop-turn-test}

pub ends_of_any-loop-pattern-preserved : goal.ends_of_any-loop-pattern-preserved
ends_of_any-loop-pattern-preserved t c =
    pattern_step c.args.text.now c.args.patterns.now c.loop-pattern.pattern-index c.pattern-item.result c.deref.result.now c.args.starts.now c.loop-pattern.all.items c.as_slice.result.now c.in_ok-ends.ends.items
    c.as_slice-in-loop-pattern.result.now c.in_ok-all-2.all.items c.loop-pattern-test.true c.pattern-item.is c.deref.ensures.value c.loop-pattern.invariant c.in_ok-ends.ensures c.as_slice.ensures.value
    c.as_slice-in-loop-pattern.ensures.value c.in_ok-all-2.ensures.size c.in_ok-all-2.ensures.each

pub ends_of_any-returns : goal.ends_of_any-returns
ends_of_any-returns t c =
    subst (λ (ps : List Alternative). AreLed c.args.text.now (λ t'. is_any_kept (patterns_of (map alternative_trees ps)) t' ≡ true) c.args.starts.now c.loop-pattern.all.items)
    (take_all c.loop-pattern.pattern-index c.args.patterns.now c.loop-pattern-test.false) c.loop-pattern.invariant

pub ends_of_atom-returns : goal.ends_of_atom-returns
ends_of_atom-returns t c =
    atom_ends c.ends_of_repeated.result c.args.text.now c.args.atom.now (count_of c.number.result) c.args.starts.now c.number.ensures c.ends_of_repeated.ensures

pub ends_of_atoms-loop-atom-preserved : goal.ends_of_atoms-loop-atom-preserved
ends_of_atoms-loop-atom-preserved t c =
    atoms_step c.args.text.now c.args.atoms.now c.loop-atom.atom-index c.atom-item.result c.args.starts.now c.loop-atom.places.items c.as_slice.result.now c.in_ok-places-2.places.items
    c.loop-atom-test.true c.atom-item.is c.loop-atom.invariant c.as_slice.ensures.value c.in_ok-places-2.ensures

pub ends_of_repeated-loop-turn-init : goal.ends_of_repeated-loop-turn-init
ends_of_repeated-loop-turn-init t c =
    let test = is_any_kept (patterns_of (map alternative_trees c.in-Group.patterns.items)) in
    record {
      fits = omega arith;
      now = subst (λ (marks : List Bool). AreLed c.args.text.now (IsJoined test 0) c.args.starts.now marks) (sym c.in_ok-places.ensures.items) (no_turn c.args.text.now test c.args.starts.now c.requires);
      so_far = c.in_ok-ends.ensures c.args.text.now test c.requires;
    }

pub ends_of_repeated-loop-turn-preserved : goal.ends_of_repeated-loop-turn-preserved
ends_of_repeated-loop-turn-preserved t c =
    let test = is_any_kept (patterns_of (map alternative_trees c.in-Group.patterns.items)) in
    let led : AreLed c.args.text.now (λ s. test s ≡ true) c.loop-turn.places.items c.in_ok-places-2.places.items =
    subst (λ (marks : List Bool). AreLed c.args.text.now (λ s. test s ≡ true) marks c.in_ok-places-2.places.items) c.as_slice-in-loop-turn.ensures.value
    (subst (λ (ps : List Alternative). AreLed c.args.text.now (λ s. is_any_kept (patterns_of (map alternative_trees ps)) s ≡ true) c.as_slice-in-loop-turn.result.now c.in_ok-places-2.places.items) c.deref.ensures.value
    c.in_ok-places-2.ensures) in
    let now = one_turn_more c.args.text.now test c.loop-turn.turn c.args.starts.now c.loop-turn.places.items c.in_ok-places-2.places.items c.loop-turn.invariant.now led in
    record {
      fits = omega (arith, c.loop-turn-test.true);
      now = now;
      so_far =
          c.in_ok-ends-2.ensures c.args.text.now test c.args.starts.now c.loop-turn.turn refl c.loop-turn.invariant.so_far
          (subst (λ (marks : List Bool). AreLed c.args.text.now (IsJoined test (c.loop-turn.turn + 1)) c.args.starts.now marks) (sym c.as_slice-in-loop-turn-2.ensures.value) now);
    }

pub ends_of_repeated-returns : goal.ends_of_repeated-returns
ends_of_repeated-returns t c =
    let test = is_any_kept (patterns_of (map alternative_trees c.in-Group.patterns.items)) in
    let count = count_of c.args.count in
    let tree = ap repeated_tree c.in-Group.is ∙ group_is c.in-Group.patterns in
    subst (λ (r : RepeatedTree). AreEnds c.args.text.now count (kept_repeated r) c.args.starts.now c.loop-turn.ends.items) (sym tree)
    (elim c.loop-turn-test.branch [
      | ends_of_repeated-then-loop-turn-test+else-has_mark w ↦
          after_last_place c.args.text.now test count c.loop-turn.turn c.args.starts.now c.loop-turn.places.items c.loop-turn.ends.items
          (subst (λ (n : ℕ). c.loop-turn.turn ≤ n) c.enough_turns-turns.ensures c.loop-turn.invariant.fits)
          (ap (λ (marks : List Bool). list_any (λ mark. mark) marks) (sym w.as_slice.ensures.value) ∙ sym w.has_mark.ensures ∙ w.if-has_mark.false) c.loop-turn.invariant.now c.loop-turn.invariant.so_far
      | ends_of_repeated-else-loop-turn-test w ↦
          let all : c.loop-turn.turn ≡ c.enough_turns-turns.result = omega (arith, w.loop-turn-test.false, c.loop-turn.invariant.fits) in
          after_all_turns c.args.text.now test count c.loop-turn.turn c.args.starts.now c.loop-turn.ends.items (all ∙ c.enough_turns-turns.ensures) c.loop-turn.invariant.so_far
    ])
