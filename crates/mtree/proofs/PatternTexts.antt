-- SPDX-License-Identifier: Apache-2.0
-- Patterns of the program by their trees, and the texts of groups, pattern after pattern.
use Rattle.std.proofs.Common.{◌≡◌, ℕ, ◌+◌, ◌<◌, Bool, true, false, List, [], ◌∷◌, ◌++◌, length, get_or, drop, map, ap, sym, ◌∙◌, append_assoc}
use Rattle.std.proofs.lemmas.List.{at_drop_more}
use Rattle.mgrammar.specs.Grammar.{RepeatedTree, AtomTree, PatternsTree, patterns_of, spell_patterns, spell_more_patterns, spell_atoms}
use Rattle.mgrammar.proofs.ReadingPatterns.{spell_run-list}
use Rattle.mtree.specs.Tree.{alternative_trees, atom_tree, repeated_layer, alternative_layer, atom_layer}
use Rattle.mtree.specs.declared.tree.Alternative.{Alternative, out-Alternative}
use Rattle.mtree.specs.declared.tree.Repeated.TheFolds.{fold_out-Alternative}

pub alternative_is : (p : Alternative) → alternative_trees p ≡ map atom_tree (out-Alternative p).atoms.items
alternative_is = fold_out-Alternative RepeatedTree (List AtomTree) AtomTree repeated_layer alternative_layer atom_layer

-- ---- texts

-- patterns that are left: before the first one there is no comma
abbrev pub spell_from : Bool → PatternsTree → List ℕ
spell_from true ps = spell_patterns ps
spell_from false ps = spell_more_patterns ps

abbrev pub comma_from : Bool → List ℕ
comma_from true = []
comma_from false = 44 ∷ []

one_from : (first : Bool) (p : List AtomTree) (ps : List (List AtomTree)) → spell_from first (patterns_of (p ∷ ps)) ≡ comma_from first ++ (spell_atoms p ++ spell_from false (patterns_of ps))
one_from true p ps = ap (λ (t : List ℕ). t ++ spell_more_patterns (patterns_of ps)) (spell_run-list p)
one_from false p ps = ap (λ (t : List ℕ). 44 ∷ (t ++ spell_more_patterns (patterns_of ps))) (spell_run-list p)

four_parts : (a b c d : List ℕ) → ((a ++ b) ++ c) ++ d ≡ a ++ (b ++ (c ++ d))
four_parts a b c d = append_assoc (a ++ b) c d ∙ append_assoc a b (c ++ d)

-- one more pattern was spelled
pub one_spelled : (first : Bool) (ps : List Alternative) (k : ℕ) (p : Alternative) (out mid new whole : List ℕ) → k < length ps → p ≡ get_or ps k p → mid ≡ out ++ comma_from first
    → new ≡ mid ++ spell_atoms (map atom_tree (out-Alternative p).atoms.items) → out ++ spell_from first (patterns_of (map alternative_trees (drop k ps))) ≡ whole
    → new ++ spell_from false (patterns_of (map alternative_trees (drop (k + 1) ps))) ≡ whole
one_spelled first ps k p out mid new whole within here comma atoms so_far =
    let rest = map alternative_trees (drop (k + 1) ps) in
    let left : spell_from first (patterns_of (map alternative_trees (drop k ps))) ≡ comma_from first ++ (spell_atoms (map atom_tree (out-Alternative p).atoms.items) ++ spell_from false (patterns_of rest)) =
    at_drop_more (λ (xs : List Alternative). spell_from first (patterns_of (map alternative_trees xs))) ps k p within
    ∙ ap (λ (q : Alternative). spell_from first (patterns_of (alternative_trees q ∷ rest))) (sym here)
    ∙ ap (λ (q : List AtomTree). spell_from first (patterns_of (q ∷ rest))) (alternative_is p)
    ∙ one_from first (map atom_tree (out-Alternative p).atoms.items) rest in
    ap (λ (t : List ℕ). t ++ spell_from false (patterns_of rest)) (atoms ∙ ap (λ (t : List ℕ). t ++ spell_atoms (map atom_tree (out-Alternative p).atoms.items)) comma)
    ∙ four_parts out (comma_from first) (spell_atoms (map atom_tree (out-Alternative p).atoms.items)) (spell_from false (patterns_of rest))
    ∙ ap (λ (t : List ℕ). out ++ t) (sym left) ∙ so_far
