-- SPDX-License-Identifier: Apache-2.0
-- The steps of the match by places: an atom, a pattern or a turn more.
use Rattle.moperator.proofs.OperatorWords.{◌≡◌, ℕ, ◌<◌, ◌++◌, Bool, true, false, List, [], ◌∷◌, length, get_or, take, map, Result, Ok, Err, IfOk, Vec, sym, ap}
use Rattle.moperator.proofs.OperatorWords.{◌∙◌, subst, ◌||◌, take_more, Atom, Count, Matches, is_any_kept, kept_atom, kept_repeated, atom_tree, capped_count}
use Rattle.moperator.proofs.OperatorWords.{AreEnds, AreLed}
use Rattle.std.specs.Prelude.{◌+◌}
use Rattle.std.proofs.lemmas.List.{map-append}
use Rattle.mgrammar.specs.Grammar.{AtomTree, patterns_of}
use Rattle.mgrammar.specs.Matching.{count_of as plain_count}
use Rattle.mtree.specs.Tree.{repeated_tree, alternative_trees}
use Rattle.mtree.specs.declared.tree.Atom.{Atom as AtomOfTree}
use Rattle.mtree.specs.declared.tree.Alternative.{Alternative, out-Alternative}
use Rattle.mtree.proofs.PatternTexts.{alternative_is}
use Rattle.moperator.proofs.PatternParts.{atom_is}
use Rattle.moperator.proofs.PatternPlaces.{one_atom_more, one_pattern_more}

-- ---- one atom

pub atom_ends : {G E : Type 0} (r : Result (Vec Bool G) E) (text : List ℕ) (a : AtomOfTree) (count : Count) (starts : List Bool) → count ≡ capped_count (plain_count a.count)
    → IfOk r (λ ends. AreEnds text count (kept_repeated (repeated_tree a.repeated)) starts ends.items)
    → IfOk r (λ ends. AreEnds text (kept_atom (atom_tree a)).count (kept_atom (atom_tree a)).repeated starts ends.items)
atom_ends (Err e) text a count starts kept led = tt
atom_ends (Ok ends) text a count starts kept led =
    subst (λ (t : AtomTree). AreEnds text (kept_atom t).count (kept_atom t).repeated starts ends.items) (sym (atom_is a))
    (subst (λ (c : Count). AreEnds text c (kept_repeated (repeated_tree a.repeated)) starts ends.items) kept led)

pub atoms_step : (text : List ℕ) (atoms : List AtomOfTree) (k : ℕ) (a : AtomOfTree) (starts places slice ends : List Bool) → k < length atoms → a ≡ get_or atoms k a
    → AreLed text (Matches (map kept_atom (map atom_tree (take k atoms)))) starts places → slice ≡ places → AreEnds text (kept_atom (atom_tree a)).count (kept_atom (atom_tree a)).repeated slice ends
    → AreLed text (Matches (map kept_atom (map atom_tree (take (k + 1) atoms)))) starts ends
atoms_step text atoms k a starts places slice ends within here so_far same led =
    let whole : map kept_atom (map atom_tree (take (k + 1) atoms)) ≡ map kept_atom (map atom_tree (take k atoms)) ++ kept_atom (atom_tree a) ∷ [] =
    ap (λ (xs : List AtomOfTree). map kept_atom (map atom_tree xs)) (take_more atoms k a within)
    ∙ ap (map kept_atom) (map-append atom_tree (take k atoms) (get_or atoms k a ∷ [])) ∙ map-append kept_atom (map atom_tree (take k atoms)) (atom_tree (get_or atoms k a) ∷ [])
    ∙ ap (λ (x : AtomOfTree). map kept_atom (map atom_tree (take k atoms)) ++ kept_atom (atom_tree x) ∷ []) (sym here) in
    subst (λ (xs : List Atom). AreLed text (Matches xs) starts ends) (sym whole)
    (one_atom_more text (map kept_atom (map atom_tree (take k atoms))) (kept_atom (atom_tree a)) starts places ends so_far
    (subst (λ (marks : List Bool). AreEnds text (kept_atom (atom_tree a)).count (kept_atom (atom_tree a)).repeated marks ends) same led))

-- ---- one pattern

pub pattern_step : (text : List ℕ) (ps : List Alternative) (k : ℕ) (p : Alternative) (atoms : List AtomOfTree) (starts all one ends other both : List Bool) → k < length ps → p ≡ get_or ps k p → atoms ≡ (out-Alternative p).atoms.items
    → AreLed text (λ t. is_any_kept (patterns_of (map alternative_trees (take k ps))) t ≡ true) starts all → AreLed text (Matches (map kept_atom (map atom_tree atoms))) starts ends → one ≡ all → other ≡ ends
    → length both ≡ length one → ((j : ℕ) → j < length one → get_or both j false ≡ (get_or one j false || get_or other j false))
    → AreLed text (λ t. is_any_kept (patterns_of (map alternative_trees (take (k + 1) ps))) t ≡ true) starts both
pattern_step text ps k p atoms starts all one ends other both within here are so_far led ones others size each =
    let whole : map alternative_trees (take (k + 1) ps) ≡ map alternative_trees (take k ps) ++ alternative_trees p ∷ [] =
    ap (map alternative_trees) (take_more ps k p within) ∙ map-append alternative_trees (take k ps) (get_or ps k p ∷ [])
    ∙ ap (λ (x : Alternative). map alternative_trees (take k ps) ++ alternative_trees x ∷ []) (sym here) in
    let trees : map atom_tree atoms ≡ alternative_trees p = ap (map atom_tree) are ∙ sym (alternative_is p) in
    subst (λ (xs : List (List AtomTree)). AreLed text (λ t. is_any_kept (patterns_of xs) t ≡ true) starts both) (sym whole)
    (one_pattern_more text (map alternative_trees (take k ps)) (alternative_trees p) starts one other both
    (subst (λ (marks : List Bool). AreLed text (λ t. is_any_kept (patterns_of (map alternative_trees (take k ps))) t ≡ true) starts marks) (sym ones) so_far)
    (subst (λ (marks : List Bool). AreLed text (Matches (map kept_atom (alternative_trees p))) starts marks) (sym others) (subst (λ (xs : List AtomTree). AreLed text (Matches (map kept_atom xs)) starts ends) trees led)) size each)
