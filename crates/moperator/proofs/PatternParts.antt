-- SPDX-License-Identifier: Apache-2.0
-- Patterns of groups as runs of the tree and as lists; and turns as the machine counts them.
use Rattle.moperator.proofs.OperatorWords.{◌≡◌, ℕ, zero, suc, ◌-◌, ◌<◌, ◌≤◌, ◌^◌, ◌++◌, Bool, true, false, List, [], ◌∷◌, length, drop, get_or, map, None, Some}
use Rattle.moperator.proofs.OperatorWords.{Vec, Global, refl, sym, ap, ◌∙◌, arith, ◌||◌, list_any, Atom, Count, is_match, is_any_kept, kept_atom, kept_run}
use Rattle.moperator.proofs.OperatorWords.{atom_reversed, turns_of, atom_tree, capped}
use Rattle.std.specs.Prelude.{◌+◌, ◌*◌, nat_le}
use Rattle.std.proofs.Math.Nat.{zero-mul}
use Rattle.std.proofs.Common.{Option}
use Rattle.std.proofs.lemmas.Bool.{leb-true, leb-false}
use Rattle.std.proofs.lemmas.List.{at_drop_more}
use Rattle.mgrammar.specs.Grammar.{RepeatedTree, group, AtomTree, atoms_of, patterns_of}
use Rattle.mgrammar.specs.Matching.{run_reversed, turns_of_atom, turns_of_run}
use Rattle.mgrammar.specs.Matching.{count_of as plain_count, turns_of_patterns, turns_of_repeated, patterns_reversed}
use Rattle.mspec.specs.PatternTests.{turns, at_most}
use Rattle.mtree.specs.Tree.{repeated_tree, alternative_trees, repeated_layer, alternative_layer, atom_layer}
use Rattle.mtree.specs.CappedCounts.{capped_count}
use Rattle.mtree.specs.declared.tree.Atom.{Atom as AtomOfTree}
use Rattle.mtree.specs.declared.tree.Alternative.{Alternative, out-Alternative}
use Rattle.mtree.specs.declared.tree.Repeated.TheVariants as repeated
use Rattle.mtree.specs.declared.tree.Repeated.TheFolds.{fold_out-Atom, fold-roll-Repeated}
use Rattle.mtree.proofs.PatternTexts.{alternative_is}

-- ---- trees of the program

pub atom_is : (a : AtomOfTree) → atom_tree a ≡ record { count = a.count; repeated = repeated_tree a.repeated }
atom_is = fold_out-Atom RepeatedTree (List AtomTree) AtomTree repeated_layer alternative_layer atom_layer

pub group_is : (patterns : Vec Alternative Global) → repeated_tree (repeated.Group patterns) ≡ group (patterns_of (map alternative_trees patterns.items))
group_is patterns = ap repeated_tree (sym (repeated.rolls-Group patterns)) ∙ fold-roll-Repeated RepeatedTree (List AtomTree) AtomTree repeated_layer alternative_layer atom_layer _

drop_past : {X : Type 0} (xs : List X) (k : ℕ) → length xs ≤ k → drop k xs ≡ []
drop_past [] zero le = refl
drop_past [] (suc k) le = refl
drop_past (x ∷ xs) zero le = absurd (omega (arith, le))
drop_past (x ∷ xs) (suc k) le = drop_past xs k (omega (arith, le))

-- ---- runs of atoms as lists

kept_run-list : (atoms : List AtomTree) → kept_run (atoms_of atoms) ≡ map kept_atom atoms
kept_run-list [] = refl
kept_run-list (a ∷ atoms) = ap (λ (rest : List Atom). kept_atom a ∷ rest) (kept_run-list atoms)

run_reversed-list : (atoms : List AtomTree) → run_reversed (atoms_of atoms) ≡ list_any atom_reversed atoms
run_reversed-list [] = refl
run_reversed-list (a ∷ atoms) = ap (λ (b : Bool). atom_reversed a || b) (run_reversed-list atoms)

turns_of_run-list : (n : ℕ) (atoms : List AtomTree) → turns_of_run n (atoms_of atoms) ≡ turns_of n atoms
turns_of_run-list n [] = refl
turns_of_run-list n (a ∷ atoms) = ap (λ (m : ℕ). turns_of_atom n a + m) (turns_of_run-list n atoms)

pub pattern_reversed : (p : Alternative) → run_reversed (atoms_of (alternative_trees p)) ≡ list_any atom_reversed (map atom_tree (out-Alternative p).atoms.items)
pattern_reversed p = run_reversed-list (alternative_trees p) ∙ ap (list_any atom_reversed) (alternative_is p)

pub pattern_turned : (n : ℕ) (p : Alternative) → turns_of_run n (atoms_of (alternative_trees p)) ≡ turns_of n (map atom_tree (out-Alternative p).atoms.items)
pattern_turned n p = turns_of_run-list n (alternative_trees p) ∙ ap (turns_of n) (alternative_is p)

or_nothing : (b : Bool) → (b || false) ≡ b
or_nothing true = refl
or_nothing false = refl

or_regrouped : (a b c : Bool) → (a || (b || c)) ≡ ((a || b) || c)
or_regrouped true b c = refl
or_regrouped false b c = refl

-- one pattern more
pub any_more : (ps : List (List AtomTree)) (p : List AtomTree) (t : List ℕ) → is_any_kept (patterns_of (ps ++ p ∷ [])) t ≡ (is_any_kept (patterns_of ps) t || is_match (map kept_atom p) t)
any_more [] p t = or_nothing (is_match (kept_run (atoms_of p)) t) ∙ ap (λ (atoms : List Atom). is_match atoms t) (kept_run-list p)
any_more (q ∷ ps) p t =
    ap (λ (b : Bool). is_match (kept_run (atoms_of q)) t || b) (any_more ps p t)
    ∙ or_regrouped (is_match (kept_run (atoms_of q)) t) (is_any_kept (patterns_of ps) t) (is_match (map kept_atom p) t)

-- ---- numbers that stop at the machine's greatest

-- a product of capped numbers, of which one is not zero
pub capped_times : (a b : ℕ) → capped (capped a * capped (suc b)) ≡ capped (a * suc b)
capped_times zero b = ap (λ (n : ℕ). capped (n * capped (suc b))) none ∙ ap capped (zero-mul (capped (suc b)) ∙ sym (zero-mul (suc b))) where
  none : capped 0 ≡ 0
  none = omega arith
capped_times (suc a) b = go (nat_le (suc a) (2 ^ 64 - 1)) refl (nat_le (suc b) (2 ^ 64 - 1)) refl where
  times_low : suc b ≤ suc a * suc b
  times_low = grind (arith)

  times_high : suc a ≤ suc a * suc b
  times_high = grind (arith)

  go : (c : Bool) → nat_le (suc a) (2 ^ 64 - 1) ≡ c → (d : Bool) → nat_le (suc b) (2 ^ 64 - 1) ≡ d → capped (capped (suc a) * capped (suc b)) ≡ capped (suc a * suc b)
  go true e true f =
      let x : capped (suc a) ≡ suc a = omega (arith, leb-true (suc a) (2 ^ 64 - 1) e) in
      let y : capped (suc b) ≡ suc b = omega (arith, leb-true (suc b) (2 ^ 64 - 1) f) in
      rw (x, y) refl
  go c e false f =
      let high = leb-false (suc b) (2 ^ 64 - 1) f in
      let y : capped (suc b) ≡ 2 ^ 64 - 1 = omega (arith, high) in
      let x : 1 ≤ capped (suc a) = omega arith in
      let big : 2 ^ 64 - 1 ≤ capped (suc a) * (2 ^ 64 - 1) = big_left (capped (suc a)) x in
      rw y (omega (arith, big, high, times_low))
    where
      big_left : (n : ℕ) → 1 ≤ n → 2 ^ 64 - 1 ≤ n * (2 ^ 64 - 1)
      big_left n h = omega (arith, h)
  go false e true f =
      let high = leb-false (suc a) (2 ^ 64 - 1) e in
      let x : capped (suc a) ≡ 2 ^ 64 - 1 = omega (arith, high) in
      let y : 1 ≤ capped (suc b) = omega arith in
      let big : 2 ^ 64 - 1 ≤ (2 ^ 64 - 1) * capped (suc b) = big_right (capped (suc b)) y in
      rw x (omega (arith, big, high, times_high))
    where
      big_right : (n : ℕ) → 1 ≤ n → 2 ^ 64 - 1 ≤ (2 ^ 64 - 1) * n
      big_right n h = omega (arith, h)

-- what a count keeps of its turns
turns_capped : (count : Count) (n : ℕ) → capped (turns (capped_count count) n) ≡ capped (turns count n)
turns_capped count n = go count.most where
  go : (most : Option ℕ) → capped (at_most (capped_count (record { least = 0; most = most })).most (capped count.least + n)) ≡ capped (at_most most (count.least + n))
  go None = omega arith
  go (Some most) = omega arith

-- ---- loops

pub first_reversed : (ps : List Alternative) (k : ℕ) (p : Alternative) → k < length ps → p ≡ get_or ps k p
    → patterns_reversed (patterns_of (map alternative_trees (drop k ps))) ≡ (list_any atom_reversed (map atom_tree (out-Alternative p).atoms.items) || patterns_reversed (patterns_of (map alternative_trees (drop (k + 1) ps))))
first_reversed ps k p within here =
    at_drop_more (λ (xs : List Alternative). patterns_reversed (patterns_of (map alternative_trees xs))) ps k p within
    ∙ ap (λ (q : Alternative). run_reversed (atoms_of (alternative_trees q)) || patterns_reversed (patterns_of (map alternative_trees (drop (k + 1) ps)))) (sym here)
    ∙ ap (λ (b : Bool). b || patterns_reversed (patterns_of (map alternative_trees (drop (k + 1) ps)))) (pattern_reversed p)

first_turned : (n : ℕ) (ps : List Alternative) (k : ℕ) (p : Alternative) → k < length ps → p ≡ get_or ps k p
    → turns_of_patterns n (patterns_of (map alternative_trees (drop k ps))) ≡ turns_of n (map atom_tree (out-Alternative p).atoms.items) + turns_of_patterns n (patterns_of (map alternative_trees (drop (k + 1) ps)))
first_turned n ps k p within here =
    at_drop_more (λ (xs : List Alternative). turns_of_patterns n (patterns_of (map alternative_trees xs))) ps k p within
    ∙ ap (λ (q : Alternative). turns_of_run n (atoms_of (alternative_trees q)) + turns_of_patterns n (patterns_of (map alternative_trees (drop (k + 1) ps)))) (sym here)
    ∙ ap (λ (m : ℕ). m + turns_of_patterns n (patterns_of (map alternative_trees (drop (k + 1) ps)))) (pattern_turned n p)

summed : (all t one rest total : ℕ) → t ≡ capped one → capped (all + (one + rest)) ≡ capped total → capped (capped (all + t) + rest) ≡ capped total
summed all t one rest total is so_far = omega (arith, is, so_far)

pub one_turned : (n : ℕ) (ps : List Alternative) (k : ℕ) (p : Alternative) (all t total : ℕ) → k < length ps → p ≡ get_or ps k p → t ≡ capped (turns_of n (map atom_tree (out-Alternative p).atoms.items))
    → capped (all + turns_of_patterns n (patterns_of (map alternative_trees (drop k ps)))) ≡ capped total → capped (capped (all + t) + turns_of_patterns n (patterns_of (map alternative_trees (drop (k + 1) ps)))) ≡ capped total
one_turned n ps k p all t total within here is so_far =
    summed all t (turns_of n (map atom_tree (out-Alternative p).atoms.items)) (turns_of_patterns n (patterns_of (map alternative_trees (drop (k + 1) ps)))) total is
    (ap (λ (m : ℕ). capped (all + m)) (sym (first_turned n ps k p within here)) ∙ so_far)

all_done : (all left total : ℕ) → left ≡ 0 → all ≤ 2 ^ 64 - 1 → capped (all + left) ≡ capped total → all ≡ capped total
all_done all left total none fits so_far = omega (arith, none, fits, so_far)

pub atoms_done : (n : ℕ) (atoms : List AtomOfTree) (k all : ℕ) → length atoms ≤ k → all ≤ 2 ^ 64 - 1 → capped (all + turns_of n (map atom_tree (drop k atoms))) ≡ capped (turns_of n (map atom_tree atoms))
    → all ≡ capped (turns_of n (map atom_tree atoms))
atoms_done n atoms k all past fits so_far =
    all_done all (turns_of n (map atom_tree (drop k atoms))) (turns_of n (map atom_tree atoms)) (ap (λ (xs : List AtomOfTree). turns_of n (map atom_tree xs)) (drop_past atoms k past)) fits so_far

pub patterns_done : (n : ℕ) (ps : List Alternative) (k all : ℕ) → length ps ≤ k → all ≤ 2 ^ 64 - 1
    → capped (all + turns_of_patterns n (patterns_of (map alternative_trees (drop k ps)))) ≡ capped (turns_of_patterns n (patterns_of (map alternative_trees ps)))
    → all ≡ capped (turns_of_patterns n (patterns_of (map alternative_trees ps)))
patterns_done n ps k all past fits so_far =
    all_done all (turns_of_patterns n (patterns_of (map alternative_trees (drop k ps)))) (turns_of_patterns n (patterns_of (map alternative_trees ps)))
    (ap (λ (xs : List Alternative). turns_of_patterns n (patterns_of (map alternative_trees xs))) (drop_past ps k past)) fits so_far

-- of an atom with a group, where t are its own turns, and w those in each of them with the turn itself
pub group_turned : (n : ℕ) (a : AtomOfTree) (ps : Vec Alternative Global) (count : Count) (t p w : ℕ) → a.repeated ≡ repeated.Group ps → count ≡ capped_count (plain_count a.count)
    → t ≡ capped (turns count n) → p ≡ capped (turns_of_patterns n (patterns_of (map alternative_trees ps.items))) → w ≡ capped (p + 1) → capped (t * w) ≡ capped (turns_of_atom n (atom_tree a))
group_turned n a ps count t p w is kept own within with_it =
    let x = turns_of_patterns n (patterns_of (map alternative_trees ps.items)) in
    let own' : t ≡ capped (turns (plain_count a.count) n) = own ∙ ap (λ (c : Count). capped (turns c n)) kept ∙ turns_capped (plain_count a.count) n in
    let w' : w ≡ capped (suc x) = omega (arith, within, with_it) in
    let tree : turns_of_atom n (atom_tree a) ≡ turns (plain_count a.count) n * suc x =
    ap (turns_of_atom n) (atom_is a) ∙ ap (λ (r : RepeatedTree). turns_of_repeated n (turns (plain_count a.count) n) r) (ap repeated_tree is ∙ group_is ps) in
    rw (own', w', tree) (capped_times (turns (plain_count a.count) n) x)
