-- SPDX-License-Identifier: Apache-2.0
-- A walk over the atoms of a pattern, of which each ends at one place only.
use Rattle.moperator.proofs.OperatorWords.{◌≡◌, ℕ, zero, suc, ◌-◌, ◌<◌, ◌≤◌, ◌↔◌, Bool, eqb, capped_count, count_of, List, [], ◌∷◌, length, get_or, take, drop}
use Rattle.moperator.proofs.OperatorWords.{Some, Result, Ok, Err, IfOk, refl, sym, ap, subst, ◌∙◌, arith, drop-drop, length-drop, Decides-eqb, take_rest, Atom}
use Rattle.moperator.proofs.OperatorWords.{Matches, atom_tree, IsLent, IsFirstOf, IsEnding, kept_atom, kept_repeated, pattern_of}
use Rattle.std.proofs.Common.{◌+◌, Option, Decides}
use Rattle.mgrammar.specs.Grammar.{AtomTree}
use Rattle.mgrammar.specs.Matching.{count_of as plain_count}
use Rattle.mtext.specs.Endings.{Repeats}
use Rattle.mtree.specs.Tree.{repeated_tree}
use Rattle.mtree.specs.declared.tree.Atom as tree
use Rattle.moperator.proofs.PatternParts.{atom_is}
use Rattle.mtext.specs.declared.ending.LentAtom.{LentAtom}
use Rattle.mtext.specs.declared.ending.Ending.TheVariants as ending

-- ---- the atoms from a place on

pub from_atom : (atoms : List tree.Atom) (k : ℕ) (a : tree.Atom) → k < length atoms → a ≡ get_or atoms k a →
    drop k (pattern_of atoms) ≡ kept_atom (atom_tree a) ∷ drop (k + 1) (pattern_of atoms)
from_atom [] k a within here = absurd (omega arith)
from_atom (b ∷ atoms) zero a within here = ap (λ (c : tree.Atom). kept_atom (atom_tree c) ∷ pattern_of atoms) (sym here)
from_atom (b ∷ atoms) (suc k) a within here =
    let more : suc (k + 1) ≡ suc k + 1 = omega arith in
    from_atom atoms k a (omega arith) here
    ∙ ap (λ (n : ℕ). kept_atom (atom_tree a) ∷ drop n (pattern_of (b ∷ atoms))) more

pub lent_first : (atoms : List tree.Atom) (k : ℕ) (a : tree.Atom) (lent : LentAtom) → k < length atoms → a ≡ get_or atoms k a → count_of lent.count ≡ capped_count (plain_count a.count)
    → Repeats lent.repeated (kept_repeated (repeated_tree a.repeated)) → IsFirstOf (Some lent) (drop k (pattern_of atoms))
lent_first atoms k a lent within here count repeats =
    subst (λ (xs : List Atom). IsFirstOf (Some lent) xs) (sym (from_atom atoms k a within here))
    (subst (λ (t : AtomTree). IsLent lent (kept_atom t)) (sym (atom_is a)) (count, repeats))

pub pattern_from : (atoms : List tree.Atom) (k : ℕ) → pattern_of (drop k atoms) ≡ drop k (pattern_of atoms)
pattern_from atoms zero = refl
pattern_from [] (suc k) = refl
pattern_from (a ∷ atoms) (suc k) = pattern_from atoms k

pub record IsSplit (atoms : List Atom) (passed : ℕ) (lent : LentAtom) : Type 0 where
  pub first : Atom
  pub cut : drop passed atoms ≡ first ∷ drop (passed + 1) atoms
  pub is : IsLent lent first

pub split_first : (atoms : List Atom) (passed : ℕ) (lent : LentAtom) → IsFirstOf (Some lent) (drop passed atoms) → IsSplit atoms passed lent
split_first [] zero lent is = absurd is
split_first [] (suc k) lent is = absurd is
split_first (a ∷ atoms) zero lent is = record { first = a; cut = refl; is = is }
split_first (a ∷ atoms) (suc k) lent is =
    let rest : IsSplit atoms k lent = split_first atoms k lent is in
    let more : suc (k + 1) ≡ suc k + 1 = omega arith in
    record { first = rest.first; cut = rest.cut ∙ ap (λ (n : ℕ). rest.first ∷ drop n (a ∷ atoms)) more; is = rest.is }

-- if there is one more atom
pub below_end : (atoms : List tree.Atom) (passed : ℕ) (lent : LentAtom) → IsFirstOf (Some lent) (drop passed (pattern_of atoms)) → passed < length atoms
below_end [] zero lent is = absurd is
below_end [] (suc k) lent is = absurd is
below_end (a ∷ atoms) zero lent is = omega arith
below_end (a ∷ atoms) (suc k) lent is = let less = below_end atoms k lent is in omega arith

-- ---- the walk

-- what is known of the first atom, of all that are left
pub at_first : (atoms : List Atom) (passed : ℕ) (lent : LentAtom) (next : Option LentAtom) (text : List ℕ) (at n : ℕ) → IsFirstOf (Some lent) (drop passed atoms)
    → IsFirstOf next (drop (passed + 1) atoms)
    → ((first : Atom) (others : List Atom) → IsLent lent first → IsFirstOf next others → IsEnding (take (length text - at) (drop at text)) first others (ending.Behind n))
    → (n ≤ length (drop at text)) × (Matches (drop passed atoms) (drop at text) ↔ Matches (drop (passed + 1) atoms) (drop (at + n) text))
at_first atoms passed lent next text at n is following ends =
    let s = split_first atoms passed lent is in
    let e : IsEnding (drop at text) s.first (drop (passed + 1) atoms) (ending.Behind n) =
    subst (λ (t : List ℕ). IsEnding t s.first (drop (passed + 1) atoms) (ending.Behind n)) (take_rest text at) (ends s.first (drop (passed + 1) atoms) s.is following) in (
      e.0,
      (
        λ m. subst (λ (t : List ℕ). Matches (drop (passed + 1) atoms) t) (drop-drop n at text) (e.1.0 (subst (λ (a : List Atom). Matches a (drop at text)) s.cut m)),
        λ m. subst (λ (a : List Atom). Matches a (drop at text)) (sym s.cut) (e.1.1 (subst (λ (t : List ℕ). Matches (drop (passed + 1) atoms) t) (sym (drop-drop n at text)) m)),
      ),
    )

pub none_first : (atoms : List Atom) (passed : ℕ) (lent : LentAtom) (next : Option LentAtom) (text : List ℕ) (at : ℕ) → IsFirstOf (Some lent) (drop passed atoms)
    → IsFirstOf next (drop (passed + 1) atoms)
    → ((first : Atom) (others : List Atom) → IsLent lent first → IsFirstOf next others → IsEnding (take (length text - at) (drop at text)) first others ending.Nowhere)
    → Matches (drop passed atoms) (drop at text) → ⊥
none_first atoms passed lent next text at is following ends m =
    let s = split_first atoms passed lent is in
    let e : IsEnding (drop at text) s.first (drop (passed + 1) atoms) ending.Nowhere =
    subst (λ (t : List ℕ). IsEnding t s.first (drop (passed + 1) atoms) ending.Nowhere) (take_rest text at) (ends s.first (drop (passed + 1) atoms) s.is following) in
    e (subst (λ (a : List Atom). Matches a (drop at text)) s.cut m)

pub moved : {E A B : Type 0} (r : Result Bool E) → (A ↔ B) → IfOk r (λ answer. Decides answer B) → IfOk r (λ answer. Decides answer A)
moved (Ok b) same decided = (λ t. same.1 (decided.0 t), λ a. decided.1 (same.0 a))
moved (Err e) same decided = tt

-- the others in general
pub in_general : {E : Type 0} (atoms : List tree.Atom) (passed : ℕ) (text : List ℕ) (at : ℕ) (r : Result Bool E)
    → (Matches (pattern_of atoms) text ↔ Matches (drop passed (pattern_of atoms)) (drop at text))
    → IfOk r (λ answer. Decides answer (Matches (pattern_of (take (length atoms - passed) (drop passed atoms))) (take (length text - at) (drop at text))))
    → IfOk r (λ answer. Decides answer (Matches (pattern_of atoms) text))
in_general atoms passed text at r same decided =
    let atoms_left : pattern_of (take (length atoms - passed) (drop passed atoms)) ≡ drop passed (pattern_of atoms) = ap pattern_of (take_rest atoms passed) ∙ pattern_from atoms passed in
    moved r same
    (subst (λ (t : List ℕ). IfOk r (λ answer. Decides answer (Matches (drop passed (pattern_of atoms)) t))) (take_rest text at)
    (subst (λ (a : List Atom). IfOk r (λ answer. Decides answer (Matches a (take (length text - at) (drop at text))))) atoms_left decided))

-- at the end of the pattern
pub at_end : (atoms : List Atom) (passed : ℕ) (text : List ℕ) (at : ℕ) → at ≤ length text → drop passed atoms ≡ []
    → (Matches atoms text ↔ Matches (drop passed atoms) (drop at text)) → Decides (eqb at (length text)) (Matches atoms text)
at_end atoms passed text at within none same =
    let whole = Decides-eqb at (length text) in (
      λ t.
          let is : at ≡ length text = whole.0 t in
          same.1 (subst (λ (a : List Atom). Matches a (drop at text)) (sym none) (empty (drop at text) (omega (arith, length-drop at text)))),
      λ m.
          let nothing : drop at text ≡ [] = subst (λ (a : List Atom). Matches a (drop at text)) none (same.0 m) in
          whole.1 (omega (arith, length-drop at text, ap length nothing)),
    ) where
      empty : (t : List ℕ) → length t ≡ 0 → t ≡ []
      empty [] e = refl
      empty (c ∷ t) e = absurd (omega arith)
