-- SPDX-License-Identifier: Apache-2.0
-- What is read in a language is what is read, if the language has all its forms.
use Rattle.mgrammar.proofs.GrammarWords.{◌≡◌, ℕ, ◌≤◌, ◌↔◌, true, List, Option, Some, None, nat_le, leb-true, le-leb, arith, inl, inr, refl, sym, ap, ◌∙◌, spell}
use Rattle.mgrammar.proofs.GrammarWords.{well, spell_routine_line, well_routine_line, spell_reference, WellReference, max_depth, spell_list, spell_arg}
use Rattle.mgrammar.proofs.GrammarWords.{WellList, WellArg, may_be_indirect, FormTree, ArgTree, ReferenceTree, LineTree, RoutineLineTree, line_at}
use Rattle.mgrammar.proofs.GrammarWords.{routine_line_at, ref_at, args_of}
use Rattle.mgrammar.specs.Languages.{kept_in, since_line, since_routine_line, since_reference, since_args, line_in, routine_line_in, ref_in, args_in}
use Rattle.mgrammar.proofs.ReadingBasics.{chosen, some_is}
use Rattle.mgrammar.proofs.ReadingLines.{reads_its_tree}
use Rattle.mgrammar.proofs.ReadingRoutines.{reads_its_routine_tree}
use Rattle.mgrammar.proofs.ReadingIndirectTexts.{reads_its_reference, reads_its_arguments}

module _ {A : Type 0} (since : A → ℕ) (n : ℕ) where
  kept_is : (o : Option A) (t : A) → kept_in since n o ≡ Some t → (o ≡ Some t) × (since t ≤ n)
  kept_is None t e = absurd cc
  kept_is (Some s) t e =
      elim (chosen (nat_le (since s) n) (Some s) None (Some t) e) [
        | inl p ↦ let same = some_is s t p.1 in (p.1, rw (sym same) (leb-true (since s) n p.0))
        | inr p ↦ absurd (let clash : None ≡ Some t = p.1 in cc)
      ]

  is_kept : (t : A) → since t ≤ n → kept_in since n (Some t) ≡ Some t
  is_kept t h = rw (le-leb (since t) n h) refl

  -- what is read so in a language, given what is read at all
  pub read_in : (o : Option A) (t : A) (P : Type 0) (Q : Type 0) → (o ≡ Some t) ↔ (P × Q) → (kept_in since n o ≡ Some t) ↔ (P × Q × (since t ≤ n))
  read_in o t P Q told = (
    λ e. let k = kept_is o t e in let p = told.0 k.0 in (p.0, p.1, k.1),
    λ h. ap (kept_in since n) (told.1 (h.0, h.1)) ∙ is_kept t h.2,
  )

  -- a later language keeps it too
  pub kept_later : (m : ℕ) → n ≤ m → (o : Option A) (t : A) → kept_in since n o ≡ Some t → kept_in since m o ≡ Some t
  kept_later m h o t e = let k = kept_is o t e in ap (kept_in since m) k.0 ∙ rw (le-leb (since t) m (omega (arith, h, k.1))) refl

pub reads_its_tree_in : (n : ℕ) (text : List ℕ) (l : LineTree) → (line_in n text ≡ Some l) ↔ ((spell l ≡ text) × well l × (since_line l ≤ n))
unfolding line_in
reads_its_tree_in n text l = read_in since_line n (line_at text) l (spell l ≡ text) (well l) (reads_its_tree text l)

pub reads_its_routine_tree_in : (n : ℕ) (text : List ℕ) (l : RoutineLineTree)
    → (routine_line_in n text ≡ Some l) ↔ ((spell_routine_line l ≡ text) × well_routine_line l × (since_routine_line l ≤ n))
unfolding routine_line_in
reads_its_routine_tree_in n text l =
    read_in since_routine_line n (routine_line_at text) l (spell_routine_line l ≡ text) (well_routine_line l) (reads_its_routine_tree text l)

pub reads_its_reference_in : (n : ℕ) (text : List ℕ) (v : ReferenceTree)
    → (ref_in n text ≡ Some v) ↔ ((spell_reference v ≡ text) × WellReference max_depth v × (since_reference v ≤ n))
unfolding ref_in
reads_its_reference_in n text v = read_in since_reference n (ref_at text) v (spell_reference v ≡ text) (WellReference max_depth v) (reads_its_reference text v)

pub reads_its_arguments_in : (f : FormTree) → may_be_indirect f ≡ true → (n : ℕ) (text : List ℕ) (args : List ArgTree)
    → (args_in f n text ≡ Some args) ↔ ((spell_list spell_arg args ≡ text) × WellList (WellArg f) args × (since_args args ≤ n))
unfolding args_in
reads_its_arguments_in f may n text args =
    read_in since_args n (args_of f text) args (spell_list spell_arg args ≡ text) (WellList (WellArg f) args) (reads_its_arguments f may text args)

pub later_languages_read : (n m : ℕ) → n ≤ m → (text : List ℕ) (l : LineTree) → line_in n text ≡ Some l → line_in m text ≡ Some l
unfolding line_in
later_languages_read n m h text l e = kept_later since_line n m h (line_at text) l e
