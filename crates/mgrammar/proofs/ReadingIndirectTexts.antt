-- SPDX-License-Identifier: Apache-2.0
-- What is read of a whole text of indirection is spelled so, and what is spelled so is read.
use Rattle.mgrammar.proofs.GrammarWords.{◌≡◌, ◌↔◌, ℕ, true, false, List, [], ◌∷◌, ◌++◌, length, Some, refl, sym, ap, subst, ◌∙◌, append-nil, ReferenceTree}
use Rattle.mgrammar.proofs.GrammarWords.{ArgTree, AtomTree, FormTree, for_argument, may_be_indirect, spell_reference, spell_list, spell_arg, spell_atoms}
use Rattle.mgrammar.proofs.GrammarWords.{max_depth, WellReference, WellList, WellArg, WellAtom, Read, ◌>>=◌, IsName, name_at, name_of, list_at, pattern_at}
use Rattle.mgrammar.proofs.GrammarWords.{readers_at, reference_with, arg_at, whole_by, ref_at, args_of, pattern_of}
use Rattle.mgrammar.proofs.ReadingBasics.{Takes, bind_some, some_is, unique, told, name_takes, name_again}
use Rattle.mgrammar.proofs.ReadingLists.{list_takes}
use Rattle.mgrammar.proofs.ReadingPatterns.{pattern_at_takes, pattern_at_again}
use Rattle.mgrammar.proofs.ReadingArguments.{variable_takes, variable_again}
use Rattle.mgrammar.proofs.ReadingCommands.{IsCounted, is_form}

-- what is read whole leaves nothing after it
whole_is : {A : Type 0} (a b : A) (rest : List ℕ) → whole_by a rest ≡ Some b → (rest ≡ []) × (a ≡ b)
whole_is a b [] e = (refl, some_is a b e)
whole_is a b (c ∷ cs) e = absurd cc

module _ {A : Type 0} (spell : A → List ℕ) (P : A → Type 0) (read : List ℕ → Read A) where
  whole_takes : Takes spell P read → (cs : List ℕ) (a : A) → (read cs >>= λ x. whole_by x.0 x.1) ≡ Some a → (spell a ≡ cs) × P a
  whole_takes takes cs a e =
      let b = bind_some (read cs) (λ x. whole_by x.0 x.1) a e in
      let t = takes cs b.0 b.1 in
      let is = whole_is b.0.0 a b.0.1 b.2 in
      let all : cs ≡ spell b.0.0 = t.0 ∙ ap (λ (y : List ℕ). spell b.0.0 ++ y) is.0 ∙ append-nil (spell b.0.0) in
      subst (λ (y : A). (spell y ≡ cs) × P y) is.1 (sym all, t.1)

  whole_again : (a : A) → read (spell a ++ []) ≡ Some (a, []) → (read (spell a) >>= λ x. whole_by x.0 x.1) ≡ Some a
  whole_again a h =
      let same : read (spell a) ≡ Some (a, []) = ap read (sym (append-nil (spell a))) ∙ h in
      rw same refl

-- ---- a variable

reference_again : (v : ReferenceTree) → WellReference max_depth v → ref_at (spell_reference v) ≡ Some v
unfolding ref_at
reference_again v w = whole_again spell_reference (WellReference max_depth) (reference_with (readers_at max_depth)) v (variable_again v [] w tt)

reference_takes : (cs : List ℕ) (v : ReferenceTree) → ref_at cs ≡ Some v → (spell_reference v ≡ cs) × WellReference max_depth v
unfolding ref_at
reference_takes cs v e = whole_takes spell_reference (WellReference max_depth) (reference_with (readers_at max_depth)) variable_takes cs v e

pub reads_its_reference : (text : List ℕ) (v : ReferenceTree) → (ref_at text ≡ Some v) ↔ ((spell_reference v ≡ text) × WellReference max_depth v)
reads_its_reference = told spell_reference (WellReference max_depth) ref_at reference_again reference_takes

pub one_reference : (s t : ReferenceTree) → WellReference max_depth s → WellReference max_depth t → spell_reference s ≡ spell_reference t → s ≡ t
one_reference = unique spell_reference (WellReference max_depth) ref_at reference_again

-- ---- arguments

not_counted : (f : FormTree) (n : ℕ) → may_be_indirect f ≡ true → IsCounted f n
not_counted f n m = λ e. absurd (let clash : may_be_indirect for_argument ≡ true = ap may_be_indirect (sym e) ∙ m in let no : false ≡ true = clash in cc)

arguments_again : (f : FormTree) (args : List ArgTree) → may_be_indirect f ≡ true → WellList (WellArg f) args → args_of f (spell_list spell_arg args) ≡ Some args
unfolding args_of
arguments_again f args m w =
    whole_again (spell_list spell_arg) (WellList (WellArg f)) (list_at (arg_at f)) args ((is_form f).again args [] w (not_counted f (length args) m) (((tt, tt), tt, tt, tt), tt))

arguments_takes : (f : FormTree) (cs : List ℕ) (args : List ArgTree) → args_of f cs ≡ Some args → (spell_list spell_arg args ≡ cs) × WellList (WellArg f) args
unfolding args_of
arguments_takes f cs args e =
    whole_takes (spell_list spell_arg) (WellList (WellArg f)) (list_at (arg_at f)) (list_takes spell_arg (WellArg f) (arg_at f) ((is_form f).takes)) cs args e

pub reads_its_arguments : (f : FormTree) → may_be_indirect f ≡ true → (text : List ℕ) (args : List ArgTree) → (args_of f text ≡ Some args) ↔ ((spell_list spell_arg args ≡ text) × WellList (WellArg f) args)
reads_its_arguments f m text args = (arguments_takes f text args, λ h. subst (λ (cs : List ℕ). args_of f cs ≡ Some args) h.0 (arguments_again f args m h.1))

pub one_argument_list : (f : FormTree) → may_be_indirect f ≡ true → (s t : List ArgTree) → WellList (WellArg f) s → WellList (WellArg f) t → spell_list spell_arg s ≡ spell_list spell_arg t → s ≡ t
one_argument_list f m s t v w e = some_is s t (sym (arguments_again f s m v) ∙ ap (args_of f) e ∙ arguments_again f t m w)

-- ---- a pattern

atoms_again : (atoms : List AtomTree) → WellList (WellAtom max_depth) atoms → pattern_of (spell_atoms atoms) ≡ Some atoms
unfolding pattern_of
atoms_again atoms w = whole_again spell_atoms (WellList (WellAtom max_depth)) (pattern_at max_depth) atoms (pattern_at_again max_depth atoms [] w tt)

atoms_takes : (cs : List ℕ) (atoms : List AtomTree) → pattern_of cs ≡ Some atoms → (spell_atoms atoms ≡ cs) × WellList (WellAtom max_depth) atoms
unfolding pattern_of
atoms_takes cs atoms e = whole_takes spell_atoms (WellList (WellAtom max_depth)) (pattern_at max_depth) (pattern_at_takes max_depth) cs atoms e

pub reads_its_pattern : (text : List ℕ) (atoms : List AtomTree) → (pattern_of text ≡ Some atoms) ↔ ((spell_atoms atoms ≡ text) × WellList (WellAtom max_depth) atoms)
reads_its_pattern = told spell_atoms (WellList (WellAtom max_depth)) pattern_of atoms_again atoms_takes

pub one_pattern : (s t : List AtomTree) → WellList (WellAtom max_depth) s → WellList (WellAtom max_depth) t → spell_atoms s ≡ spell_atoms t → s ≡ t
one_pattern = unique spell_atoms (WellList (WellAtom max_depth)) pattern_of atoms_again

-- ---- a name

name_again_whole : (name : List ℕ) → IsName name → name_of name ≡ Some name
unfolding name_of
name_again_whole name w = whole_again (λ n. n) IsName name_at name (name_again name [] w tt)

name_takes_whole : (cs name : List ℕ) → name_of cs ≡ Some name → (name ≡ cs) × IsName name
unfolding name_of
name_takes_whole cs name e = whole_takes (λ n. n) IsName name_at name_takes cs name e

pub reads_its_name : (text name : List ℕ) → (name_of text ≡ Some name) ↔ ((name ≡ text) × IsName name)
reads_its_name = told (λ n. n) IsName name_of name_again_whole name_takes_whole
