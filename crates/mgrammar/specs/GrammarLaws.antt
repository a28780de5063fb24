-- SPDX-License-Identifier: Apache-2.0
-- The laws of the grammar. The functions of src/ named after them carry them.
use Rattle.std.specs.Prelude.{◌≡◌, ◌≤◌, ◌↔◌, ℕ, true, false, List, Some, None}
use Rattle.mspec.specs.Names.{IsName}
use Rattle.mgrammar.specs.Grammar.{ReferenceTree, ArgTree, AtomTree, FormTree, may_be_indirect, LineTree, spell_reference, spell_list, spell_arg, spell_atoms}
use Rattle.mgrammar.specs.Grammar.{spell}
use Rattle.mgrammar.specs.WellFormed.{max_depth, WellReference, WellList, WellArg, WellAtom, well}
use Rattle.mgrammar.specs.Reading.{line_at}
use Rattle.mgrammar.specs.IndirectTexts.{ref_at, args_of, pattern_of, name_of}
use Rattle.mgrammar.specs.RoutineLine.{RoutineLineTree, spell_routine_line, well_routine_line, routine_line_at, label_of, formals_of, dots_of, dots_of_body}
use Rattle.mgrammar.specs.CallsIn.{has_call_line}
use Rattle.mgrammar.specs.ProgramsIn.{in_steps_line}
use Rattle.mgrammar.specs.Languages.{since_line, since_formals, since_routine_line, since_reference, since_args, line_in, routine_line_in, ref_in, args_in}

-- no text has two trees
abbrev pub OneTree : Type 0
OneTree = (s t : LineTree) → well s → well t → spell s ≡ spell t → s ≡ t

-- a text is read as a tree exactly when that is the well-formed tree that spells it
abbrev pub ReadsItsTree : Type 0
ReadsItsTree = (text : List ℕ) (l : LineTree) → (line_at text ≡ Some l) ↔ ((spell l ≡ text) × well l)

-- as a line of a routine, no text has two trees
abbrev pub OneRoutineTree : Type 0
OneRoutineTree = (s t : RoutineLineTree) → well_routine_line s → well_routine_line t → spell_routine_line s ≡ spell_routine_line t → s ≡ t

-- and it is read as a tree exactly when that is the well-formed tree that spells it
abbrev pub ReadsItsRoutineTree : Type 0
ReadsItsRoutineTree = (text : List ℕ) (l : RoutineLineTree) → (routine_line_at text ≡ Some l) ↔ ((spell_routine_line l ≡ text) × well_routine_line l)

-- what is read in a language of a text that has a tree, without reading it whole
pub record TellsRoutineLine (n : ℕ) (text : List ℕ) (l : RoutineLineTree) : Type 0 where
  pub label : label_of n text ≡ l.label
  pub formals : formals_of n text ≡ l.formals
  pub dots : dots_of n text ≡ dots_of_body l.body

-- if the language has formal lists or the tree none
abbrev pub ToldOfItsTree : Type 0
ToldOfItsTree =
    (n : ℕ) (text : List ℕ) (l : RoutineLineTree) → routine_line_at text ≡ Some l → since_formals l.formals ≤ n → TellsRoutineLine n text l

-- as the text of a name indirection, no text has two trees
abbrev pub OneReference : Type 0
OneReference = (s t : ReferenceTree) → WellReference max_depth s → WellReference max_depth t → spell_reference s ≡ spell_reference t → s ≡ t

-- and it is read as a tree exactly when that is the well-formed tree that spells it
abbrev pub ReadsItsReference : Type 0
ReadsItsReference = (text : List ℕ) (v : ReferenceTree) → (ref_at text ≡ Some v) ↔ ((spell_reference v ≡ text) × WellReference max_depth v)

-- as that of an argument indirection, for a form whose arguments a text may give, no text has two lists of trees
abbrev pub OneArgumentList : Type 0
OneArgumentList =
    (f : FormTree) → may_be_indirect f ≡ true → (s t : List ArgTree) → WellList (WellArg f) s → WellList (WellArg f) t →
    spell_list spell_arg s ≡ spell_list spell_arg t → s ≡ t

-- and it is read as such a list exactly when that is the list of well-formed trees that spells it
abbrev pub ReadsItsArguments : Type 0
ReadsItsArguments =
    (f : FormTree) → may_be_indirect f ≡ true → (text : List ℕ) (args : List ArgTree) →
    (args_of f text ≡ Some args) ↔ ((spell_list spell_arg args ≡ text) × WellList (WellArg f) args)

-- as that of a pattern indirection, no text has two lists of atoms
abbrev pub OnePattern : Type 0
OnePattern = (s t : List AtomTree) → WellList (WellAtom max_depth) s → WellList (WellAtom max_depth) t → spell_atoms s ≡ spell_atoms t → s ≡ t

-- and it is read as such a list exactly when that is the list of well-formed atoms that spells it
abbrev pub ReadsItsPattern : Type 0
ReadsItsPattern = (text : List ℕ) (atoms : List AtomTree) → (pattern_of text ≡ Some atoms) ↔ ((spell_atoms atoms ≡ text) × WellList (WellAtom max_depth) atoms)

-- in an actual, a text is read as a name exactly when it is one
abbrev pub ReadsItsName : Type 0
ReadsItsName = (text name : List ℕ) → (name_of text ≡ Some name) ↔ ((name ≡ text) × IsName name)

-- in a language a text is read as a tree exactly when that is the well-formed tree that spells it, and the language has all its forms
abbrev pub ReadsItsTreeIn : Type 0
ReadsItsTreeIn = (n : ℕ) (text : List ℕ) (l : LineTree) → (line_in n text ≡ Some l) ↔ ((spell l ≡ text) × well l × (since_line l ≤ n))

abbrev pub ReadsItsRoutineTreeIn : Type 0
ReadsItsRoutineTreeIn =
    (n : ℕ) (text : List ℕ) (l : RoutineLineTree) →
    (routine_line_in n text ≡ Some l) ↔ ((spell_routine_line l ≡ text) × well_routine_line l × (since_routine_line l ≤ n))

abbrev pub ReadsItsReferenceIn : Type 0
ReadsItsReferenceIn =
    (n : ℕ) (text : List ℕ) (v : ReferenceTree) →
    (ref_in n text ≡ Some v) ↔ ((spell_reference v ≡ text) × WellReference max_depth v × (since_reference v ≤ n))

abbrev pub ReadsItsArgumentsIn : Type 0
ReadsItsArgumentsIn =
    (f : FormTree) → may_be_indirect f ≡ true → (n : ℕ) (text : List ℕ) (args : List ArgTree) →
    (args_in f n text ≡ Some args) ↔ ((spell_list spell_arg args ≡ text) × WellList (WellArg f) args × (since_args args ≤ n))

-- what one language reads a text as, each later one does
abbrev pub LaterLanguagesRead : Type 0
LaterLanguagesRead = (n m : ℕ) → n ≤ m → (text : List ℕ) (l : LineTree) → line_in n text ≡ Some l → line_in m text ≡ Some l

-- no line of the profile calls a function
abbrev pub ProfileHasNoCall : Type 0
ProfileHasNoCall = (l : LineTree) → since_line l ≡ 0 → has_call_line l ≡ false

-- and no line of a routine has a formal list there, whatever its text is
abbrev pub ProfileHasNoList : Type 0
ProfileHasNoList = (text : List ℕ) → formals_of 0 text ≡ None

-- a line in which no function is called has none where it could not stand
abbrev pub UncalledIsInSteps : Type 0
UncalledIsInSteps = (l : LineTree) → has_call_line l ≡ false → in_steps_line l ≡ true

-- in language 1 each call of a line stands where it can be carried out a step at a time
abbrev pub FirstIsInSteps : Type 0
FirstIsInSteps = (l : LineTree) → since_line l ≤ 1 → in_steps_line l ≡ true
