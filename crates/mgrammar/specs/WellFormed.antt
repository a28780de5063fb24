-- SPDX-License-Identifier: Apache-2.0
-- What makes a tree the tree of a text: the names, numbers and words that it may have, how many arguments, how deep brackets lie, and
-- how many spaces stand between commands.
use Rattle.std.specs.Prelude.{◌≡◌, ℕ, suc, ◌-◌, ◌<◌, ◌≤◌, Bool, true, false, nat_le, List, [], ◌∷◌, length, Option, Some, None}
pub use Rattle.mspec.specs.Limits.{max_depth}
use Rattle.mspec.specs.Literal.{is_digit, Literal, IsLiteral, spell_literal}
use Rattle.mspec.specs.Names.{is_letter, is_character, AllAre, IsName}
use Rattle.mgrammar.specs.Grammar.{CountTree, RepeatedTree, classes, copies, group, AtomsTree, no_atoms, more_atoms, PatternsTree, no_patterns, more_patterns}
use Rattle.mgrammar.specs.Grammar.{AtomTree, ExprTree, expr, TailsTree, no_tails, tail, TailTree, apply, matches, matches_not, raise, matches_indirect}
use Rattle.mgrammar.specs.Grammar.{matches_not_indirect, OperandTree, operand, PrimaryTree, number, text, special, reference, bracket, call, select, refer}
use Rattle.mgrammar.specs.Grammar.{extrinsic, ReferenceTree, local, global, naked, indirect, extended, ExprsTree, no_exprs, exprs, ChoicesTree, no_choices}
use Rattle.mgrammar.specs.Grammar.{choice, ActualTree, missing_actual, value_actual, name_actual, indirect_actual, ActualsTree, no_actuals, actuals, TargetTree}
use Rattle.mgrammar.specs.Grammar.{variable, part, DestinationTree, one, several, ParameterTree, once, onward, until, RoutineTree, own_routine, shared_routine}
use Rattle.mgrammar.specs.Grammar.{EntryTree, at_label, at_label_in, at_routine, ArgTree, assign, formats, coded, shown, kill_one, kill_others, new_one}
use Rattle.mgrammar.specs.Grammar.{new_others, tested, loop, do_one, go_to, executed, locked, hang_for, returned, merge_one, indirect_args, LockedTree}
use Rattle.mgrammar.specs.Grammar.{lock_one}
use Rattle.mgrammar.specs.Grammar.{lock_several, anew, adding, giving_back, KeywordTree, CommandTree, SpacedTree, LineTree, FormTree, set_argument}
use Rattle.mgrammar.specs.Grammar.{kill_argument, new_argument, if_argument, for_argument, write_argument, do_argument, goto_argument, xecute_argument}
use Rattle.mgrammar.specs.Grammar.{lock_argument, hang_argument, quit_argument, merge_argument, may_be_indirect, is_pattern_letter, is_format}
use Rattle.mgrammar.specs.Specials.{SpecialTree, special_of}
use Rattle.mgrammar.specs.Commands.{keyword_of, form_of, takes_args, takes_condition}
use Rattle.mgrammar.specs.Functions.{ValueFunctionTree, VariableFunctionTree, of_values, of_variable, of_choices, function_of, takes, is_part}

-- `numlit`
abbrev pub SpellsNumber : List ℕ → Type 0
SpellsNumber t = (l : Literal) × IsLiteral l × (spell_literal l ≡ t)

-- at most four digits
abbrev pub IsBound : List ℕ → Type 0
IsBound digits = AllAre is_digit digits × (length digits ≤ 4)

abbrev pub IsCount : List ℕ → Option (List ℕ) → Type 0
IsCount front None = IsBound front × (0 < length front)
IsCount front (Some behind) = IsBound front × IsBound behind

abbrev pub WellCount : CountTree → Type 0
WellCount n = IsCount n.front n.behind

abbrev pub HasAtom : AtomsTree → Type 0
HasAtom no_atoms = ⊥
HasAtom (more_atoms n p rest) = Unit {0}

abbrev pub HasPattern : PatternsTree → Type 0
HasPattern no_patterns = ⊥
HasPattern (more_patterns p rest) = Unit {0}

-- if this many more brackets may be open
abbrev mutual
  pub WellRepeated : ℕ → RepeatedTree → Type 0
  WellRepeated d (classes letters) = AllAre is_pattern_letter letters × (0 < length letters)
  WellRepeated d (copies t) = AllAre is_character t
  WellRepeated d (group ps) = (0 < d) × HasPattern ps × WellPatterns (d - 1) ps

  pub WellRun : ℕ → AtomsTree → Type 0
  WellRun d no_atoms = Unit {0}
  WellRun d (more_atoms n p rest) = (WellCount n × WellRepeated d p) × WellRun d rest

  pub WellPatterns : ℕ → PatternsTree → Type 0
  WellPatterns d no_patterns = Unit {0}
  WellPatterns d (more_patterns p rest) = (HasAtom p × WellRun d p) × WellPatterns d rest

abbrev pub WellAtom : ℕ → AtomTree → Type 0
WellAtom d a = WellCount a.count × WellRepeated d a.repeated

abbrev pub WellAll : {A : Type 0} → (A → Type 0) → List A → Type 0
WellAll P [] = Unit {0}
WellAll P (a ∷ rest) = P a × WellAll P rest

-- one or more
abbrev pub WellList : {A : Type 0} → (A → Type 0) → List A → Type 0
WellList P [] = ⊥
WellList P (a ∷ rest) = P a × WellAll P rest

abbrev pub exprs_count : ExprsTree → ℕ
exprs_count no_exprs = 0
exprs_count (exprs e rest) = suc (exprs_count rest)

-- a function that takes this many values
abbrev pub IsCall : List ℕ → ℕ → Type 0
IsCall word n = (f : ValueFunctionTree) × (least : ℕ) × (most : Option ℕ) × (function_of word ≡ Some (of_values f least most)) × (takes least most n ≡ true)

-- a function of a variable that takes this many values after it
abbrev pub IsReferring : List ℕ → ℕ → Type 0
IsReferring word n = (f : VariableFunctionTree) × (most : ℕ) × (function_of word ≡ Some (of_variable f most)) × (nat_le n most ≡ true)

abbrev pub IsSpecial : List ℕ → Type 0
IsSpecial word = (v : SpecialTree) × (special_of word ≡ Some v)

abbrev pub HasChoice : ChoicesTree → Type 0
HasChoice no_choices = ⊥
HasChoice (choice c v rest) = Unit {0}

abbrev pub HasExpr : ExprsTree → Type 0
HasExpr no_exprs = ⊥
HasExpr (exprs e rest) = Unit {0}

-- the word of $SELECT
abbrev pub IsSelect : List ℕ → Type 0
IsSelect word = (function_of word ≡ Some of_choices) × AllAre is_letter word

-- a function that may be a target of SET with this many values after its variable
abbrev pub IsPart : List ℕ → ℕ → Type 0
IsPart word n = (f : ValueFunctionTree) × (least : ℕ) × (most : Option ℕ) × (function_of word ≡ Some (of_values f least most)) × (is_part f ≡ true) × (takes least most (suc n) ≡ true)

-- ---- `@` and its operand with nothing more

abbrev pub bare_reference : ReferenceTree → Option PrimaryTree
bare_reference (local name subscripts) = None
bare_reference (global name subscripts) = None
bare_reference (naked subscripts) = None
bare_reference (indirect p no_exprs) = Some p
bare_reference (indirect p (exprs e rest)) = None
bare_reference (extended e name subscripts) = None

abbrev pub bare_primary : PrimaryTree → Option PrimaryTree
bare_primary (number literal) = None
bare_primary (text t) = None
bare_primary (special word) = None
bare_primary (reference r) = bare_reference r
bare_primary (bracket e) = None
bare_primary (call word args) = None
bare_primary (select word parts) = None
bare_primary (refer word r more) = None
bare_primary (extrinsic e xs) = None

abbrev pub bare_operand : OperandTree → Option PrimaryTree
bare_operand (operand [] p) = bare_primary p
bare_operand (operand (s ∷ signs) p) = None

abbrev pub bare_expr : ExprTree → Option PrimaryTree
bare_expr (expr first no_tails) = bare_operand first
bare_expr (expr first (tail s rest)) = None

abbrev pub bare_destination : DestinationTree → Option PrimaryTree
bare_destination (one (variable r)) = bare_reference r
bare_destination (one (part word r more)) = None
bare_destination (several ts) = None

-- subscripts after an `@` belong to the innermost one before them that has none yet
abbrev pub IsAttached : PrimaryTree → ExprsTree → Type 0
IsAttached p no_exprs = Unit {0}
IsAttached p (exprs e rest) = bare_primary p ≡ None

-- ---- expressions

abbrev pub WellRoutine : RoutineTree → Type 0
WellRoutine (own_routine name) = IsName name
WellRoutine (shared_routine account name) = AllAre is_character account × IsName name

abbrev pub WellEntry : EntryTree → Type 0
WellEntry (at_label label) = IsName label
WellEntry (at_label_in label routine) = IsName label × WellRoutine routine
WellEntry (at_routine routine) = WellRoutine routine

-- if this many more brackets may be open, counting `( )`, `| |` and operands of `@` together
abbrev mutual
  pub WellExpr : ℕ → ExprTree → Type 0
  WellExpr d (expr first rest) = WellOperand d first × WellTails d rest

  pub WellTails : ℕ → TailsTree → Type 0
  WellTails d no_tails = Unit {0}
  WellTails d (tail s rest) = WellTail d s × WellTails d rest

  pub WellTail : ℕ → TailTree → Type 0
  WellTail d (apply b o) = WellOperand d o
  WellTail d (matches atoms) = WellList (WellAtom d) atoms
  WellTail d (matches_not atoms) = WellList (WellAtom d) atoms
  WellTail d (raise o) = WellOperand d o
  WellTail d (matches_indirect p) = (0 < d) × WellPrimary (d - 1) p
  WellTail d (matches_not_indirect p) = (0 < d) × WellPrimary (d - 1) p

  pub WellOperand : ℕ → OperandTree → Type 0
  WellOperand d (operand signs p) = WellPrimary d p

  pub WellPrimary : ℕ → PrimaryTree → Type 0
  WellPrimary d (number literal) = SpellsNumber literal
  WellPrimary d (text t) = AllAre is_character t
  WellPrimary d (special word) = AllAre is_letter word × IsSpecial word
  WellPrimary d (reference r) = WellReference d r
  WellPrimary d (bracket e) = (0 < d) × WellExpr (d - 1) e
  WellPrimary d (call word args) = (0 < d) × AllAre is_letter word × IsCall word (exprs_count args) × WellExprs (d - 1) args
  WellPrimary d (select word choices) = (0 < d) × IsSelect word × HasChoice choices × WellChoices (d - 1) choices
  WellPrimary d (refer word r more) = (0 < d) × AllAre is_letter word × IsReferring word (exprs_count more) × WellReference (d - 1) r × WellExprs (d - 1) more
  WellPrimary d (extrinsic e xs) = WellEntry e × WellActuals d xs

  pub WellReference : ℕ → ReferenceTree → Type 0
  WellReference d (local name subscripts) = IsName name × WellSubscripts d subscripts
  WellReference d (global name subscripts) = IsName name × WellSubscripts d subscripts
  WellReference d (naked subscripts) = HasExpr subscripts × WellSubscripts d subscripts
  WellReference d (indirect p subscripts) = (0 < d) × WellPrimary (d - 1) p × IsAttached p subscripts × WellSubscripts d subscripts
  WellReference d (extended e name subscripts) = (0 < d) × WellExpr (d - 1) e × IsName name × WellSubscripts d subscripts

  pub WellSubscripts : ℕ → ExprsTree → Type 0
  WellSubscripts d no_exprs = Unit {0}
  WellSubscripts d (exprs e rest) = (0 < d) × WellExpr (d - 1) e × WellExprs (d - 1) rest

  pub WellExprs : ℕ → ExprsTree → Type 0
  WellExprs d no_exprs = Unit {0}
  WellExprs d (exprs e rest) = WellExpr d e × WellExprs d rest

  pub WellChoices : ℕ → ChoicesTree → Type 0
  WellChoices d no_choices = Unit {0}
  WellChoices d (choice c v rest) = WellExpr d c × WellExpr d v × WellChoices d rest

  pub WellActual : ℕ → ActualTree → Type 0
  WellActual d missing_actual = Unit {0}
  WellActual d (value_actual e) = WellExpr d e
  WellActual d (name_actual name) = IsName name
  WellActual d (indirect_actual p) = (0 < d) × WellPrimary (d - 1) p

  -- in brackets, if there are some
  pub WellActuals : ℕ → ActualsTree → Type 0
  WellActuals d no_actuals = Unit {0}
  WellActuals d (actuals a rest) = (0 < d) × WellActual (d - 1) a × WellMoreActuals (d - 1) rest

  pub WellMoreActuals : ℕ → ActualsTree → Type 0
  WellMoreActuals d no_actuals = Unit {0}
  WellMoreActuals d (actuals a rest) = WellActual d a × WellMoreActuals d rest

-- if there is one
abbrev pub WellOptional : ℕ → Option ExprTree → Type 0
WellOptional d None = Unit {0}
WellOptional d (Some e) = WellExpr d e

abbrev pub WellTarget : ℕ → TargetTree → Type 0
WellTarget d (variable r) = WellReference d r
WellTarget d (part word r more) = AllAre is_letter word × IsPart word (exprs_count more) × WellReference (d - 1) r × WellExprs (d - 1) more

abbrev pub WellDestination : DestinationTree → Type 0
WellDestination (one t) = WellTarget max_depth t
WellDestination (several ts) = WellList (WellTarget (max_depth - 1)) ts

abbrev pub WellParameter : ParameterTree → Type 0
WellParameter (once e) = WellExpr max_depth e
WellParameter (onward e by) = WellExpr max_depth e × WellExpr max_depth by
WellParameter (until e by to) = WellExpr max_depth e × WellExpr max_depth by × WellExpr max_depth to

abbrev pub WellCalled : ℕ → EntryTree × ActualsTree → Type 0
WellCalled d x = WellEntry x.0 × WellActuals d x.1

-- what LOCK names is no naked reference
abbrev pub is_named : ReferenceTree → Bool
is_named (local name subscripts) = true
is_named (global name subscripts) = true
is_named (naked subscripts) = false
is_named (indirect p subscripts) = true
is_named (extended e name subscripts) = true

abbrev pub WellLockRef : ℕ → ReferenceTree → Type 0
WellLockRef d r = WellReference d r × (is_named r ≡ true)

abbrev pub WellLocked : LockedTree → Type 0
WellLocked (lock_one r) = WellLockRef max_depth r
WellLocked (lock_several rs) = WellList (WellLockRef (max_depth - 1)) rs

-- an argument of this form as it is written; any other is none
abbrev pub WellPlain : FormTree → ArgTree → Type 0
WellPlain set_argument (assign d e) = WellDestination d × WellExpr max_depth e
WellPlain kill_argument (kill_one r) = WellReference max_depth r
WellPlain kill_argument (kill_others names) = WellList IsName names
WellPlain new_argument (new_one name) = IsName name
WellPlain new_argument (new_others names) = WellList IsName names
WellPlain if_argument (tested e) = WellExpr max_depth e
WellPlain for_argument (loop index parameters) = IsName index × WellList WellParameter parameters
WellPlain write_argument (formats run None) = (0 < length run) × AllAre is_format run
WellPlain write_argument (formats run (Some e)) = AllAre is_format run × WellExpr max_depth e
WellPlain write_argument (coded e) = WellExpr max_depth e
WellPlain write_argument (shown e) = WellExpr max_depth e
WellPlain do_argument (do_one entry xs c) = WellCalled max_depth (entry, xs) × WellOptional max_depth c
WellPlain goto_argument (go_to entry c) = WellEntry entry × WellOptional max_depth c
WellPlain xecute_argument (executed e c) = WellExpr max_depth e × WellOptional max_depth c
WellPlain lock_argument (locked k names t) = WellLocked names × WellOptional max_depth t
WellPlain hang_argument (hang_for e) = WellExpr max_depth e
WellPlain quit_argument (returned e) = WellExpr max_depth e
WellPlain merge_argument (merge_one target source) = WellReference max_depth target × WellReference max_depth source
WellPlain f a = ⊥

-- the operand, if an argument is an `@` with it and nothing more
abbrev pub bare_arg : ArgTree → Option PrimaryTree
bare_arg (assign d e) = None
bare_arg (formats run tab) = None
bare_arg (coded e) = None
bare_arg (shown e) = bare_expr e
bare_arg (kill_one r) = bare_reference r
bare_arg (kill_others names) = None
bare_arg (new_one name) = None
bare_arg (new_others names) = None
bare_arg (tested e) = bare_expr e
bare_arg (loop index parameters) = None
bare_arg (do_one entry xs c) = None
bare_arg (go_to entry c) = None
bare_arg (executed e None) = bare_expr e
bare_arg (executed e (Some c)) = None
bare_arg (locked anew (lock_one r) None) = bare_reference r
bare_arg (locked anew (lock_one r) (Some t)) = None
bare_arg (locked anew (lock_several rs) t) = None
bare_arg (locked adding names t) = None
bare_arg (locked giving_back names t) = None
bare_arg (hang_for e) = bare_expr e
bare_arg (returned e) = None
bare_arg (merge_one target source) = None
bare_arg (indirect_args f p) = None

-- an argument of this form, unless it is an `@` with this operand and nothing more
abbrev pub settled : FormTree → ArgTree → Option PrimaryTree → ArgTree
settled f a None = a
settled f a (Some p) = indirect_args f p

-- an operand of an `@`
abbrev pub WellBelow : ℕ → PrimaryTree → Type 0
WellBelow d p = (0 < d) × WellPrimary (d - 1) p

-- An argument of this form. One that is an `@` with its operand and nothing more is argument indirection, never a variable or an
-- expression.
abbrev pub WellArg : FormTree → ArgTree → Type 0
WellArg f (indirect_args g p) = (g ≡ f) × (may_be_indirect f ≡ true) × WellBelow max_depth p
WellArg f a = WellPlain f a × (bare_arg a ≡ None)

abbrev pub WellCondition : KeywordTree → Option ExprTree → Type 0
WellCondition k None = Unit {0}
WellCondition k (Some e) = (takes_condition k ≡ true) × WellExpr max_depth e

abbrev pub WellCommand : CommandTree → Type 0
WellCommand c =
    (keyword_of c.word ≡ Some c.keyword) × AllAre is_letter c.word × (takes_args c.keyword (length c.args) ≡ true)
    × WellCondition c.keyword c.condition × WellAll (WellArg (form_of c.keyword)) c.args

-- how many spaces there are at least between a command with these arguments and another one: after a command without arguments
-- one space would look like the one before the first argument
abbrev pub least_gap : List ArgTree → ℕ
least_gap [] = 2
least_gap (a ∷ rest) = 1

abbrev pub WellCommands : List SpacedTree → Type 0
WellCommands [] = Unit {0}
WellCommands (c ∷ []) = WellCommand c.0
WellCommands (c ∷ d ∷ cs) = WellCommand c.0 × (least_gap c.0.args ≤ c.1) × WellCommands (d ∷ cs)

abbrev pub WellComment : Option (List ℕ) → Type 0
WellComment None = Unit {0}
WellComment (Some t) = AllAre is_character t

abbrev pub well : LineTree → Type 0
well l = WellCommands l.commands × WellComment l.comment
