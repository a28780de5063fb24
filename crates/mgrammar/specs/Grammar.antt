-- SPDX-License-Identifier: Apache-2.0
-- The grammar: a line of M as a plain tree, and the text of a tree.
--
-- Restates productions of ISO/IEC 11756:1999, each named at its rule by its name in the standard's metalanguage. Nothing
-- is read here: a text has a tree if a tree that is `well` (WellFormed) spells it. A tree keeps what the text says besides the meaning:
-- words as they are written, digits, spaces.
use Rattle.std.specs.Prelude.{ℕ, Bool, true, false, ◌||◌, ◌==◌, nat_le, if◌then◌else◌, List, [], ◌∷◌, ◌++◌, replicate, codes, Option, Some, None}
use Rattle.std.specs.List.{list_any}
use Rattle.std.specs.Str.{str_eq_ignore_ascii_case}
use Rattle.mspec.specs.Names.{upper_case}

-- ---- trees

-- `unaryop`
pub data SignTree : Type 0 where
  plus : SignTree
  minus : SignTree
  negate : SignTree

-- `truthop`: `relation` and `logicalop`
pub data TruthTree : Type 0 where
  equals : TruthTree
  less : TruthTree
  greater : TruthTree
  contains : TruthTree
  follows : TruthTree
  sorts_after : TruthTree
  both : TruthTree
  either : TruthTree

-- `binaryop`, except `**`; and a `truthop`, alone or after a `'`
pub data BinaryTree : Type 0 where
  add : BinaryTree
  subtract : BinaryTree
  multiply : BinaryTree
  divide : BinaryTree
  divide_whole : BinaryTree
  remainder : BinaryTree
  join : BinaryTree
  is : TruthTree → BinaryTree
  is_not : TruthTree → BinaryTree

-- `repcount`: the digits in front, and a point with the digits after it
pub record CountTree : Type 0 where
  pub front : List ℕ
  pub behind : Option (List ℕ)

-- a run of `patcode`, as its letters are written; `strlit`; or an `alternation`, patterns in brackets, each a run of atoms
mutual
  pub data RepeatedTree : Type 0 where
    classes : List ℕ → RepeatedTree
    copies : List ℕ → RepeatedTree
    group : PatternsTree → RepeatedTree

  pub data AtomsTree : Type 0 where
    no_atoms : AtomsTree
    more_atoms : CountTree → RepeatedTree → AtomsTree → AtomsTree

  pub data PatternsTree : Type 0 where
    no_patterns : PatternsTree
    more_patterns : AtomsTree → PatternsTree → PatternsTree

-- `patatom`
pub record AtomTree : Type 0 where
  pub count : CountTree
  pub repeated : RepeatedTree

-- the atoms of a list, and the patterns
abbrev pub atoms_of : List AtomTree → AtomsTree
atoms_of [] = no_atoms
atoms_of (a ∷ rest) = more_atoms a.count a.repeated (atoms_of rest)

abbrev pub patterns_of : List (List AtomTree) → PatternsTree
patterns_of [] = no_patterns
patterns_of (p ∷ rest) = more_patterns (atoms_of p) (patterns_of rest)

-- `routineref`: a routine of the account's own, or, with an `environment`, which is a `strlit`, one of another account
pub data RoutineTree : Type 0 where
  own_routine : List ℕ → RoutineTree
  shared_routine : (account name : List ℕ) → RoutineTree

-- `entryref`: a `label`, one in a routine, or a routine's first line
pub data EntryTree : Type 0 where
  at_label : List ℕ → EntryTree
  at_label_in : (label : List ℕ) (routine : RoutineTree) → EntryTree
  at_routine : RoutineTree → EntryTree

-- `expr`; `exprtail`, of which a list of steps is a run, those of `**` apart, which take steps of a line, with a `pattern` as it is written or, in pattern indirection, the operand of
-- an `@`; `expratom` with its unary
-- operators in front; `numlit` and `strlit`, each with its characters; `svn`, with its word as it is written; `glvn`; `function`, with
-- its word, those of a variable and $SELECT apart; `exfunc`, an entry with its actuals
mutual
  pub data ExprTree : Type 0 where
    expr : OperandTree → TailsTree → ExprTree

  pub data TailsTree : Type 0 where
    no_tails : TailsTree
    tail : TailTree → TailsTree → TailsTree

  pub data TailTree : Type 0 where
    apply : BinaryTree → OperandTree → TailTree
    matches : List AtomTree → TailTree
    matches_not : List AtomTree → TailTree
    raise : OperandTree → TailTree
    matches_indirect : PrimaryTree → TailTree
    matches_not_indirect : PrimaryTree → TailTree

  pub data OperandTree : Type 0 where
    operand : List SignTree → PrimaryTree → OperandTree

  pub data PrimaryTree : Type 0 where
    number : List ℕ → PrimaryTree
    text : List ℕ → PrimaryTree
    special : List ℕ → PrimaryTree
    reference : ReferenceTree → PrimaryTree
    bracket : ExprTree → PrimaryTree
    call : List ℕ → ExprsTree → PrimaryTree
    select : List ℕ → ChoicesTree → PrimaryTree
    refer : List ℕ → ReferenceTree → ExprsTree → PrimaryTree
    extrinsic : EntryTree → ActualsTree → PrimaryTree

  -- `glvn`: `lvn`, a name, and its subscripts, of which there may be none; `gvn`, such a name and subscripts after a `^`, and
  -- with an `environment` in front of them; and the subscripts of a naked reference, which come after the `^` alone. Name
  -- indirection: the `expratom` after an `@`, its operand, and the subscripts after a further `@` (`lnamind`, `gnamind`), of which
  -- there may be none
  pub data ReferenceTree : Type 0 where
    local : List ℕ → ExprsTree → ReferenceTree
    global : List ℕ → ExprsTree → ReferenceTree
    naked : ExprsTree → ReferenceTree
    indirect : PrimaryTree → ExprsTree → ReferenceTree
    extended : ExprTree → List ℕ → ExprsTree → ReferenceTree

  pub data ExprsTree : Type 0 where
    no_exprs : ExprsTree
    exprs : ExprTree → ExprsTree → ExprsTree

  -- conditions, each with its value
  pub data ChoicesTree : Type 0 where
    no_choices : ChoicesTree
    choice : ExprTree → ExprTree → ChoicesTree → ChoicesTree

  -- `actual`: nothing; an expression; by reference, an `actualname`, or the operand of an `@` whose value is one
  pub data ActualTree : Type 0 where
    missing_actual : ActualTree
    value_actual : ExprTree → ActualTree
    name_actual : List ℕ → ActualTree
    indirect_actual : PrimaryTree → ActualTree

  -- `actuallist`, of one actual or more; or none
  pub data ActualsTree : Type 0 where
    no_actuals : ActualsTree
    actuals : ActualTree → ActualsTree → ActualsTree

abbrev pub tails_of : List TailTree → TailsTree
tails_of [] = no_tails
tails_of (s ∷ ss) = tail s (tails_of ss)

abbrev pub exprs_of : List ExprTree → ExprsTree
exprs_of [] = no_exprs
exprs_of (e ∷ es) = exprs e (exprs_of es)

abbrev pub choices_of : List (ExprTree × ExprTree) → ChoicesTree
choices_of [] = no_choices
choices_of (c ∷ cs) = choice c.0 c.1 (choices_of cs)

abbrev pub actuals_of : List ActualTree → ActualsTree
actuals_of [] = no_actuals
actuals_of (a ∷ rest) = actuals a (actuals_of rest)

-- `setleft`: a variable; or `setpiece` or `setextract` with its word, its variable, and the values after that
pub data TargetTree : Type 0 where
  variable : ReferenceTree → TargetTree
  part : List ℕ → ReferenceTree → ExprsTree → TargetTree

-- `setdestination`: one, or a list in brackets
pub data DestinationTree : Type 0 where
  one : TargetTree → DestinationTree
  several : List TargetTree → DestinationTree

-- `forparameter`: a value; a start and an increment; and a limit too
pub data ParameterTree : Type 0 where
  once : ExprTree → ParameterTree
  onward : ExprTree → ExprTree → ParameterTree
  until : ExprTree → ExprTree → ExprTree → ParameterTree

-- how a `lockargument` begins: without a sign, with a `+` or with a `-`
pub data LockKindTree : Type 0 where
  anew : LockKindTree
  adding : LockKindTree
  giving_back : LockKindTree

-- the `nref` of a `lockargument`: one, or a list in brackets
pub data LockedTree : Type 0 where
  lock_one : ReferenceTree → LockedTree
  lock_several : List ReferenceTree → LockedTree

-- what a command's arguments look like; no text has the form `no_argument`, that of commands that take none
pub data FormTree : Type 0 where
  set_argument : FormTree
  kill_argument : FormTree
  new_argument : FormTree
  if_argument : FormTree
  for_argument : FormTree
  write_argument : FormTree
  do_argument : FormTree
  goto_argument : FormTree
  xecute_argument : FormTree
  lock_argument : FormTree
  hang_argument : FormTree
  quit_argument : FormTree
  merge_argument : FormTree
  no_argument : FormTree

-- an argument of any command: `setargument`, a destination and a value; `writeargument`, formats, a character by its code, or a value;
-- `killargument`, a variable, or the names that are spared; `newargument`, a name, or the names that are spared; the condition
-- of `ifargument`; what comes after FOR, the name of an index and its parameters; and with a `postcond` of its own or none,
-- `doargument`, of which actuals are a part, `gotoargument` and `xargument`; `lockargument`, with its `timeout` or none; the number of
-- `hangargument`; the value of `quitargument`; the variables of `mergeargument`, the target first. Argument indirection: arguments of this
-- form that a text gives, the value of the `expratom` after an `@`
pub data ArgTree : Type 0 where
  assign : DestinationTree → ExprTree → ArgTree
  formats : List ℕ → Option ExprTree → ArgTree
  coded : ExprTree → ArgTree
  shown : ExprTree → ArgTree
  kill_one : ReferenceTree → ArgTree
  kill_others : List (List ℕ) → ArgTree
  new_one : List ℕ → ArgTree
  new_others : List (List ℕ) → ArgTree
  tested : ExprTree → ArgTree
  loop : List ℕ → List ParameterTree → ArgTree
  do_one : EntryTree → ActualsTree → Option ExprTree → ArgTree
  go_to : EntryTree → Option ExprTree → ArgTree
  executed : ExprTree → Option ExprTree → ArgTree
  locked : LockKindTree → LockedTree → Option ExprTree → ArgTree
  hang_for : ExprTree → ArgTree
  returned : ExprTree → ArgTree
  merge_one : (target source : ReferenceTree) → ArgTree
  indirect_args : FormTree → PrimaryTree → ArgTree

-- `commandword`, whatever its spelling; the letter of HALT and HANG, which its arguments tell apart, is a word of its own
pub data KeywordTree : Type 0 where
  set_word : KeywordTree
  kill_word : KeywordTree
  new_word : KeywordTree
  if_word : KeywordTree
  else_word : KeywordTree
  for_word : KeywordTree
  quit_word : KeywordTree
  write_word : KeywordTree
  do_word : KeywordTree
  goto_word : KeywordTree
  execute_word : KeywordTree
  lock_word : KeywordTree
  merge_word : KeywordTree
  halt_word : KeywordTree
  hang_word : KeywordTree
  halt_or_hang_word : KeywordTree

-- `command`: its word, also as it is written, its `postcond` if it has one, then its arguments
pub record CommandTree : Type 0 where
  pub keyword : KeywordTree
  pub word : List ℕ
  pub condition : Option ExprTree
  pub args : List ArgTree

-- a command, and how many spaces follow it
abbrev pub SpacedTree : Type 0
SpacedTree = CommandTree × ℕ

-- `linebody`: the spaces in front, the commands, and the text of a `comment`
pub record LineTree : Type 0 where
  pub lead : ℕ
  pub commands : List SpacedTree
  pub comment : Option (List ℕ)

-- ---- the text of a tree; 32 is a space, 33 `!`, 34 a quote, 36 `$`, 39 `'`, 40 and 41 brackets, 42 `*`, 44 a comma, 46 a point,
-- 58 a colon, 59 `;`, 61 `=`, 63 `?`, 64 `@`, 94 `^`, 124 `|`

abbrev pub sign_char : SignTree → ℕ
sign_char plus = 43
sign_char minus = 45
sign_char negate = 39

abbrev pub spell_truth : TruthTree → List ℕ
spell_truth equals = 61 ∷ []
spell_truth less = 60 ∷ []
spell_truth greater = 62 ∷ []
spell_truth contains = 91 ∷ []
spell_truth follows = 93 ∷ []
spell_truth sorts_after = 93 ∷ 93 ∷ []
spell_truth both = 38 ∷ []
spell_truth either = 33 ∷ []

abbrev pub spell_binary : BinaryTree → List ℕ
spell_binary add = 43 ∷ []
spell_binary subtract = 45 ∷ []
spell_binary multiply = 42 ∷ []
spell_binary divide = 47 ∷ []
spell_binary divide_whole = 92 ∷ []
spell_binary remainder = 35 ∷ []
spell_binary join = 95 ∷ []
spell_binary (is t) = spell_truth t
spell_binary (is_not t) = 39 ∷ spell_truth t

abbrev pub spell_signs : List SignTree → List ℕ
spell_signs [] = []
spell_signs (s ∷ ss) = sign_char s ∷ spell_signs ss

-- a quote within a string is written twice
abbrev pub quoted : List ℕ → List ℕ
quoted [] = []
quoted (c ∷ cs) = if c == 34 then 34 ∷ 34 ∷ quoted cs else c ∷ quoted cs

abbrev pub spell_string : List ℕ → List ℕ
spell_string t = 34 ∷ (quoted t ++ 34 ∷ [])

abbrev pub spell_behind : Option (List ℕ) → List ℕ
spell_behind None = []
spell_behind (Some digits) = 46 ∷ digits

-- a count, and what comes after it
abbrev pub spell_counted : CountTree → List ℕ → List ℕ
spell_counted n t = n.front ++ (spell_behind n.behind ++ t)

abbrev mutual
  pub spell_repeated : RepeatedTree → List ℕ
  spell_repeated (classes letters) = letters
  spell_repeated (copies t) = spell_string t
  spell_repeated (group ps) = 40 ∷ (spell_patterns ps ++ 41 ∷ [])

  pub spell_run : AtomsTree → List ℕ
  spell_run no_atoms = []
  spell_run (more_atoms n p rest) = spell_counted n (spell_repeated p) ++ spell_run rest

  -- with commas between
  pub spell_patterns : PatternsTree → List ℕ
  spell_patterns no_patterns = []
  spell_patterns (more_patterns p rest) = spell_run p ++ spell_more_patterns rest

  -- with a comma before each
  pub spell_more_patterns : PatternsTree → List ℕ
  spell_more_patterns no_patterns = []
  spell_more_patterns (more_patterns p rest) = 44 ∷ (spell_run p ++ spell_more_patterns rest)

abbrev pub spell_atom : AtomTree → List ℕ
spell_atom a = spell_counted a.count (spell_repeated a.repeated)

abbrev pub spell_atoms : List AtomTree → List ℕ
spell_atoms [] = []
spell_atoms (a ∷ rest) = spell_atom a ++ spell_atoms rest

-- after a `^`
abbrev pub spell_routine : RoutineTree → List ℕ
spell_routine (own_routine name) = name
spell_routine (shared_routine account name) = 124 ∷ (spell_string account ++ 124 ∷ name)

abbrev pub spell_entry : EntryTree → List ℕ
spell_entry (at_label label) = label
spell_entry (at_label_in label routine) = label ++ 94 ∷ spell_routine routine
spell_entry (at_routine routine) = 94 ∷ spell_routine routine

abbrev mutual
  pub spell_expr : ExprTree → List ℕ
  spell_expr (expr first rest) = spell_operand first ++ spell_tails rest

  pub spell_tails : TailsTree → List ℕ
  spell_tails no_tails = []
  spell_tails (tail s rest) = spell_tail s ++ spell_tails rest

  pub spell_tail : TailTree → List ℕ
  spell_tail (apply b o) = spell_binary b ++ spell_operand o
  spell_tail (matches atoms) = 63 ∷ spell_atoms atoms
  spell_tail (matches_not atoms) = 39 ∷ 63 ∷ spell_atoms atoms
  spell_tail (raise o) = 42 ∷ 42 ∷ spell_operand o
  spell_tail (matches_indirect p) = 63 ∷ 64 ∷ spell_primary p
  spell_tail (matches_not_indirect p) = 39 ∷ 63 ∷ 64 ∷ spell_primary p

  pub spell_operand : OperandTree → List ℕ
  spell_operand (operand signs p) = spell_signs signs ++ spell_primary p

  pub spell_primary : PrimaryTree → List ℕ
  spell_primary (number literal) = literal
  spell_primary (text t) = spell_string t
  spell_primary (special word) = 36 ∷ word
  spell_primary (reference r) = spell_reference r
  spell_primary (bracket e) = 40 ∷ (spell_expr e ++ 41 ∷ [])
  spell_primary (call word args) = 36 ∷ (word ++ 40 ∷ (spell_exprs args ++ 41 ∷ []))
  spell_primary (select word choices) = 36 ∷ (word ++ 40 ∷ (spell_choices choices ++ 41 ∷ []))
  spell_primary (refer word r more) = 36 ∷ (word ++ 40 ∷ (spell_reference r ++ (spell_more_exprs more ++ 41 ∷ [])))
  spell_primary (extrinsic e xs) = 36 ∷ 36 ∷ (spell_entry e ++ spell_actuals xs)

  pub spell_reference : ReferenceTree → List ℕ
  spell_reference (local name subscripts) = name ++ spell_subscripts subscripts
  spell_reference (global name subscripts) = 94 ∷ (name ++ spell_subscripts subscripts)
  spell_reference (naked subscripts) = 94 ∷ spell_subscripts subscripts
  spell_reference (indirect p subscripts) = 64 ∷ (spell_primary p ++ spell_attached subscripts)
  spell_reference (extended e name subscripts) = 94 ∷ 124 ∷ (spell_expr e ++ 124 ∷ (name ++ spell_subscripts subscripts))

  -- in brackets, if there are some
  pub spell_subscripts : ExprsTree → List ℕ
  spell_subscripts no_exprs = []
  spell_subscripts (exprs e rest) = 40 ∷ (spell_expr e ++ (spell_more_exprs rest ++ 41 ∷ []))

  -- after an `@`, if there are some
  pub spell_attached : ExprsTree → List ℕ
  spell_attached no_exprs = []
  spell_attached (exprs e rest) = 64 ∷ 40 ∷ (spell_expr e ++ (spell_more_exprs rest ++ 41 ∷ []))

  -- with commas between
  pub spell_exprs : ExprsTree → List ℕ
  spell_exprs no_exprs = []
  spell_exprs (exprs e rest) = spell_expr e ++ spell_more_exprs rest

  -- with a comma before each
  pub spell_more_exprs : ExprsTree → List ℕ
  spell_more_exprs no_exprs = []
  spell_more_exprs (exprs e rest) = 44 ∷ (spell_expr e ++ spell_more_exprs rest)

  pub spell_choices : ChoicesTree → List ℕ
  spell_choices no_choices = []
  spell_choices (choice c v rest) = spell_expr c ++ 58 ∷ (spell_expr v ++ spell_more_choices rest)

  pub spell_more_choices : ChoicesTree → List ℕ
  spell_more_choices no_choices = []
  spell_more_choices (choice c v rest) = 44 ∷ (spell_expr c ++ 58 ∷ (spell_expr v ++ spell_more_choices rest))

  pub spell_actual : ActualTree → List ℕ
  spell_actual missing_actual = []
  spell_actual (value_actual e) = spell_expr e
  spell_actual (name_actual name) = 46 ∷ name
  spell_actual (indirect_actual p) = 46 ∷ 64 ∷ spell_primary p

  -- in brackets, if there are some
  pub spell_actuals : ActualsTree → List ℕ
  spell_actuals no_actuals = []
  spell_actuals (actuals a rest) = 40 ∷ (spell_actual a ++ (spell_more_actuals rest ++ 41 ∷ []))

  -- with a comma before each
  pub spell_more_actuals : ActualsTree → List ℕ
  spell_more_actuals no_actuals = []
  spell_more_actuals (actuals a rest) = 44 ∷ (spell_actual a ++ spell_more_actuals rest)

-- an entry with its actuals
abbrev pub spell_called : EntryTree × ActualsTree → List ℕ
spell_called x = spell_entry x.0 ++ spell_actuals x.1

-- with a comma before each
abbrev pub spell_more : {A : Type 0} → (A → List ℕ) → List A → List ℕ
spell_more spell [] = []
spell_more spell (a ∷ rest) = 44 ∷ (spell a ++ spell_more spell rest)

-- with commas between
abbrev pub spell_list : {A : Type 0} → (A → List ℕ) → List A → List ℕ
spell_list spell [] = []
spell_list spell (a ∷ rest) = spell a ++ spell_more spell rest

abbrev pub spell_target : TargetTree → List ℕ
spell_target (variable r) = spell_reference r
spell_target (part word r more) = 36 ∷ (word ++ 40 ∷ (spell_reference r ++ (spell_more_exprs more ++ 41 ∷ [])))

abbrev pub spell_destination : DestinationTree → List ℕ
spell_destination (one t) = spell_target t
spell_destination (several ts) = 40 ∷ (spell_list spell_target ts ++ 41 ∷ [])

-- in brackets
abbrev pub spell_names : List (List ℕ) → List ℕ
spell_names names = 40 ∷ (spell_list (λ n. n) names ++ 41 ∷ [])

abbrev pub spell_parameter : ParameterTree → List ℕ
spell_parameter (once e) = spell_expr e
spell_parameter (onward e by) = spell_expr e ++ 58 ∷ spell_expr by
spell_parameter (until e by to) = spell_expr e ++ 58 ∷ (spell_expr by ++ 58 ∷ spell_expr to)

-- after a colon, if there is one
abbrev pub spell_condition : Option ExprTree → List ℕ
spell_condition None = []
spell_condition (Some e) = 58 ∷ spell_expr e

abbrev pub spell_kind : LockKindTree → List ℕ
spell_kind anew = []
spell_kind adding = 43 ∷ []
spell_kind giving_back = 45 ∷ []

abbrev pub spell_locked : LockedTree → List ℕ
spell_locked (lock_one r) = spell_reference r
spell_locked (lock_several rs) = 40 ∷ (spell_list spell_reference rs ++ 41 ∷ [])

-- after a `?`, if there is one
abbrev pub spell_tab : Option ExprTree → List ℕ
spell_tab None = []
spell_tab (Some e) = 63 ∷ spell_expr e

abbrev pub spell_arg : ArgTree → List ℕ
spell_arg (assign d e) = spell_destination d ++ 61 ∷ spell_expr e
spell_arg (formats run tab) = run ++ spell_tab tab
spell_arg (coded e) = 42 ∷ spell_expr e
spell_arg (shown e) = spell_expr e
spell_arg (kill_one r) = spell_reference r
spell_arg (kill_others names) = spell_names names
spell_arg (new_one name) = name
spell_arg (new_others names) = spell_names names
spell_arg (tested e) = spell_expr e
spell_arg (loop index parameters) = index ++ 61 ∷ spell_list spell_parameter parameters
spell_arg (do_one entry xs c) = spell_called (entry, xs) ++ spell_condition c
spell_arg (go_to entry c) = spell_entry entry ++ spell_condition c
spell_arg (executed e c) = spell_expr e ++ spell_condition c
spell_arg (locked k names t) = (spell_kind k ++ spell_locked names) ++ spell_condition t
spell_arg (hang_for e) = spell_expr e
spell_arg (returned e) = spell_expr e
spell_arg (merge_one target source) = spell_reference target ++ 61 ∷ spell_reference source
spell_arg (indirect_args f p) = 64 ∷ spell_primary p

-- after a space, if there are some
abbrev pub spell_args : List ArgTree → List ℕ
spell_args [] = []
spell_args (a ∷ rest) = 32 ∷ spell_list spell_arg (a ∷ rest)

abbrev pub spell_command : CommandTree → List ℕ
spell_command c = c.word ++ (spell_condition c.condition ++ spell_args c.args)

abbrev pub spell_commands : List SpacedTree → List ℕ
spell_commands [] = []
spell_commands (c ∷ cs) = spell_command c.0 ++ (replicate c.1 32 ++ spell_commands cs)

abbrev pub spell_comment : Option (List ℕ) → List ℕ
spell_comment None = []
spell_comment (Some t) = 59 ∷ t

abbrev pub spell : LineTree → List ℕ
spell l = replicate l.lead 32 ++ (spell_commands l.commands ++ spell_comment l.comment)

-- ---- words, formats, and the letters of patterns

-- no more than the bound, if there is one
abbrev pub is_at_most : Option ℕ → ℕ → Bool
is_at_most None n = true
is_at_most (Some most) n = nat_le n most

-- the word is this one or that one, in either case of letters
abbrev pub is_either : List ℕ → List ℕ → List ℕ → Bool
is_either short long w = str_eq_ignore_ascii_case w short || str_eq_ignore_ascii_case w long

-- whether arguments of a form may be given by a text
abbrev pub may_be_indirect : FormTree → Bool
may_be_indirect set_argument = true
may_be_indirect kill_argument = true
may_be_indirect new_argument = true
may_be_indirect if_argument = true
may_be_indirect for_argument = false
may_be_indirect write_argument = true
may_be_indirect do_argument = true
may_be_indirect goto_argument = true
may_be_indirect xecute_argument = true
may_be_indirect lock_argument = true
may_be_indirect hang_argument = true
may_be_indirect quit_argument = false
may_be_indirect merge_argument = true
may_be_indirect no_argument = false

-- a format of WRITE: a `!`, or a `#`
abbrev pub is_bang : ℕ → Bool
is_bang c = c == 33

abbrev pub is_format : ℕ → Bool
is_format c = is_bang c || c == 35

-- `patcode`, in either case of letters
abbrev pub is_pattern_letter : ℕ → Bool
is_pattern_letter c = list_any (λ letter. letter == upper_case c) (codes "ACELNPU")
