-- SPDX-License-Identifier: Apache-2.0
-- Expression meaning: the text that an expression gives, or its code.
--
-- Restates "Expressions", "$SELECT", "Extrinsic function", what "Parameter passing" says of actuals, the environment of "Global variable name
-- gvn", which is an account, and what "Indirection" says of names, subscripts and patterns, of ISO/IEC 11756:1999: operators apply from left
-- to right, none before another, and unary operators bind to the operand after them. Both operands of an operator are evaluated, the left
-- one first. A text that stands for an `@` names a variable, and what it has to evaluate is evaluated where it stands.
use Rattle.std.specs.Prelude.{ℕ, zero, suc, ◌+◌, Bool, true, false, nat_lt, ◌&&◌, cond, not, List, [], ◌∷◌, ◌++◌, Option, Some, None}
pub use Rattle.mspec.specs.Limits.{max_levels, max_indirections}
use Rattle.mspec.specs.Number.{significant_digits}
use Rattle.mspec.specs.NumberText.{numeric_value}
use Rattle.mspec.specs.Interpretations.{truth_text}
use Rattle.mspec.specs.Scopes.{Binding, valued, linked_to, unset}
use Rattle.mgrammar.specs.Grammar.{ExprTree, expr, TailsTree, no_tails, tail, TailTree, apply, matches, matches_not, raise, matches_indirect}
use Rattle.mgrammar.specs.Grammar.{matches_not_indirect, OperandTree, operand, PrimaryTree, number, text, special, reference, bracket, call, select, refer}
use Rattle.mgrammar.specs.Grammar.{extrinsic, EntryTree, ActualTree, missing_actual, value_actual, name_actual, indirect_actual, ActualsTree, no_actuals}
use Rattle.mgrammar.specs.Grammar.{actuals, ReferenceTree, local, global, naked, indirect, extended, ExprsTree, no_exprs, exprs, ChoicesTree, no_choices}
use Rattle.mgrammar.specs.Grammar.{choice}
use Rattle.mgrammar.specs.Specials.{special_of}
use Rattle.mgrammar.specs.Functions.{function_of}
use Rattle.mgrammar.specs.IndirectTexts.{name_of, pattern_of}
use Rattle.mgrammar.specs.Languages.{ref_in}
use Rattle.mspec.specs.Code.{M4, Zdepth, Zsteps, Zsyntax}
use Rattle.mspec.specs.Act.{Text, Act, ◌>>=◌, ◌>>◌, give, read_so, fail, give_some, unless, charge}
use Rattle.mmeaning.specs.Operators.{as_text, as_truth, unaries, binary, raising, matching}
use Rattle.mmeaning.specs.Functions.{call_value}
use Rattle.mmeaning.specs.Variables.{Evaluated, of_local, of_global, of_naked, with_more, reading, resolve, read_at, referring}
use Rattle.mmeaning.specs.Variables.{special_value}

-- how deep a text stands: the levels that are open, of which some are indirections under evaluation; and whether a value is wanted of its
-- level, as one is of a function's
pub record Depth : Type 0 where
  pub levels : ℕ
  pub indirections : ℕ
  pub wants_value : Bool

abbrev pub is_indirection_free : Depth → Bool
is_indirection_free d = nat_lt d.levels max_levels && nat_lt d.indirections max_indirections

abbrev pub an_indirection_free : Depth → Act (Unit {0})
an_indirection_free d = unless Zdepth (is_indirection_free d)

-- an indirection is a level while what its text has is evaluated or done
abbrev pub indirected : Depth → Depth
indirected d = record d { levels = d.levels + 1; indirections = d.indirections + 1 }

-- what a function gives, at a given depth, for what an act hands over to it, once the step of its primary is spent
abbrev pub Calls : Type 0
Calls = Depth → EntryTree → Act (List Binding) → Act Text

-- no function is called, as in the text of a name indirection, where only a variable is found
abbrev pub no_calls : Calls
no_calls d e hands = fail Zsyntax

-- a list of actuals that has nothing in its brackets
abbrev pub is_bare : ActualsTree → Bool
is_bare (actuals missing_actual no_actuals) = true
is_bare xs = false

-- where an expression stands: whose line it belongs to, how deep it is, what functions give, and what evaluates, at a given depth, the
-- variable that a text names, which is no part of the tree, once the step of its operand is spent
pub record Inside : Type 0 where
  pub account : Text
  pub depth : Depth
  pub calls : Calls
  pub find : Depth → ReferenceTree → Act Evaluated

-- one indirection deeper, as the subscripts after an indirection are
abbrev pub one_deeper : Inside → Inside
one_deeper i = record i { depth = indirected i.depth }

-- what the variable that a text names has to evaluate; the text is read in the line's language
abbrev pub named_by : Inside → Text → Act Evaluated
named_by i x = do
  an_indirection_free i.depth
  r ← read_so Zsyntax (λ l. ref_in l x)
  i.find (indirected i.depth) r

-- whether a value matches the pattern that a text is, which has nothing to evaluate; it counts as an indirection all the same
abbrev pub matches_text : Inside → Text → Text → Act Bool
matches_text i x t = do
  an_indirection_free i.depth
  atoms ← give_some Zsyntax (pattern_of t)
  matching atoms x

-- the variable that the text of an `@` names, by reference; the text counts as an indirection
abbrev pub linked_by : Inside → Text → Act Binding
linked_by i x = do
  an_indirection_free i.depth
  name ← give_some Zsyntax (name_of x)
  give (linked_to name)

-- A primary costs a step, before it is evaluated: a bracket and a call cost theirs before what is in them.
abbrev mutual
  pub value : Inside → ExprTree → Act Text
  value i (expr first rest) = do
    x ← operand_value i first
    tails_value i x rest

  -- what is left of an expression, applied to the value so far
  pub tails_value : Inside → Text → TailsTree → Act Text
  tails_value i x no_tails = give x
  tails_value i x (tail s rest) = do
    y ← tail_value i x s
    tails_value i y rest

  pub tail_value : Inside → Text → TailTree → Act Text
  tail_value i x (apply b o) = do
    y ← operand_value i o
    binary b x y
  tail_value i x (matches atoms) = do
    b ← matching atoms x
    give (truth_text b)
  tail_value i x (matches_not atoms) = do
    b ← matching atoms x
    give (truth_text (not b))
  tail_value i x (raise o) = do
    y ← operand_value i o
    raising x y
  tail_value i x (matches_indirect p) = do
    t ← primary_value i p
    b ← matches_text i x t
    give (truth_text b)
  tail_value i x (matches_not_indirect p) = do
    t ← primary_value i p
    b ← matches_text i x t
    give (truth_text (not b))

  pub operand_value : Inside → OperandTree → Act Text
  operand_value i (operand signs p) = do
    x ← primary_value i p
    unaries signs x

  pub primary_value : Inside → PrimaryTree → Act Text
  primary_value i (number literal) = charge >> as_text (numeric_value significant_digits literal)
  primary_value i (text t) = charge >> give t
  primary_value i (special word) = charge >> special_value i.depth.wants_value (special_of word)
  primary_value i (reference r) = do
    charge
    v ← evaluated i r
    p ← resolve reading v
    read_at p
  primary_value i (bracket e) = charge >> value i e
  primary_value i (call word args) = do
    charge
    xs ← values i [] args
    call_value word xs
  primary_value i (select word choices) = charge >> chosen i choices
  primary_value i (refer word r more) = charge >> referring i.account (function_of word) (evaluated i r) (values i [] more)
  primary_value i (extrinsic e xs) = charge >> i.calls i.depth e (cond (is_bare xs) (give []) (all_handed i [] xs))

  -- what a reference has to evaluate; it costs nothing by itself
  pub evaluated : Inside → ReferenceTree → Act Evaluated
  evaluated i (local name subscripts) = do
    xs ← values i [] subscripts
    give (of_local name xs)
  evaluated i (global name subscripts) = do
    xs ← values i [] subscripts
    give (of_global (record { account = i.account; name = name; subscripts = xs }))
  evaluated i (naked subscripts) = do
    xs ← values i [] subscripts
    give (of_naked xs)
  evaluated i (indirect p subscripts) = do
    x ← primary_value i p
    v ← named_by i x
    xs ← values (one_deeper i) [] subscripts
    give (with_more xs v)
  evaluated i (extended e name subscripts) = do
    owner ← value i e
    xs ← values i [] subscripts
    give (of_global (record { account = owner; name = name; subscripts = xs }))

  -- the values of some expressions, appended to those before them
  pub values : Inside → List Text → ExprsTree → Act (List Text)
  values i xs no_exprs = give xs
  values i xs (exprs e rest) = do
    x ← value i e
    values i (xs ++ x ∷ []) rest

  -- the value of the first choice whose condition is true; what comes after it is not evaluated
  pub chosen : Inside → ChoicesTree → Act Text
  chosen i no_choices = fail M4
  chosen i (choice c v rest) = do
    x ← value i c
    b ← as_truth x
    cond b (value i v) (chosen i rest)

  -- what an actual hands over; a name costs no step, since nothing is evaluated
  pub handed : Inside → ActualTree → Act Binding
  handed i missing_actual = give unset
  handed i (value_actual e) = do
    x ← value i e
    give (valued x)
  handed i (name_actual name) = give (linked_to name)
  handed i (indirect_actual p) = do
    x ← primary_value i p
    linked_by i x

  -- from left to right, appended to those before them
  pub all_handed : Inside → List Binding → ActualsTree → Act (List Binding)
  all_handed i bs no_actuals = give bs
  all_handed i bs (actuals a rest) = do
    b ← handed i a
    all_handed i (bs ++ b ∷ []) rest

-- one that is missing, alone in its brackets, is none
abbrev pub handed_over : Inside → ActualsTree → Act (List Binding)
handed_over i xs = cond (is_bare xs) (give []) (all_handed i [] xs)

-- if there is one
abbrev pub optional_value : Inside → Option ExprTree → Act (Option Text)
optional_value i None = give None
optional_value i (Some e) = do
  x ← value i e
  give (Some x)

-- what a text names: first its own parts, then the subscripts after it
abbrev pub attached : Inside → ExprsTree → Text → Act Evaluated
attached i subscripts x = do
  v ← named_by i x
  xs ← values (one_deeper i) [] subscripts
  give (with_more xs v)

-- with at most this many texts
unfoldable pub finds : Text → ℕ → Depth → ReferenceTree → Act Evaluated
finds a zero d r = fail Zsteps
finds a (suc n) d r = evaluated (record { account = a; depth = d; calls = no_calls; find = finds a n }) r

-- in a line of this account, in which this many texts that are no part of the tree may be entered, and no function is called
abbrev pub inside : Text → ℕ → Depth → Inside
inside a n d = record { account = a; depth = d; calls = no_calls; find = finds a n }
