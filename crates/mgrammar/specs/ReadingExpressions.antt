-- SPDX-License-Identifier: Apache-2.0
-- How expressions are read: references, calls with their actuals, brackets and what operators tie.
use Rattle.std.specs.Prelude.{ℕ, zero, suc, Bool, false, ◌&&◌, ◌||◌, is_none, ◌==◌, nat_le, if◌then◌else◌, List, [], ◌∷◌, length, Option, Some, None}
use Rattle.mspec.specs.Names.{is_letter}
use Rattle.mgrammar.specs.Grammar.{AtomTree, ExprTree, expr, TailTree, apply, matches, matches_not, raise, matches_indirect, matches_not_indirect, tails_of}
use Rattle.mgrammar.specs.Grammar.{OperandTree, operand, PrimaryTree, number, text, special, reference, bracket, call, select, refer, extrinsic, ReferenceTree}
use Rattle.mgrammar.specs.Grammar.{local, global, naked, indirect, extended, ExprsTree, no_exprs, exprs_of, choices_of, RoutineTree, own_routine}
use Rattle.mgrammar.specs.Grammar.{shared_routine, EntryTree, at_label, at_label_in, at_routine, ActualTree, missing_actual, value_actual, name_actual}
use Rattle.mgrammar.specs.Grammar.{indirect_actual, ActualsTree, no_actuals, actuals_of}
use Rattle.mgrammar.specs.Specials.{SpecialTree, special_of}
use Rattle.mgrammar.specs.Functions.{FunctionTree, of_values, of_variable, of_choices, function_of, takes}
use Rattle.mgrammar.specs.ReadingWords.{Read, ◌>>=◌, run_of, after_run, is_digit_or_point, number_at, name_at, text_from, past, many, after_comma, list_at}
use Rattle.mgrammar.specs.ReadingWords.{pattern_at, signs_of, after_signs, OperatorTree, operator_at, between, matching, matching_not, raising}

-- ---- expressions

-- after a `^|`
unfoldable pub shared_at : List ℕ → Read RoutineTree
shared_at cs =
    past 34 cs >>= λ inside. text_from false inside >>= λ t. past 124 t.1 >>= λ rest. name_at rest >>= λ n. Some (shared_routine t.0 n.0, n.1)

-- after a `^`: a name, with an environment in front of it or none
abbrev pub routine_by : List ℕ → Option (List ℕ) → Read RoutineTree
routine_by cs None = name_at cs >>= λ n. Some (own_routine n.0, n.1)
routine_by cs (Some inside) = shared_at inside

unfoldable pub routine_at : List ℕ → Read RoutineTree
routine_at cs = routine_by cs (past 124 cs)

-- a label, and a routine if a `^` comes after it
abbrev pub label_by : List ℕ → List ℕ → Option (List ℕ) → Read EntryTree
label_by label cs None = Some (at_label label, cs)
label_by label cs (Some rest) = routine_at rest >>= λ r. Some (at_label_in label r.0, r.1)

abbrev pub entry_by : List ℕ → Option (List ℕ) → Read EntryTree
entry_by cs None = name_at cs >>= λ n. label_by n.0 n.1 (past 94 n.1)
entry_by cs (Some rest) = routine_at rest >>= λ r. Some (at_routine r.0, r.1)

unfoldable pub entry_at : List ℕ → Read EntryTree
entry_at cs = entry_by cs (past 94 cs)

-- how to read an expression, a variable and an actual in brackets, the operand of an `@`, and a pattern
pub record Readers : Type 0 where
  pub inner : List ℕ → Read ExprTree
  pub within : List ℕ → Read ReferenceTree
  pub handed : List ℕ → Read ActualTree
  pub below : List ℕ → Read PrimaryTree
  pub pattern : List ℕ → Read (List AtomTree)

-- an actual ends here: at a comma, or at the bracket that closes
abbrev pub is_actual_end : ℕ → Bool
is_actual_end c = c == 44 || c == 41

-- a point that begins no number
abbrev pub is_reference_point : ℕ → List ℕ → Bool
is_reference_point c cs = c == 46 && is_none (number_at (c ∷ cs))

-- the text after an `@`, if a bracket opens there
abbrev pub attached_at : List ℕ → Option (List ℕ)
attached_at cs = past 64 cs >>= λ behind. past 40 behind >>= λ inside. Some behind

module _ (r : Readers) where
  -- subscripts, if a bracket opens
  unfoldable pub subscripts_with : List ℕ → Read ExprsTree
  subscripts_with [] = Some (no_exprs, [])
  subscripts_with (c ∷ cs) =
      if c == 40 then (list_at (r.inner) cs >>= λ x. past 41 x.1 >>= λ rest. Some (exprs_of x.0, rest)) else Some (no_exprs, c ∷ cs)

  -- actuals, if a bracket opens
  unfoldable pub actuals_with : List ℕ → Read ActualsTree
  actuals_with [] = Some (no_actuals, [])
  actuals_with (c ∷ cs) =
      if c == 40 then (list_at (r.handed) cs >>= λ x. past 41 x.1 >>= λ rest. Some (actuals_of x.0, rest)) else Some (no_actuals, c ∷ cs)

  -- an entry with its actuals
  unfoldable pub called_with : List ℕ → Read (EntryTree × ActualsTree)
  called_with cs = entry_at cs >>= λ e. actuals_with e.1 >>= λ x. Some ((e.0, x.0), x.1)

  -- those after an operand, given that this text with a bracket in front comes after an `@`, or none does
  abbrev pub attached_by : List ℕ → Option (List ℕ) → Read ExprsTree
  attached_by cs None = Some (no_exprs, cs)
  attached_by cs (Some behind) = subscripts_with behind

  unfoldable pub attached_with : List ℕ → Read ExprsTree
  attached_with cs = attached_by cs (attached_at cs)

  -- after an `@`
  unfoldable pub indirect_with : List ℕ → Read ReferenceTree
  indirect_with cs = r.below cs >>= λ p. attached_with p.1 >>= λ x. Some (indirect p.0 x.0, x.1)

  -- given that this text comes after an `@`, or none does
  abbrev pub local_by : List ℕ → Option (List ℕ) → Read ReferenceTree
  local_by cs None = name_at cs >>= λ n. subscripts_with n.1 >>= λ x. Some (local n.0 x.0, x.1)
  local_by cs (Some behind) = indirect_with behind

  -- after a `^|`
  unfoldable pub extended_with : List ℕ → Read ReferenceTree
  extended_with cs =
      r.inner cs >>= λ e. past 124 e.1 >>= λ rest. name_at rest >>= λ n. subscripts_with n.1 >>= λ x. Some (extended e.0 n.0 x.0, x.1)

  abbrev pub owned_by : List ℕ → Option (List ℕ) → Read ReferenceTree
  owned_by cs None = name_at cs >>= λ n. subscripts_with n.1 >>= λ x. Some (global n.0 x.0, x.1)
  owned_by cs (Some inside) = extended_with inside

  -- after a `^`: subscripts alone if a bracket opens, and otherwise a name in front of them, with an environment or none
  abbrev pub global_by : List ℕ → Option (List ℕ) → Read ReferenceTree
  global_by cs None = owned_by cs (past 124 cs)
  global_by cs (Some inside) = subscripts_with cs >>= λ x. Some (naked x.0, x.1)

  -- given that this text comes after a `^`, or none does
  abbrev pub reference_by : List ℕ → Option (List ℕ) → Read ReferenceTree
  reference_by cs None = local_by cs (past 64 cs)
  reference_by cs (Some behind) = global_by behind (past 40 behind)

  unfoldable pub reference_with : List ℕ → Read ReferenceTree
  reference_with cs = reference_by cs (past 94 cs)

  unfoldable pub bracket_with : List ℕ → Read PrimaryTree
  bracket_with cs = r.inner cs >>= λ e. past 41 e.1 >>= λ rest. Some (bracket e.0, rest)

  unfoldable pub choice_with : List ℕ → Read (ExprTree × ExprTree)
  choice_with cs = r.inner cs >>= λ c. past 58 c.1 >>= λ rest. r.inner rest >>= λ v. Some ((c.0, v.0), v.1)

  -- of this word, of which the text after its bracket is left
  unfoldable pub select_with : List ℕ → List ℕ → Read PrimaryTree
  select_with w cs = list_at choice_with cs >>= λ x. past 41 x.1 >>= λ rest. Some (select w (choices_of x.0), rest)

  -- at least `least` values, and at most `most`
  unfoldable pub call_with : ℕ → Option ℕ → List ℕ → List ℕ → Read PrimaryTree
  call_with least most w cs =
      list_at (r.inner) cs >>= λ x. past 41 x.1 >>= λ rest.
      if takes least most (length x.0) then Some (call w (exprs_of x.0), rest) else None

  -- a variable, and at most `most` values after it
  unfoldable pub refer_with : ℕ → List ℕ → List ℕ → Read PrimaryTree
  refer_with most w cs =
      r.within cs >>= λ v. many (after_comma (r.inner)) (length v.1) v.1 >>= λ x. past 41 x.1 >>= λ rest.
      if nat_le (length x.0) most then Some (refer w v.0 (exprs_of x.0), rest) else None

  abbrev pub function_by : List ℕ → Option FunctionTree → List ℕ → Read PrimaryTree
  function_by w None cs = None
  function_by w (Some (of_values f least most)) cs = call_with least most w cs
  function_by w (Some (of_variable f most)) cs = refer_with most w cs
  function_by w (Some of_choices) cs = select_with w cs

  abbrev pub special_by : List ℕ → Option SpecialTree → List ℕ → Read PrimaryTree
  special_by w None cs = None
  special_by w (Some v) cs = Some (special w, cs)

  -- of this word, with this text after it: a function if a bracket opens there, and otherwise a special variable
  abbrev pub dollar_by : List ℕ → List ℕ → Option (List ℕ) → Read PrimaryTree
  dollar_by w cs None = special_by w (special_of w) cs
  dollar_by w cs (Some inside) = function_by w (function_of w) inside

  -- given that this text comes after a further `$`, or none does
  abbrev pub dollars_by : List ℕ → Option (List ℕ) → Read PrimaryTree
  dollars_by cs None = dollar_by (run_of is_letter cs) (after_run is_letter cs) (past 40 (after_run is_letter cs))
  dollars_by cs (Some behind) = called_with behind >>= λ x. Some (extrinsic x.0.0 x.0.1, x.1)

  -- after a `$`
  unfoldable pub dollar_with : List ℕ → Read PrimaryTree
  dollar_with cs = dollars_by cs (past 36 cs)

  unfoldable pub primary_with : List ℕ → Read PrimaryTree
  primary_with [] = None
  primary_with (c ∷ cs) =
      if is_digit_or_point c then (number_at (c ∷ cs) >>= λ x. Some (number x.0, x.1))
      else (if c == 34 then (text_from false cs >>= λ x. Some (text x.0, x.1))
      else (if c == 40 then bracket_with cs
      else (if c == 36 then dollar_with cs
      else (reference_with (c ∷ cs) >>= λ v. Some (reference v.0, v.1)))))

  unfoldable pub operand_with : List ℕ → Read OperandTree
  operand_with cs = primary_with (after_signs cs) >>= λ p. Some (operand (signs_of cs) p.0, p.1)

  -- after a `?`, given that this text comes after an `@`, or none does
  abbrev pub matches_by : List ℕ → Option (List ℕ) → Read TailTree
  matches_by cs None = r.pattern cs >>= λ p. Some (matches p.0, p.1)
  matches_by cs (Some behind) = r.below behind >>= λ p. Some (matches_indirect p.0, p.1)

  -- the same after a `'?`
  abbrev pub matches_not_by : List ℕ → Option (List ℕ) → Read TailTree
  matches_not_by cs None = r.pattern cs >>= λ p. Some (matches_not p.0, p.1)
  matches_not_by cs (Some behind) = r.below behind >>= λ p. Some (matches_not_indirect p.0, p.1)

  -- a step, with this operator in front and this text after it
  unfoldable pub tail_by : OperatorTree → List ℕ → Read TailTree
  tail_by (between b) cs = operand_with cs >>= λ o. Some (apply b o.0, o.1)
  tail_by matching cs = matches_by cs (past 64 cs)
  tail_by matching_not cs = matches_not_by cs (past 64 cs)
  tail_by raising cs = operand_with cs >>= λ o. Some (raise o.0, o.1)

  abbrev pub tail_behind : Option (OperatorTree × List ℕ) → Option (Option (TailTree × List ℕ))
  tail_behind None = Some None
  tail_behind (Some o) = tail_by o.0 o.1 >>= λ s. Some (Some s)

  unfoldable pub tail_with : List ℕ → Option (Option (TailTree × List ℕ))
  tail_with cs = tail_behind (operator_at cs)

  unfoldable pub expr_with : List ℕ → Read ExprTree
  expr_with cs = operand_with cs >>= λ o. many tail_with (length o.1) o.1 >>= λ s. Some (expr o.0 (tails_of s.0), s.1)

  -- after a point, given that this text comes after an `@`, or none does
  abbrev pub name_actual_by : List ℕ → Option (List ℕ) → Read ActualTree
  name_actual_by cs None = name_at cs >>= λ n. Some (name_actual n.0, n.1)
  name_actual_by cs (Some behind) = r.below behind >>= λ p. Some (indirect_actual p.0, p.1)

  unfoldable pub actual_with : List ℕ → Read ActualTree
  actual_with [] = None
  actual_with (c ∷ cs) =
      if is_actual_end c then Some (missing_actual, c ∷ cs)
      else (if is_reference_point c cs then name_actual_by cs (past 64 cs)
      else (expr_with (c ∷ cs) >>= λ e. Some (value_actual e.0, e.1)))

-- what may stand within, if this many more brackets may be open
unfoldable pub readers_at : ℕ → Readers
readers_at zero = record { inner = λ cs. None; within = λ cs. None; handed = λ cs. None; below = λ cs. None; pattern = pattern_at zero }
readers_at (suc d) =
    record {
      inner = expr_with (readers_at d);
      within = reference_with (readers_at d);
      handed = actual_with (readers_at d);
      below = primary_with (readers_at d);
      pattern = pattern_at (suc d);
    }

abbrev pub inner_at : ℕ → List ℕ → Read ExprTree
inner_at d cs = (readers_at d).inner cs

abbrev pub expr_at : ℕ → List ℕ → Read ExprTree
expr_at d = expr_with (readers_at d)
