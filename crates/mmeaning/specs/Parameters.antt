-- SPDX-License-Identifier: Apache-2.0
-- Parameters: which formal parameters a level gets for what actuals hand over.
--
-- Restates "Parameter passing" of ISO/IEC 11756:1999. An actual hands over a value, a variable of the caller, or nothing. A formal parameter
-- is a new variable with that value, another name of that variable, or a new variable without a value, as all those are that no actual
-- stands for.
use Rattle.std.specs.Prelude.{ℕ, nat_le, List, [], ◌∷◌, length, slice_get, Option, Some, None}
use Rattle.mspec.specs.Code.{M20, M58}
use Rattle.mspec.specs.Scopes.{Binding, unset}
use Rattle.mspec.specs.Act.{Text, Act, Locals, level_begun, level_bound, ◌>>◌, give, fail, in_language, unless}
use Rattle.mgrammar.specs.Grammar.{missing_actual, ActualsTree, no_actuals, actuals}
use Rattle.mgrammar.specs.RoutineLine.{formals_of}
pub use Rattle.mmeaning.specs.Expression.{handed, all_handed, handed_over}
use Rattle.mmeaning.specs.Levels.{Target}

-- the list of a function for which none is written
abbrev pub bare_list : ActualsTree
bare_list = actuals missing_actual no_actuals

-- those of a line, if it has a formal list
abbrev pub formals_in : (language : ℕ) → Option Text → Option (List Text)
formals_in l None = None
formals_in l (Some line) = formals_of l line

-- those of the line that an entry means
abbrev pub formals_of_target : Target → Act (Option (List Text))
formals_of_target t = in_language (λ l. give (formals_in l (slice_get t.copy t.line)))

-- each with what its actual hands over; those past the last actual have no value
abbrev pub paired : List Text → List Binding → List (Text × Binding)
paired [] bs = []
paired (n ∷ ns) [] = (n, unset) ∷ paired ns []
paired (n ∷ ns) (b ∷ bs) = (n, b) ∷ paired ns bs

-- a line without a formal list takes no actuals, and one with such a list no more than it has names; no list of actuals counts as one
-- without any
abbrev pub formals_for : ActualsTree → Option (List Text) → List Binding → Act (Option (List (Text × Binding)))
formals_for no_actuals None bs = give None
formals_for (actuals a rest) None bs = fail M20
formals_for xs (Some names) bs = do
  unless M58 (nat_le (length bs) (length names))
  give (Some (paired names bs))

-- the scope of a level, with its formal parameters, if it has some
abbrev pub with_formals : Option (List (Text × Binding)) → Locals → Locals
with_formals None = level_begun
with_formals (Some bs) = level_bound bs
