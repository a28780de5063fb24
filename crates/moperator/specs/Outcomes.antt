-- SPDX-License-Identifier: Apache-2.0
-- The outcomes of operations on values, as acts.
use Rattle.std.specs.Prelude.{◌≡◌, ℤ, Option, Some, None, Result, Ok, Err}
use Rattle.mspec.specs.Code.{Code}
use Rattle.mspec.specs.Plan.{Done}
use Rattle.mspec.specs.Act.{State, Gives, Fails, Act}
use Rattle.mnum.specs.Num.{units}
use Rattle.mnum.specs.declared.num.Num.{Num}
use Rattle.mnum.specs.declared.num.Over.{Over}

-- an operation's result in units; none if it is too large
abbrev pub outcome_units : Result Num Over → Option ℤ
outcome_units (Ok n) = Some (units n)
outcome_units (Err over) = None

-- an act that gives one value, whatever the state
abbrev pub IsDone : {A : Type 0} → Act A → Type 0
IsDone {A = A} p = (x : A) × ((s : State) → p s ≡ Done (Gives x s))

-- an act that fails by this code in this state
abbrev pub FailsBy : {A : Type 0} → Act A → Code → State → Type 0
FailsBy p code s = p s ≡ Done (Fails code s)
