-- SPDX-License-Identifier: Apache-2.0
-- The laws of calls, as statements. The functions of src/ named after them carry them.
use Rattle.std.specs.Prelude.{◌≡◌, ℕ, false, List}
use Rattle.mspec.specs.Plan.{Ops, perform}
use Rattle.mspec.specs.Scopes.{Binding}
use Rattle.mspec.specs.Act.{Text, State, Gives, Act}
use Rattle.mgrammar.specs.Grammar.{ExprTree, EntryTree}
use Rattle.mgrammar.specs.CallsIn.{has_call}
use Rattle.mmeaning.specs.Expression.{Depth, Calls, inside, value}
use Rattle.mmeaning.specs.Levels.{Position}
use Rattle.mmeaning.specs.LineMeaning.{context, answering}
use Rattle.mmeaning.specs.Shared.{Shared}

-- an expression without a call means the same whatever functions give
abbrev pub CallsAloneDiffer : Type 0
CallsAloneDiffer =
    (a : Text) (n : ℕ) (d : Depth) (calls : Calls) (e : ExprTree) → has_call e ≡ false →
    ◌≡◌ {A = Act Text} (value (record (inside a n d) { calls = calls }) e) (value (inside a n d) e)

-- whatever a function does, and what hands over to it, $TEST is afterwards what it was before both, over any world
abbrev pub FunctionKeepsTest : Type 0
FunctionKeepsTest =
    (ops : Ops Shared) (a : Text) (n : ℕ) (p : Position) (d : Depth) (e : EntryTree) (hands : Act (List Binding)) →
    (s after : State) (w left : Shared) (x : Text) →
    perform ops (answering (context a n p) d e hands s) w ≡ (Gives x after, left) → after.test ≡ s.test
