-- SPDX-License-Identifier: Apache-2.0
-- The lines of a routine, by the operations that ask for one node: what `Routine` answers is made of `Neighbour` and `Value`.
use Rattle.std.specs.Prelude.{◌≡◌, ◌≤◌, ◌++◌, ℕ, zero, suc, List, [], Option, Some, None, is_some, unwrap_or, if◌then◌else◌}
use Rattle.std.specs.Option.{option_to_list}
use Rattle.mspec.specs.Access.{Settings}
use Rattle.mspec.specs.Node.{Text}
use Rattle.mspec.specs.NodeOrder.{canonical_value}
use Rattle.mspec.specs.Number.{significant_digits}
use Rattle.mspec.specs.Plan.{Plan, Done, Ask, Value, Neighbour, Routine, then_plan, perform}
use Rattle.mspec.specs.Trees.{Forward}
use Rattle.mmeaning.specs.Shared.{Shared, act}
use Rattle.mnodes.specs.Held.{AreHeld}
use Rattle.mglobal.specs.Lines.{line_at}

-- the text of the line at a place, if the place is a number and the node has a text
abbrev pub line : Text → Text → Text → Plan (List Text)
line owner name place =
    if is_some (canonical_value significant_digits place) then Ask (Value (line_at owner name place)) (λ text. Done (option_to_list text)) else Done []

-- that line, and then more from there; nothing if there is no place
abbrev pub onward : Text → Text → (Text → Plan (List Text)) → Option Text → Plan (List Text)
onward owner name more None = Done []
onward owner name more (Some place) = then_plan (line owner name place) (λ texts. then_plan (more place) (λ rest. Done (texts ++ rest)))

-- from a place on, at each step the next one by $ORDER; at most this many steps
abbrev pub walk : Text → Text → ℕ → Text → Plan (List Text)
walk owner name zero place = Done []
walk owner name (suc most) place = Ask (Neighbour Forward (line_at owner name place)) (onward owner name (walk owner name most))

-- In a world whose globals a store may hold, `Routine` does what the walk over the owner's nodes does that has steps enough: also where the
-- owner doesn't let the account read them.
abbrev pub RoutineIsAWalk : Type 0
RoutineIsAWalk = (settings : Settings) (terminal : ℕ) (me : Text) (owner : Option Text) (name : Text) (w : Shared) → AreHeld w.globals
    → (steps : ℕ) × ((most : ℕ) → steps ≤ most
    → perform (act settings terminal me) (walk (unwrap_or owner me) name most []) w ≡ act settings terminal me (Routine owner name) w)
