-- SPDX-License-Identifier: Apache-2.0
-- The lines of a routine after a place, one after another.
use Rattle.std.specs.Prelude.{Bool, ◌&&◌, List, [], ◌∷◌, map, is_some, if◌then◌else◌, codes}
use Rattle.std.specs.FinMap.{entries, get}
use Rattle.std.specs.List.{filter}
use Rattle.std.specs.Option.{option_to_list}
use Rattle.mspec.specs.Globals.{Globals, is_beside, is_line_of, routines_of}
use Rattle.mspec.specs.Node.{Text, Node}
use Rattle.mspec.specs.NodeOrder.{canonical_value}
use Rattle.mspec.specs.Number.{significant_digits}
use Rattle.mspec.specs.Trees.{is_before}
use Rattle.mkey.specs.Under.{passes, child_under}

-- the node of a routine, and of one of its lines
abbrev pub routine_at : Text → Text → Node
routine_at account name = record { account = account; name = codes "ROUTINE"; subscripts = name ∷ [] }

abbrev pub line_at : Text → Text → Text → Node
line_at account name place = record { account = account; name = codes "ROUTINE"; subscripts = name ∷ place ∷ [] }

abbrev pub is_line : Text → Text → Node → Bool
is_line account name m = is_beside (routines_of account) m && is_line_of name m.subscripts

-- a line whose number comes after x
abbrev pub is_line_behind : Text → Text → Text → Node → Bool
is_line_behind account name x m = is_line account name m && passes (is_before x) (child_under (routine_at account name) m)

abbrev pub texts_behind : Text → Text → Text → List (Node × Text) → List Text
texts_behind account name x es = map (λ e. e.1) (filter (λ e. is_line_behind account name x e.0) es)

-- those after x
abbrev pub lines_behind : Globals → Text → Text → Text → List Text
lines_behind g account name x = texts_behind account name x (entries g)

-- the text of the line at a place, if that is a number
abbrev pub line_in : Globals → Text → Text → Text → List Text
line_in g account name place = if is_some (canonical_value significant_digits place) then option_to_list (get g (line_at account name place)) else []
