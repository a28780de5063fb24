-- SPDX-License-Identifier: Apache-2.0
-- The globals of a store: the texts at its nodes.
--
-- Restates what "Global variable handling", "$DATA", "$ORDER", "SET" and "KILL" of ISO/IEC 11756:1999 say of nodes: SET gives
-- one node a text and keeps what is below it; KILL takes away a node with all that is below it.
use Rattle.std.specs.Prelude.{ℕ, Bool, false, not, ◌&&◌, List, [], ◌∷◌, map, Option, is_some, codes, reverse}
use Rattle.std.specs.List.{list_any, filter, find}
use Rattle.std.specs.Ordering.{nat_cmp, is_le, is_lt}
use Rattle.std.specs.Cmp.Lexicographic.{slice_cmp}
use Rattle.std.specs.FinMap.{FinMap, get, entries, keys, retain_keys}
use Rattle.mspec.specs.Node.{Text, Node}
use Rattle.mspec.specs.Number.{significant_digits}
use Rattle.mspec.specs.NodeOrder.{node_cmp, canonical_value}
use Rattle.mspec.specs.KeyBytes.{key_bytes}
use Rattle.mspec.specs.Trees.{text_eq, is_within, is_below, Direction, neighbour, following, children_in, front, last}

abbrev pub Globals : Type 0
Globals = FinMap (node_cmp significant_digits) Text

-- m is n, or is below it
abbrev pub is_node_within : Node → Node → Bool
is_node_within n m = text_eq n.account m.account && (text_eq n.name m.name && is_within n.subscripts m.subscripts)

-- without a node and what is below it
abbrev pub without_subtree : Globals → Node → Globals
without_subtree g n = retain_keys g (λ m. not (is_node_within n m))

-- ---- what is asked of a global

-- m is of the same global as n
abbrev pub is_beside : Node → Node → Bool
is_beside n m = text_eq n.account m.account && text_eq n.name m.name

-- the subscripts of a global's nodes, in order
abbrev pub subscripts_under : Globals → Node → List (List Text)
subscripts_under g n = map (λ m. m.subscripts) (filter (is_beside n) (keys g))

-- $DATA: whether a node has a text, and whether one below it has
abbrev pub status : Globals → Node → Bool × Bool
status g n = (is_some (get g n), list_any (is_below n.subscripts) (subscripts_under g n))

-- $ORDER: the subscript next to the last one in a direction, among those below which there is a text
abbrev pub order_at : Globals → Direction → Node → Option Text
order_at g direction n = neighbour direction (last n.subscripts) (children_in (subscripts_under g n) (front n.subscripts))

-- $QUERY: the next node of a global in a direction that has a text, by its subscripts
abbrev pub following_at : Globals → Direction → Node → Option (List Text)
following_at g direction n = following direction n.subscripts (subscripts_under g n)

-- ---- routines

-- the global that holds an account's routines
abbrev pub routines_of : Text → Node
routines_of account = record { account = account; name = codes "ROUTINE"; subscripts = [] }

-- where a routine has a line: after its name comes a number, and nothing more
abbrev pub is_line_of : Text → List Text → Bool
is_line_of name (routine ∷ place ∷ []) = text_eq name routine && is_some (canonical_value significant_digits place)
is_line_of name subscripts = false

-- the lines of an account's routine, in the order of their numbers
abbrev pub lines_of : Globals → Text → Text → List Text
lines_of g account name = map (λ e. e.1) (filter (λ e. is_beside (routines_of account) e.0 && is_line_of name e.0.subscripts) (entries g))

-- ---- by the bytes of keys

-- the keys of all nodes, in order
abbrev pub keys_of : Globals → List (List ℕ)
keys_of g = map (key_bytes significant_digits) (keys g)

-- from `low` on, and before `high`
abbrev pub is_between : List ℕ → List ℕ → List ℕ → Bool
is_between low high key = is_le (slice_cmp nat_cmp low key) && is_lt (slice_cmp nat_cmp key high)

-- the first key within bounds, and the last
abbrev pub next_key : Globals → List ℕ → List ℕ → Option (List ℕ)
next_key g low high = find (is_between low high) (keys_of g)

abbrev pub previous_key : Globals → List ℕ → List ℕ → Option (List ℕ)
previous_key g low high = find (is_between low high) (reverse (keys_of g))
