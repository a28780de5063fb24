-- SPDX-License-Identifier: Apache-2.0
-- The tree of a variable: the texts at its nodes, by their subscripts.
--
-- Restates what "Local variable handling", "$DATA", "$ORDER", "$QUERY" and "KILL" of ISO/IEC 11756:1999 say of one variable. Its own
-- text lies where there are no subscripts.
use Rattle.std.specs.Prelude.{◌-◌, ◌<◌, ◌≤◌, Bool, true, false, not, ◌&&◌, ◌||◌, nat_lt, nat_eq, List, [], ◌∷◌, length, take, slice_get, slice_index_or, Option}
use Rattle.std.specs.Prelude.{None, is_some, if◌then◌else◌, reverse}
use Rattle.std.specs.List.{list_any, find, flat_map, starts_with}
use Rattle.std.specs.Option.{option_to_list}
use Rattle.std.specs.Ordering.{is_lt}
use Rattle.std.specs.Cmp.Lexicographic.{pointwise}
use Rattle.std.specs.FinMap.{FinMap, get, keys, retain_keys}
use Rattle.mspec.specs.Limits.{max_subscript, max_subscripts}
use Rattle.mspec.specs.KeyBytes.{AreSubscripts}
use Rattle.mspec.specs.Node.{Text}
use Rattle.mspec.specs.Number.{significant_digits}
use Rattle.mspec.specs.NodeOrder.{text_cmp, subscripts_cmp}

abbrev pub Tree : Type 0
Tree = FinMap (subscripts_cmp significant_digits) Text

abbrev pub text_eq : Text → Text → Bool
text_eq = pointwise nat_eq

-- ys is xs, or is below it
abbrev pub is_within : List Text → List Text → Bool
is_within xs ys = starts_with text_eq ys xs

abbrev pub is_below : List Text → List Text → Bool
is_below xs ys = is_within xs ys && nat_lt (length xs) (length ys)

-- ---- $DATA

abbrev pub has_value : Tree → List Text → Bool
has_value t xs = is_some (get t xs)

abbrev pub has_descendants : Tree → List Text → Bool
has_descendants t xs = list_any (is_below xs) (keys t)

-- ---- KILL

-- without a node and what is below it
abbrev pub without : Tree → List Text → Tree
without t xs = retain_keys t (λ ys. not (is_within xs ys))

-- ---- $ORDER

-- the subscript that follows xs in ys, if ys is below xs
abbrev pub child_of : List Text → List Text → Option Text
child_of xs ys = if is_within xs ys then slice_get ys (length xs) else None

-- the subscripts that follow xs in those lists that are below it, each as often as it occurs there
abbrev pub children_in : List (List Text) → List Text → List Text
children_in lists xs = flat_map (λ ys. option_to_list (child_of xs ys)) lists

-- the same for the nodes of a variable, in order
abbrev pub children : Tree → List Text → List Text
children t xs = children_in (keys t) xs

abbrev pub is_before : Text → Text → Bool
is_before x y = is_lt (text_cmp significant_digits x y)

pub data Direction : Type 0 where
  Forward : Direction
  Backward : Direction

abbrev pub is_empty : Text → Bool
is_empty [] = true
is_empty (c ∷ x) = false

-- the first of the subscripts after x, or the last of those before it; the empty x comes before all, and after all
abbrev pub neighbour : Direction → Text → List Text → Option Text
neighbour Forward x cs = find (λ c. is_before x c) cs
neighbour Backward x cs = find (λ c. is_empty x || is_before c x) (reverse cs)

-- the subscript next to x in a direction, among those that follow xs and below which there is a text
abbrev pub order_of : Tree → Direction → List Text → Text → Option Text
order_of t direction xs x = neighbour direction x (children t xs)

-- the subscripts in front of the last one, and the last one
abbrev pub front : List Text → List Text
front xs = take (length xs - 1) xs

abbrev pub last : List Text → Text
last xs = slice_index_or xs (length xs - 1) []

-- ---- $QUERY

abbrev pub comes_before : List Text → List Text → Bool
comes_before xs ys = is_lt (subscripts_cmp significant_digits xs ys)

-- whether the last subscript is empty: it comes before all that it may stand for, and backward after all
abbrev pub ends_empty : List Text → Bool
ends_empty [] = false
ends_empty (x ∷ xs) = is_empty (last (x ∷ xs))

-- the node from which a walk forward goes on: the one above, if the last subscript is empty
abbrev pub without_empty : List Text → List Text
without_empty xs = if ends_empty xs then front xs else xs

-- whether a walk backward from xs comes to ys
abbrev pub is_passed : List Text → List Text → Bool
is_passed xs ys = if ends_empty xs then is_within (front xs) ys || comes_before ys (front xs) else comes_before ys xs

-- the first of these nodes in a direction from xs; they come in their order, in which a node is before those below it
abbrev pub following : Direction → List Text → List (List Text) → Option (List Text)
following Forward xs nodes = find (λ ys. comes_before xs ys) nodes
following Backward xs nodes = find (λ ys. is_passed xs ys) (reverse nodes)

-- the subscripts with which $ORDER may be asked: those of a node, except that the last may be empty
pub record AreOrderSubscripts (xs : List Text) : Type 0 where
  pub some : 0 < length xs
  pub few : length xs ≤ max_subscripts
  pub before : AreSubscripts (front xs)
  pub short : length (last xs) ≤ max_subscript

-- those with which $QUERY may be asked: none, or those of $ORDER
abbrev pub AreQuerySubscripts : List Text → Type 0
AreQuerySubscripts xs = 0 < length xs → AreOrderSubscripts xs
