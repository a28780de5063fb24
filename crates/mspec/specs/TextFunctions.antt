-- SPDX-License-Identifier: Apache-2.0
-- The functions and operators of texts.
--
-- Restates "$PIECE", "$EXTRACT", "$FIND", "$LENGTH", "$REVERSE", "$TRANSLATE" and "$JUSTIFY", SET of a "$PIECE" and of an "$EXTRACT",
-- and the relations "Contains" and "Follows" of ISO/IEC 11756:1999, over characters and pieces. Places are counted from 1. An argument
-- that may be left out is an option.
use Rattle.std.specs.Prelude.{ℕ, zero, suc, ℤ, pos, negsuc, ◌+◌, ◌-◌, Bool, true, false, ◌&&◌, ◌==◌, nat_le, nat_lt, max, List, [], ◌∷◌, ◌++◌, reverse, length}
use Rattle.std.specs.Prelude.{take, drop, slice_get, Option, Some, None, option_map, unwrap_or, is_some, replicate, Result, Ok, Err, if◌then◌else◌}
use Rattle.std.specs.List.{flat_map}
use Rattle.std.specs.Option.{option_to_list}
pub use Rattle.mspec.specs.Limits.{max_text, max_place}
use Rattle.mspec.specs.Pieces.{join, begins_with, pieces_of}
use Rattle.mspec.specs.Code.{Code, Zarg, Zlong}

-- ---- places

-- a place to begin at, which is the first if it is below that
abbrev pub from_place : ℤ → ℕ
from_place (pos n) = max n 1
from_place (negsuc n) = 1

-- a place to end at
abbrev pub to_place : ℤ → ℕ
to_place (pos n) = n
to_place (negsuc n) = 0

-- those from a place up to a place
abbrev pub from_to : {X : Type 0} → ℤ → ℤ → List X → List X
from_to from to xs = take (to_place to + 1 - from_place from) (drop (from_place from - 1) xs)

-- the same, from the first if `from` is left out, and up to `from` as it is given if `to` is left out
abbrev pub range_of : {X : Type 0} → Option ℤ → Option ℤ → List X → List X
range_of from to xs = let start = unwrap_or from (pos 1) in from_to start (unwrap_or to start) xs

-- ---- what takes a part of a text, or asks about it

-- $PIECE: the pieces with their delimiters between them
abbrev pub piece_of : List ℕ → List ℕ → Option ℤ → Option ℤ → List ℕ
piece_of s d from to = join d (range_of from to (pieces_of d s))

-- $EXTRACT
abbrev pub extract_of : List ℕ → Option ℤ → Option ℤ → List ℕ
extract_of s from to = range_of from to s

-- how many characters stand before the first t in s
unfoldable pub first_place : List ℕ → List ℕ → Option ℕ
first_place t [] = if begins_with t [] then Some 0 else None
first_place t (x ∷ s) = if begins_with t (x ∷ s) then Some 0 else option_map suc (first_place t s)

-- $FIND: the place after the first t that begins at `from` or later, or 0
abbrev pub find_of : List ℕ → List ℕ → Option ℤ → ℕ
find_of s t from =
    let start = from_place (unwrap_or from (pos 1)) in
    unwrap_or (option_map (λ k. start + k + length t) (first_place t (drop (start - 1) s))) 0

-- $LENGTH with a delimiter
abbrev pub piece_count : List ℕ → List ℕ → ℕ
piece_count s d = length (pieces_of d s)

-- $REVERSE: the characters, the last one first
abbrev pub reverse_of : List ℕ → List ℕ
reverse_of s = reverse s

-- s contains t
abbrev pub contains : List ℕ → List ℕ → Bool
contains s t = is_some (first_place t s)

-- s follows t in the order of character codes: at the first place where they differ it has the greater one, or t ends
abbrev pub follows : List ℕ → List ℕ → Bool
follows [] t = false
follows (x ∷ s) [] = true
follows (x ∷ s) (y ∷ t) = if x == y then follows s t else nat_lt y x

-- ---- what makes a text

-- a text that was made, unless it is too long
abbrev pub made : List ℕ → Result (List ℕ) Code
made s = if nat_le (length s) max_text then Ok s else Err Zlong

-- the character at a place in `to`, or nothing if `to` is shorter; c if there is no place
abbrev pub translated_at : List ℕ → ℕ → Option ℕ → List ℕ
translated_at to c None = c ∷ []
translated_at to c (Some k) = option_to_list (slice_get to k)

-- $TRANSLATE: each character that is in `from` becomes the one at its first place there in `to`
abbrev pub translate_of : List ℕ → List ℕ → List ℕ → Result (List ℕ) Code
translate_of s from to = made (flat_map (λ c. translated_at to c (first_place (c ∷ []) from)) s)

-- $JUSTIFY with two arguments: spaces before s, up to n characters
abbrev pub justify_of : List ℕ → ℤ → Result (List ℕ) Code
justify_of s n = made (replicate (to_place n - length s) 32 ++ s)

-- the list with v after k others, which are empty where the list has none
unfoldable pub with_piece : ℕ → List ℕ → List (List ℕ) → List (List ℕ)
with_piece zero v [] = v ∷ []
with_piece zero v (p ∷ ps) = v ∷ ps
with_piece (suc k) v [] = [] ∷ with_piece k v []
with_piece (suc k) v (p ∷ ps) = p ∷ with_piece k v ps

-- whether a text may be given a piece: by a delimiter that is not empty, at a place from 1 to the last
abbrev pub may_be_set : List ℕ → ℤ → Bool
may_be_set d n = nat_lt 0 (length d) && (nat_le 1 (to_place n) && nat_le (to_place n) max_place)

-- SET of a $PIECE: the text with v as its piece at a place, after as many delimiters as that takes
abbrev pub set_piece_of : List ℕ → List ℕ → Option ℤ → List ℕ → Result (List ℕ) Code
set_piece_of s d place v =
    let n = unwrap_or place (pos 1) in
    if may_be_set d n then made (join d (with_piece (to_place n - 1) v (pieces_of d s))) else Err Zarg

-- whether there is a place from one up to another: if not, SET leaves a variable alone
abbrev pub has_places : Option ℤ → Option ℤ → Bool
has_places from to = let start = unwrap_or from (pos 1) in nat_le (from_place start) (to_place (unwrap_or to start))

-- SET of an $EXTRACT: the text with v in place of its characters from a place up to a place, after as many spaces as that takes
abbrev pub set_extract_of : List ℕ → Option ℤ → Option ℤ → List ℕ → Result (List ℕ) Code
set_extract_of s from to v =
    let start = unwrap_or from (pos 1) in
    let before = from_place start - 1 in
    made (take before s ++ (replicate (before - length s) 32 ++ (v ++ drop (to_place (unwrap_or to start)) s)))

-- SET of several pieces: the text with v in place of those from a place up to a place, after as many delimiters as that takes
abbrev pub set_pieces_of : List ℕ → List ℕ → Option ℤ → Option ℤ → List ℕ → Result (List ℕ) Code
set_pieces_of s d from to v =
    let start = unwrap_or from (pos 1) in
    let first = from_place start in
    let ps = pieces_of d s in
    if may_be_set d (pos first)
    then made (join d (with_piece (first - 1) v (take first ps ++ drop (to_place (unwrap_or to start)) ps)))
    else Err Zarg

-- the same of characters, if there is no delimiter, and of pieces, if there is one
abbrev pub set_range_of : List ℕ → Option (List ℕ) → Option ℤ → Option ℤ → List ℕ → Result (List ℕ) Code
set_range_of s None from to v = set_extract_of s from to v
set_range_of s (Some d) from to v = set_pieces_of s d from to v
