-- SPDX-License-Identifier: Apache-2.0
-- A line of a routine: its tree, the text of a tree, and reading a tree back from its text.
--
-- Restates "Routine structure" of ISO/IEC 11756:1999: a `levelline` is a label or none, then spaces, an `li` for each dot, and a
-- `linebody`; a `formalline` has a `formallist` right after its label. After these a line may also end, or a comment come at once.
use Rattle.std.specs.Prelude.{◌≡◌, ℕ, Bool, true, not, ◌&&◌, ◌||◌, ◌==◌, nat_le, if◌then◌else◌, List, [], ◌∷◌, ◌++◌, replicate, length, Option, Some, None}
use Rattle.std.specs.List.{filter, list_any}
use Rattle.mspec.specs.Names.{IsName}
use Rattle.mspec.specs.Trees.{text_eq}
use Rattle.mgrammar.specs.Grammar.{LineTree, spell_comment, spell, spell_names}
use Rattle.mgrammar.specs.WellFormed.{WellAll, WellComment, well}
use Rattle.mgrammar.specs.ReadingWords.{Read, ◌>>=◌, run_of, after_run, name_at, past, many}
use Rattle.mgrammar.specs.Reading.{is_space, comment_at, line_at, names_at}

-- ---- trees

-- what comes after the label and its formal list: nothing or a comment; or after a space, for each dot how many spaces are in front
-- of it, and then what a line of a terminal has too
pub data BodyTree : Type 0 where
  short : Option (List ℕ) → BodyTree
  spaced_out : List ℕ → LineTree → BodyTree

pub record RoutineLineTree : Type 0 where
  pub label : Option (List ℕ)
  pub formals : Option (List (List ℕ))
  pub body : BodyTree

-- how many dots a line has: its LEVEL is one more
abbrev pub dots_of_body : BodyTree → ℕ
dots_of_body (short o) = 0
dots_of_body (spaced_out dots l) = length dots

-- ---- the text of a tree; 32 is a space, 46 a dot, 59 `;`

-- with its spaces in front
abbrev pub spell_dot : ℕ → List ℕ
spell_dot n = replicate n 32 ++ 46 ∷ []

abbrev pub spell_dots : List ℕ → List ℕ
spell_dots [] = []
spell_dots (n ∷ ns) = spell_dot n ++ spell_dots ns

abbrev pub spell_body : BodyTree → List ℕ
spell_body (short o) = spell_comment o
spell_body (spaced_out dots l) = 32 ∷ (spell_dots dots ++ spell l)

abbrev pub spell_label : Option (List ℕ) → List ℕ
spell_label None = []
spell_label (Some name) = name

abbrev pub spell_formals : Option (List (List ℕ)) → List ℕ
spell_formals None = []
spell_formals (Some names) = spell_names names

abbrev pub spell_routine_line : RoutineLineTree → List ℕ
spell_routine_line l = spell_label l.label ++ (spell_formals l.formals ++ spell_body l.body)

-- ---- what makes a tree the tree of a text

abbrev pub WellLabel : Option (List ℕ) → Type 0
WellLabel None = Unit {0}
WellLabel (Some name) = IsName name

-- no name twice
abbrev pub are_distinct : List (List ℕ) → Bool
are_distinct [] = true
are_distinct (n ∷ ns) = not (list_any (text_eq n) ns) && are_distinct ns

-- a formal list comes after a label
abbrev pub WellFormals : (label : Option (List ℕ)) → Option (List (List ℕ)) → Type 0
WellFormals label None = Unit {0}
WellFormals None (Some names) = ⊥
WellFormals (Some label) (Some names) = WellAll IsName names × (are_distinct names ≡ true)

abbrev pub WellBody : BodyTree → Type 0
WellBody (short o) = WellComment o
WellBody (spaced_out dots l) = well l

abbrev pub well_routine_line : RoutineLineTree → Type 0
well_routine_line l = WellLabel l.label × WellFormals l.label l.formals × WellBody l.body

-- ---- labels, formal lists and dots, told without reading what comes after them

-- whether a language has formal lists
abbrev pub has_formals : ℕ → Bool
has_formals language = nat_le 1 language

-- a label ends here: at the end, at a space, at a comment or, if there are formal lists, at a bracket
abbrev pub label_ends : (lists : Bool) → List ℕ → Bool
label_ends lists [] = true
label_ends lists (c ∷ cs) = c == 32 || c == 59 || (lists && c == 40)

-- a label, or none, and the text after it
abbrev pub label_by : (lists : Bool) → List ℕ → Option (List ℕ × List ℕ) → Option (List ℕ) × List ℕ
label_by lists cs None = (None, cs)
label_by lists cs (Some name) = if label_ends lists name.1 then (Some name.0, name.1) else (None, cs)

unfoldable pub label_at : (lists : Bool) → List ℕ → Option (List ℕ) × List ℕ
label_at lists cs = label_by lists cs (name_at cs)

-- names, unless two are equal
abbrev pub unlike : List (List ℕ) × List ℕ → Read (List (List ℕ))
unlike x = if are_distinct x.0 then Some x else None

-- after a bracket, given that the next one comes at once, or not
abbrev pub formals_by : List ℕ → Option (List ℕ) → Read (List (List ℕ))
formals_by cs None = names_at cs >>= unlike
formals_by cs (Some rest) = Some ([], rest)

-- given what is read of a formal list, if one begins
abbrev pub listed_by : List ℕ → Option (List (List ℕ) × List ℕ) → Option (List (List ℕ)) × List ℕ
listed_by cs None = (None, cs)
listed_by cs (Some x) = (Some x.0, x.1)

-- a formal list after this label, or none, and the text after it; what is no list stays there
unfoldable pub formals_at : (label : Option (List ℕ)) → List ℕ → Option (List (List ℕ)) × List ℕ
formals_at None cs = (None, cs)
formals_at (Some label) cs = listed_by cs (past 40 cs >>= λ inside. formals_by inside (past 41 inside))

abbrev pub label_of : (language : ℕ) → List ℕ → Option (List ℕ)
label_of language cs = (label_at (has_formals language) cs).0

-- a formal list after a label that was read, or none
abbrev pub formals_behind : Option (List ℕ) × List ℕ → Option (List (List ℕ)) × List ℕ
formals_behind l = formals_at l.0 l.1

abbrev pub formals_of : (language : ℕ) → List ℕ → Option (List (List ℕ))
formals_of language cs = (formals_behind (label_at (has_formals language) cs)).0

abbrev pub is_dot : ℕ → Bool
is_dot c = c == 46

abbrev pub is_space_or_dot : ℕ → Bool
is_space_or_dot c = is_space c || is_dot c

-- the dots in a run of spaces and dots that begins with a space
abbrev pub dots_in : List ℕ → ℕ
dots_in [] = 0
dots_in (c ∷ cs) = if is_space c then length (filter is_dot (run_of is_space_or_dot cs)) else 0

-- the dots of a line, as its text gives them, even if it has no tree
abbrev pub dots_of : (language : ℕ) → List ℕ → ℕ
dots_of language cs = dots_in (formals_behind (label_at (has_formals language) cs)).1

-- ---- reading

abbrev pub dot_by : ℕ → Option (List ℕ) → Option (Option (ℕ × List ℕ))
dot_by spaces None = Some None
dot_by spaces (Some rest) = Some (Some (spaces, rest))

-- a dot with its spaces in front, or nothing if none comes
unfoldable pub dot_at : List ℕ → Option (Option (ℕ × List ℕ))
dot_at cs = dot_by (length (run_of is_space cs)) (past 46 (after_run is_space cs))

unfoldable pub dots_at : List ℕ → Read (List ℕ)
dots_at cs = many dot_at (length cs) cs

-- given that this text comes after a space, or no space comes
abbrev pub body_by : List ℕ → Option (List ℕ) → Option BodyTree
body_by cs None = comment_at cs >>= λ o. Some (short o)
body_by cs (Some rest) = dots_at rest >>= λ p. line_at p.1 >>= λ l. Some (spaced_out p.0 l)

unfoldable pub body_at : List ℕ → Option BodyTree
body_at cs = body_by cs (past 32 cs)

-- given a label that was read, or none
abbrev pub routine_line_by : Option (List ℕ) × List ℕ → Option RoutineLineTree
routine_line_by l = body_at (formals_behind l).1 >>= λ b. Some (record { label = l.0; formals = (formals_behind l).0; body = b })

unfoldable pub routine_line_at : List ℕ → Option RoutineLineTree
routine_line_at cs = routine_line_by (label_at true cs)
