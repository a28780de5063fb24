-- SPDX-License-Identifier: Apache-2.0
-- How words are read: numbers, names, strings, lists, patterns, signs and operators.
use Rattle.std.specs.Prelude.{ℕ, zero, suc, Bool, true, false, ◌&&◌, ◌||◌, ◌==◌, nat_le, nat_lt, if◌then◌else◌, List, [], ◌∷◌, ◌++◌, length, drop, Option, Some}
use Rattle.std.specs.Prelude.{None}
use Rattle.mspec.specs.Limits.{max_name_rest}
use Rattle.mspec.specs.Literal.{is_digit}
use Rattle.mspec.specs.Names.{is_name_start, is_name_rest, is_character}
use Rattle.mgrammar.specs.Grammar.{SignTree, plus, minus, negate, TruthTree, equals, less, greater, contains, follows, sorts_after, both, either, BinaryTree}
use Rattle.mgrammar.specs.Grammar.{add, subtract, multiply, divide, divide_whole, remainder, join, is, is_not, CountTree, RepeatedTree, classes, copies, group}
use Rattle.mgrammar.specs.Grammar.{PatternsTree, patterns_of, AtomTree, is_pattern_letter}

-- what was read, and the text after it
abbrev pub Read : Type 0 → Type 0
Read A = Option (A × List ℕ)

infixl 10 ◌>>=◌
abbrev pub ◌>>=◌ : {A B : Type 0} → Option A → (A → Option B) → Option B
None >>= f = None
(Some x) >>= f = f x

-- ---- runs

-- the characters in front that pass the test
abbrev pub run_of : (ℕ → Bool) → List ℕ → List ℕ
run_of p [] = []
run_of p (c ∷ cs) = if p c then c ∷ run_of p cs else []

abbrev pub after_run : (ℕ → Bool) → List ℕ → List ℕ
after_run p [] = []
after_run p (c ∷ cs) = if p c then after_run p cs else c ∷ cs

-- ---- numbers, names and strings

-- a point with digits after it, or nothing; and the text that follows
abbrev pub point_by : List ℕ → List ℕ → List ℕ × List ℕ
point_by [] cs = ([], 46 ∷ cs)
point_by (d ∷ ds) cs = (46 ∷ d ∷ ds, after_run is_digit cs)

unfoldable pub point_at : List ℕ → List ℕ × List ℕ
point_at [] = ([], [])
point_at (c ∷ cs) = if c == 46 then point_by (run_of is_digit cs) cs else ([], c ∷ cs)

abbrev pub is_plus_or_minus : ℕ → Bool
is_plus_or_minus c = c == 43 || c == 45

-- a sign, or nothing
abbrev pub one_sign : List ℕ → List ℕ
one_sign [] = []
one_sign (c ∷ cs) = if is_plus_or_minus c then c ∷ [] else []

abbrev pub after_sign : List ℕ → List ℕ
after_sign [] = []
after_sign (c ∷ cs) = if is_plus_or_minus c then cs else c ∷ cs

-- an `E` with a sign or none and digits after it, or nothing; and the text that follows
abbrev pub exponent_by : List ℕ → List ℕ → List ℕ × List ℕ
exponent_by [] cs = ([], 69 ∷ cs)
exponent_by (d ∷ ds) cs = (69 ∷ (one_sign cs ++ d ∷ ds), after_run is_digit (after_sign cs))

unfoldable pub exponent_at : List ℕ → List ℕ × List ℕ
exponent_at [] = ([], [])
exponent_at (c ∷ cs) = if c == 69 then exponent_by (run_of is_digit (after_sign cs)) cs else ([], c ∷ cs)

-- what was read so far of a number, with a fraction, and with an exponent
abbrev pub with_point : List ℕ → List ℕ → Read (List ℕ)
with_point front cs = Some (front ++ (point_at cs).0, (point_at cs).1)

abbrev pub with_exponent : List ℕ → List ℕ → Read (List ℕ)
with_exponent front cs = Some (front ++ (exponent_at cs).0, (exponent_at cs).1)

-- a mantissa, unless it has no digit
abbrev pub number_by : List ℕ → List ℕ → Read (List ℕ)
number_by [] cs = None
number_by (d ∷ ds) cs = with_exponent (d ∷ ds) cs

-- a character that a number or a count begins with
abbrev pub is_digit_or_point : ℕ → Bool
is_digit_or_point c = is_digit c || c == 46

unfoldable pub number_at : List ℕ → Read (List ℕ)
number_at cs = with_point (run_of is_digit cs) (after_run is_digit cs) >>= λ m. number_by m.0 m.1

unfoldable pub name_at : List ℕ → Read (List ℕ)
name_at [] = None
name_at (c ∷ cs) =
    if is_name_start c && nat_le (length (run_of is_name_rest cs)) max_name_rest
    then Some (c ∷ run_of is_name_rest cs, after_run is_name_rest cs) else None

-- a list that was read, after what was there before
abbrev pub with_front : {A : Type 0} → List A → Read (List A) → Read (List A)
with_front front read = read >>= λ x. Some (front ++ x.0, x.1)

-- the rest of a string, where the test says whether a quote has just come
abbrev pub text_from : Bool → List ℕ → Read (List ℕ)
text_from true [] = Some ([], [])
text_from true (c ∷ cs) = if c == 34 then with_front (34 ∷ []) (text_from false cs) else Some ([], c ∷ cs)
text_from false [] = None
text_from false (c ∷ cs) =
    if c == 34 then text_from true cs else (if is_character c then with_front (c ∷ []) (text_from false cs) else None)

-- the text after this character, which must come next
abbrev pub past : ℕ → List ℕ → Option (List ℕ)
past a [] = None
past a (c ∷ cs) = if c == a then Some cs else None

-- ---- lists

-- An item reads one more, or nothing if none begins, or None at a fault.
module _ {A : Type 0} (item : List ℕ → Option (Option (A × List ℕ))) where
  abbrev pub more_by : (List ℕ → Read (List A)) → List ℕ → Option (A × List ℕ) → Read (List A)
  more_by more cs None = Some ([], cs)
  more_by more cs (Some x) = with_front (x.0 ∷ []) (more x.1)

  -- items one after another, at most this many: the count of the characters is always enough
  unfoldable pub many : ℕ → List ℕ → Read (List A)
  many zero cs = Some ([], cs)
  many (suc n) cs = item cs >>= more_by (many n) cs

module _ {A : Type 0} (item : List ℕ → Read A) where
  abbrev pub comma_by : Option (List ℕ) → Option (Option (A × List ℕ))
  comma_by None = Some None
  comma_by (Some rest) = item rest >>= λ x. Some (Some x)

  -- an item after a comma, or nothing if no comma comes
  abbrev pub after_comma : List ℕ → Option (Option (A × List ℕ))
  after_comma cs = comma_by (past 44 cs)

  -- one or more, with commas between
  unfoldable pub list_at : List ℕ → Read (List A)
  list_at cs = item cs >>= λ x. many after_comma (length x.1) x.1 >>= λ xs. Some (x.0 ∷ xs.0, xs.1)

-- ---- patterns

abbrev pub behind_of : List ℕ → Option (List ℕ)
behind_of [] = None
behind_of (c ∷ cs) = if c == 46 then Some (run_of is_digit cs) else None

abbrev pub after_behind : List ℕ → List ℕ
after_behind [] = []
after_behind (c ∷ cs) = if c == 46 then after_run is_digit cs else c ∷ cs

abbrev pub behind_at : List ℕ → Read (Option (List ℕ))
behind_at cs = Some (behind_of cs, after_behind cs)

abbrev pub is_count : List ℕ → Option (List ℕ) → Bool
is_count front None = nat_lt 0 (length front) && nat_le (length front) 4
is_count front (Some behind) = nat_le (length front) 4 && nat_le (length behind) 4

-- digits, and what comes after a point, where the text after them is cs
abbrev pub count_by : List ℕ → Option (List ℕ) → List ℕ → Read CountTree
count_by front behind cs = if is_count front behind then Some (record { front = front; behind = behind }, cs) else None

unfoldable pub count_at : List ℕ → Read CountTree
count_at cs = count_by (run_of is_digit cs) (behind_of (after_run is_digit cs)) (after_behind (after_run is_digit cs))

abbrev pub classes_by : List ℕ → List ℕ → Read RepeatedTree
classes_by [] cs = None
classes_by (l ∷ ls) cs = Some (classes (l ∷ ls), cs)

-- atoms, unless there are none
abbrev pub pattern_by : List AtomTree → List ℕ → Read (List AtomTree)
pattern_by [] cs = None
pattern_by (a ∷ more) cs = Some (a ∷ more, cs)

-- given how to read a group after its bracket
module _ (grouped : List ℕ → Read PatternsTree) where
  unfoldable pub repeated_with : List ℕ → Read RepeatedTree
  repeated_with [] = None
  repeated_with (c ∷ cs) =
      if c == 34 then (text_from false cs >>= λ x. Some (copies x.0, x.1))
      else (if c == 40 then (grouped cs >>= λ x. Some (group x.0, x.1))
      else classes_by (run_of is_pattern_letter (c ∷ cs)) (after_run is_pattern_letter (c ∷ cs)))

  unfoldable pub atom_with : List ℕ → Option (Option (AtomTree × List ℕ))
  atom_with [] = Some None
  atom_with (c ∷ cs) =
      if is_digit_or_point c
      then (count_at (c ∷ cs) >>= λ n. repeated_with n.1 >>= λ x. Some (Some (record { count = n.0; repeated = x.0 }, x.1)))
      else Some None

  unfoldable pub pattern_with : List ℕ → Read (List AtomTree)
  pattern_with cs = many atom_with (length cs) cs >>= λ x. pattern_by x.0 x.1

-- if this many more brackets may be open
unfoldable pub group_at : ℕ → List ℕ → Read PatternsTree
group_at zero cs = None
group_at (suc d) cs = list_at (pattern_with (group_at d)) cs >>= λ x. past 41 x.1 >>= λ rest. Some (patterns_of x.0, rest)

unfoldable pub pattern_at : ℕ → List ℕ → Read (List AtomTree)
pattern_at d = pattern_with (group_at d)

-- ---- signs and operators

abbrev pub signs_of : List ℕ → List SignTree
signs_of [] = []
signs_of (c ∷ cs) =
    if c == 43 then plus ∷ signs_of cs
    else (if c == 45 then minus ∷ signs_of cs else (if c == 39 then negate ∷ signs_of cs else []))

abbrev pub after_signs : List ℕ → List ℕ
after_signs [] = []
after_signs (c ∷ cs) =
    if c == 43 then after_signs cs
    else (if c == 45 then after_signs cs else (if c == 39 then after_signs cs else c ∷ cs))

abbrev pub signs_at : List ℕ → Read (List SignTree)
signs_at cs = Some (signs_of cs, after_signs cs)

-- what stands beside a character in a table
abbrev pub found : {A : Type 0} → List (ℕ × A) → ℕ → Option A
found [] c = None
found (entry ∷ entries) c = if c == entry.0 then Some entry.1 else found entries c

abbrev pub truths : List (ℕ × TruthTree)
truths = (61, equals) ∷ (60, less) ∷ (62, greater) ∷ (91, contains) ∷ (38, both) ∷ (33, either) ∷ []

abbrev pub arithmetic : List (ℕ × BinaryTree)
arithmetic =
    (43, add) ∷ (45, subtract) ∷ (47, divide) ∷ (92, divide_whole) ∷ (35, remainder) ∷ (95, join) ∷ []

-- the operator after a `]`: the longest
abbrev pub follows_at : List ℕ → TruthTree × List ℕ
follows_at [] = (follows, [])
follows_at (c ∷ cs) = if c == 93 then (sorts_after, cs) else (follows, c ∷ cs)

unfoldable pub truth_at : List ℕ → Read TruthTree
truth_at [] = None
truth_at (c ∷ cs) = if c == 93 then Some (follows_at cs) else (found truths c >>= λ t. Some (t, cs))

-- what stands between an operand and what it is taken with
pub data OperatorTree : Type 0 where
  between : BinaryTree → OperatorTree
  matching : OperatorTree
  matching_not : OperatorTree
  raising : OperatorTree

-- after a `'`
abbrev pub negated_at : List ℕ → Read OperatorTree
negated_at [] = None
negated_at (c ∷ cs) =
    if c == 63 then Some (matching_not, cs) else (truth_at (c ∷ cs) >>= λ t. Some (between (is_not t.0), t.1))

-- the operator after a `*`: the longest
abbrev pub times_at : List ℕ → OperatorTree × List ℕ
times_at [] = (between multiply, [])
times_at (c ∷ cs) = if c == 42 then (raising, cs) else (between multiply, c ∷ cs)

-- given that the first character alone says this
abbrev pub plain_by : Option BinaryTree → List ℕ → Read OperatorTree
plain_by None cs = truth_at cs >>= λ t. Some (between (is t.0), t.1)
plain_by (Some b) cs = Some (between b, drop 1 cs)

abbrev pub plain_at : List ℕ → Read OperatorTree
plain_at [] = None
plain_at (c ∷ cs) = plain_by (found arithmetic c) (c ∷ cs)

-- None if no operator begins
unfoldable pub operator_at : List ℕ → Read OperatorTree
operator_at [] = None
operator_at (c ∷ cs) =
    if c == 39 then negated_at cs
    else (if c == 63 then Some (matching, cs)
    else (if c == 42 then Some (times_at cs)
    else plain_at (c ∷ cs)))
