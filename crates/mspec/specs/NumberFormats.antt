-- SPDX-License-Identifier: Apache-2.0
-- Numbers as texts with this many digits after the point, and in formats.
--
-- Restates "$JUSTIFY" of three arguments and "$FNUMBER" of ISO/IEC 11756:1999. Numbers are counted in units of 10 ^ -18. The standard
-- leaves a negative number of places open, and has no code for a character that is no letter of a format: both are refused as arguments
-- out of their range. What bounds the places is the length of a text.
use Rattle.std.specs.Prelude.{ℕ, zero, suc, ◌-◌, ◌/◌, ◌%◌, ◌^◌, Bool, not, ◌&&◌, ◌||◌, ◌==◌, nat_lt, if◌then◌else◌, ℤ, pos, negsuc, unsigned_abs, List, [], ◌∷◌}
use Rattle.std.specs.Prelude.{◌++◌, length, replicate, decimal, Option, Some, None, Result, Err}
use Rattle.std.specs.List.{list_all, list_any}
use Rattle.mspec.specs.Number.{signed, is_below_zero, nearest}
use Rattle.mspec.specs.NumberText.{fraction_text, point_text}
use Rattle.mspec.specs.TextFunctions.{justify_of, made}
use Rattle.mspec.specs.Code.{Code, M2, Zarg}

-- the nearest number with this many places after the point; of two, the one farther from 0
unfoldable pub rounded_to : ℕ → ℤ → ℤ
rounded_to places u = signed (is_below_zero u) (nearest (10 ^ (18 - places)) (unsigned_abs u) 1)

-- digits, and after them zeros, up to this many
abbrev pub filled : ℕ → List ℕ → List ℕ
filled count digits = digits ++ replicate (count - length digits) 48

-- the point and this many digits of a fraction; no point if they are none
abbrev pub places_text : ℕ → ℕ → List ℕ
places_text zero n = []
places_text (suc k) n = 46 ∷ filled (suc k) (fraction_text 18 n)

-- a size that has at most this many places, with all of these, and with a digit before the point
unfoldable pub fixed_text : ℕ → ℕ → List ℕ
fixed_text places n = decimal (n / 10 ^ 18) ++ places_text places (n % 10 ^ 18)

-- the same with its sign
abbrev pub fixed_number : ℕ → ℤ → List ℕ
fixed_number places (pos n) = fixed_text places n
fixed_number places (negsuc n) = 45 ∷ fixed_text places (suc n)

-- $JUSTIFY with three arguments
abbrev pub justify_number : ℤ → ℤ → ℤ → Result (List ℕ) Code
justify_number u width (pos places) = justify_of (fixed_number places (rounded_to places u)) width
justify_number u width (negsuc k) = Err Zarg

-- ---- formats

-- whether a format has one of two letters
abbrev pub has_letter : ℕ → ℕ → List ℕ → Bool
has_letter one other format = list_any (λ c. (c == one) || (c == other)) format

-- `,`: commas between the digits; `+`: a sign above 0; `-`: none below 0; `T`: the sign at the end; `P`: brackets in its place
abbrev pub has_commas : List ℕ → Bool
has_commas format = has_letter 44 44 format

abbrev pub has_plus : List ℕ → Bool
has_plus format = has_letter 43 43 format

abbrev pub has_no_minus : List ℕ → Bool
has_no_minus format = has_letter 45 45 format

abbrev pub is_trailing : List ℕ → Bool
is_trailing format = has_letter 84 116 format

abbrev pub is_bracketed : List ℕ → Bool
is_bracketed format = has_letter 80 112 format

-- a character that a format may have
abbrev pub is_format_letter : ℕ → Bool
is_format_letter c = (c == 44) || ((c == 43) || ((c == 45) || ((c == 84) || ((c == 116) || ((c == 80) || (c == 112))))))

-- brackets leave no place for a sign
abbrev pub is_conflict : List ℕ → Bool
is_conflict format = is_bracketed format && (has_plus format || (has_no_minus format || is_trailing format))

-- digits with a comma before each third one from the right, but none in front
unfoldable pub grouped : List ℕ → List ℕ
grouped [] = []
grouped (d ∷ ds) = if nat_lt 0 (length ds) && (length ds % 3 == 0) then d ∷ 44 ∷ grouped ds else d ∷ grouped ds

abbrev pub whole_digits : List ℕ → List ℕ → List ℕ
whole_digits format digits = if has_commas format then grouped digits else digits

-- the sign of a number
abbrev pub sign_of : List ℕ → ℤ → List ℕ
sign_of format (pos zero) = []
sign_of format (pos (suc n)) = if has_plus format then 43 ∷ [] else []
sign_of format (negsuc n) = if has_no_minus format then [] else 45 ∷ []

-- a space in the place of a sign that is not there
abbrev pub or_space : List ℕ → List ℕ
or_space [] = 32 ∷ []
or_space (c ∷ s) = c ∷ s

-- brackets below 0, and spaces in their place
abbrev pub bracket_of : ℕ → ℤ → List ℕ
bracket_of bracket (pos n) = 32 ∷ []
bracket_of bracket (negsuc n) = bracket ∷ []

-- what stands before the digits, and after them
abbrev pub before_digits : List ℕ → ℤ → List ℕ
before_digits format u = if is_bracketed format then bracket_of 40 u else if is_trailing format then [] else sign_of format u

abbrev pub behind_digits : List ℕ → ℤ → List ℕ
behind_digits format u = if is_bracketed format then bracket_of 41 u else if is_trailing format then or_space (sign_of format u) else []

-- a number in a format, of the digits before its point and the text after them
abbrev pub formatted : List ℕ → ℤ → List ℕ → List ℕ → Result (List ℕ) Code
formatted format u digits rest =
    if not (list_all is_format_letter format) then Err Zarg
    else if is_conflict format then Err M2
    else made (before_digits format u ++ (whole_digits format digits ++ (rest ++ behind_digits format u)))

-- the digits before the point of a size in its canonical text: no zero before a fraction
abbrev pub digits_of : ℕ → List ℕ
digits_of n = if (n / 10 ^ 18 == 0) && nat_lt 0 (n % 10 ^ 18) then [] else decimal (n / 10 ^ 18)

-- $FNUMBER: the canonical text in a format, or the text with this many places
abbrev pub format_number : ℤ → List ℕ → Option ℤ → Result (List ℕ) Code
format_number u format None = formatted format u (digits_of (unsigned_abs u)) (point_text (unsigned_abs u % 10 ^ 18))
format_number u format (Some (pos places)) =
    let r = rounded_to places u in
    formatted format r (decimal (unsigned_abs r / 10 ^ 18)) (places_text places (unsigned_abs r % 10 ^ 18))
format_number u format (Some (negsuc k)) = Err Zarg
