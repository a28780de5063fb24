-- SPDX-License-Identifier: Apache-2.0
-- The definitions of numbers with this many places, and in formats, on examples, as proved equations. The values are GT.M's.
use Rattle.mspec.proofs.SpecWords.{◌≡◌, List, ℕ, Some, rules, ℤ, pos, negsuc, codes, Result, Ok, Err, Option, option_map, numeric_value, significant_digits}
use Rattle.mspec.proofs.SpecWords.{None, justify_number, format_number, fixed_text, rounded_to, grouped}
use Rattle.mspec.specs.Code.{Code, M2, Zarg, Zlong}
use Rattle.mspec.proofs.ComputedNumbers.{computes}

-- $JUSTIFY of a text by width and places
abbrev justified : List ℕ → ℤ → ℤ → Option (Result (List ℕ) Code)
justified x width places = option_map (λ u. justify_number u width places) (numeric_value significant_digits x)

abbrev gives : List ℕ → Option (Result (List ℕ) Code)
gives text = Some (Ok text)

record Justified : Type 0 where
  zero_before_the_point : justified (codes "-.5") (pos 8) (pos 2) ≡ gives (codes "   -0.50")
  -- ties go away from zero, at both signs and wherever the last place is
  tie : justified (codes ".5") (pos 2) (pos 0) ≡ gives (codes " 1")
  tie_below_zero : justified (codes "-.5") (pos 3) (pos 0) ≡ gives (codes " -1")
  tie_to_odd : justified (codes "2.5") (pos 0) (pos 0) ≡ gives (codes "3")
  tie_behind_the_point : justified (codes ".005") (pos 1) (pos 2) ≡ gives (codes "0.01")
  tie_behind_the_point_below_zero : justified (codes "-.005") (pos 8) (pos 2) ≡ gives (codes "   -0.01")
  below_the_tie : justified (codes "2.4999") (pos 0) (pos 0) ≡ gives (codes "2")
  -- what is rounded to 0 has no sign
  no_minus_zero : justified (codes "-.4") (pos 3) (pos 0) ≡ gives (codes "  0")
  no_minus_zero_with_places : justified (codes "-.004") (pos 8) (pos 2) ≡ gives (codes "    0.00")
  zero_s_text : justified (codes "abc") (pos 8) (pos 2) ≡ gives (codes "    0.00")
  -- digits before the point may come of rounding
  carried : justified (codes ".999") (pos 3) (pos 2) ≡ gives (codes "1.00")
  carried_past_the_width : justified (codes "99.995") (pos 3) (pos 2) ≡ gives (codes "100.00")
  -- a width that is too small, or below zero, adds nothing and cuts nothing
  not_cut : justified (codes "123.456") (pos 0) (pos 2) ≡ gives (codes "123.46")
  below_zero : justified (codes "123.456") (negsuc 4) (pos 2) ≡ gives (codes "123.46")
  -- the largest and the smallest
  largest : justified (codes "999999999999999999") (pos 3) (pos 2) ≡ gives (codes "999999999999999999.00")
  smallest : justified (codes ".000000000000000001") (pos 3) (pos 18) ≡ gives (codes "0.000000000000000001")
  places_past_the_unit : justified (codes ".000000000000000001") (pos 3) (pos 20) ≡ gives (codes "0.00000000000000000100")
  -- fewer places than none
  refused : justified (codes "1") (pos 5) (negsuc 0) ≡ Some (Err Zarg)
  too_long : justified (codes "1") (pos 4096) (pos 2) ≡ Some (Err Zlong)

justified_examples : Justified
unfolding computes fixed_text rounded_to
justified_examples = search rules

-- $FNUMBER of a text by a format, and with places
abbrev formed : List ℕ → List ℕ → Option (Result (List ℕ) Code)
formed x format = option_map (λ u. format_number u format None) (numeric_value significant_digits x)

abbrev formed_to : List ℕ → List ℕ → ℤ → Option (Result (List ℕ) Code)
formed_to x format places = option_map (λ u. format_number u format (Some places)) (numeric_value significant_digits x)

record Formed : Type 0 where
  -- commas
  millions : formed (codes "1234567.891") (codes ",") ≡ gives (codes "1,234,567.891")
  hundreds : formed (codes "-123") (codes ",") ≡ gives (codes "-123")
  a_thousand : formed (codes "1000") (codes ",+") ≡ gives (codes "+1,000")
  eighteen_digits : formed (codes "123456789012345678") (codes ",") ≡ gives (codes "123,456,789,012,345,678")
  none_behind_the_point : formed (codes "-.1234") (codes ",") ≡ gives (codes "-.1234")
  -- signs
  plus : formed (codes "5") (codes "+") ≡ gives (codes "+5")
  plus_below_zero : formed (codes "-5") (codes "+") ≡ gives (codes "-5")
  plus_at_zero : formed (codes "0") (codes "+") ≡ gives (codes "0")
  no_minus : formed (codes "-5") (codes "-") ≡ gives (codes "5")
  plus_and_no_minus : formed (codes "-5") (codes "+-") ≡ gives (codes "5")
  behind : formed (codes "-5") (codes "T") ≡ gives (codes "5-")
  space_behind : formed (codes "5") (codes "t") ≡ gives (codes "5 ")
  plus_behind : formed (codes "5") (codes "T+") ≡ gives (codes "5+")
  no_minus_behind : formed (codes "-5") (codes "T-") ≡ gives (codes "5 ")
  brackets : formed (codes "-5000") (codes "P,") ≡ gives (codes "(5,000)")
  spaces_for_brackets : formed (codes "5") (codes "p") ≡ gives (codes " 5 ")
  spaces_at_zero : formed (codes "-0") (codes "P") ≡ gives (codes " 0 ")
  canonical : formed (codes "-00.50") (codes "") ≡ gives (codes "-.5")
  -- with places
  rounded : formed_to (codes "-1234567.895") (codes ",") (pos 2) ≡ gives (codes "-1,234,567.90")
  rounded_up_to_a_comma : formed_to (codes "999999.5") (codes ",") (pos 0) ≡ gives (codes "1,000,000")
  zero_before_the_point : formed_to (codes "-.5") (codes "P") (pos 2) ≡ gives (codes "(0.50)")
  all_places : formed_to (codes "1234.5678") (codes ",") (pos 8) ≡ gives (codes "1,234.56780000")
  -- the sign is that of what was rounded
  no_minus_zero : formed_to (codes "-.4") (codes "P") (pos 0) ≡ gives (codes " 0 ")
  no_plus_zero : formed_to (codes ".4") (codes "T+") (pos 0) ≡ gives (codes "0 ")
  -- refused: brackets with a sign, a character that is no letter of a format first, and fewer places than none before both
  brackets_and_plus : formed (codes "5") (codes "P+") ≡ Some (Err M2)
  brackets_and_no_minus : formed (codes "-5") (codes "-p") ≡ Some (Err M2)
  brackets_and_behind : formed (codes "5") (codes "TP") ≡ Some (Err M2)
  no_letter : formed (codes "5") (codes "P+x") ≡ Some (Err Zarg)
  no_space : formed (codes "5") (codes ", ") ≡ Some (Err Zarg)
  below_no_places : formed_to (codes "5") (codes "P+") (negsuc 0) ≡ Some (Err Zarg)

formed_examples : Formed
unfolding computes fixed_text rounded_to grouped
formed_examples = search rules
