-- SPDX-License-Identifier: Apache-2.0
-- The definition of pattern match on examples.
use Rattle.mspec.proofs.SpecWords.{◌≡◌, ◌+◌, ℕ, zero, suc, List, [], ◌∷◌, refl, ap, sym, subst, get_or, arith, true, if◌then◌else◌, rules, codes, Some, None}
use Rattle.mspec.specs.Pattern.{PatternCode, letter, control, upper, numeral, everything, lower, punctuation, Atom, members, copies, is_in, is_in_any, Matches}

-- 2U1"-"1.N
two_letters_a_dash_and_digits : List Atom
two_letters_a_dash_and_digits =
    record { count = record { least = 2; most = Some 2 }; repeated = members (upper ∷ []) }
    ∷ record { count = record { least = 1; most = Some 1 }; repeated = copies (codes "-") }
    ∷ record { count = record { least = 1; most = None }; repeated = members (numeral ∷ []) }
    ∷ []

cut_in_three : Matches two_letters_a_dash_and_digits (codes "AB-12")
unfolding two_letters_a_dash_and_digits
cut_in_three = (
  codes "AB",
  codes "-12",
  refl,
  ((refl, (refl, tt)), (omega arith, omega arith)),
  (
    codes "-",
    codes "12",
    refl,
    (1, (omega arith, omega arith), refl),
    (codes "12", [], refl, ((refl, (refl, tt)), (omega arith, tt)), refl),
  ),
)

-- .E
anything : List Atom
anything = record { count = record { least = 0; most = None }; repeated = members (everything ∷ []) } ∷ []

nothing_of_any : Matches anything []
unfolding anything
nothing_of_any = ([], [], refl, (tt, (omega arith, tt)), refl)

-- 1U
an_upper_letter : List Atom
an_upper_letter = record { count = record { least = 1; most = Some 1 }; repeated = members (upper ∷ []) } ∷ []

no_small_letter : Matches an_upper_letter (codes "a") → ⊥
unfolding an_upper_letter
no_small_letter ([], rest, joined, segment, none) = absurd (omega (arith, segment.1.0))
no_small_letter (c ∷ cs, rest, joined, segment, none) =
    let first : 97 ≡ c = ap (λ s. get_or s 0 0) joined in
    let is : is_in_any (upper ∷ []) 97 ≡ true = subst (λ x. is_in_any (upper ∷ []) x ≡ true) (sym first) segment.0.0 in
    cc

-- 3.1A
three_to_one_letters : List Atom
three_to_one_letters = record { count = record { least = 3; most = Some 1 }; repeated = members (letter ∷ []) } ∷ []

nothing_is_between : (text : List ℕ) → Matches three_to_one_letters text → ⊥
unfolding three_to_one_letters
nothing_is_between text (front, rest, joined, segment, none) = omega (arith, segment.1.0, segment.1.1)

-- 4LN
small_letters_and_digits : List Atom
small_letters_and_digits = record { count = record { least = 4; most = Some 4 }; repeated = members (lower ∷ numeral ∷ []) } ∷ []

any_of_the_codes : Matches small_letters_and_digits (codes "1a2b")
unfolding small_letters_and_digits
any_of_the_codes = (codes "1a2b", [], refl, ((refl, (refl, (refl, (refl, tt)))), (omega arith, omega arith)), refl)

-- 2"xy"
two_copies : List Atom
two_copies = record { count = record { least = 2; most = Some 2 }; repeated = copies (codes "xy") } ∷ []

copies_of_the_whole_string : Matches two_copies (codes "xyxy")
unfolding two_copies
copies_of_the_whole_string = (codes "xyxy", [], refl, (2, (omega arith, omega arith), refl), refl)

-- how many of the characters below n a class has
abbrev members_below : PatternCode → ℕ → ℕ
members_below code zero = 0
members_below code (suc n) = members_below code n + (if is_in code n then 1 else 0)

record MembersCounted : Type 0 where
  letters_are_52 : members_below letter 256 ≡ 52
  controls_are_33 : members_below control 256 ≡ 33
  all_are_128 : members_below everything 256 ≡ 128
  lower_letters_are_26 : members_below lower 256 ≡ 26
  digits_are_10 : members_below numeral 256 ≡ 10
  others_are_33 : members_below punctuation 256 ≡ 33
  upper_letters_are_26 : members_below upper 256 ≡ 26

members_counted : MembersCounted
members_counted = search rules
