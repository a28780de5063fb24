-- SPDX-License-Identifier: Apache-2.0
-- The text of a number has the canonical form, and no two literals of that form have one value.
use Rattle.mspec.proofs.SpecWords.{ℕ, zero, suc, ◌≡◌, ◌≢◌, ◌+◌, ◌-◌, ◌*◌, ◌/◌, ◌%◌, ◌^◌, ◌<◌, ◌≤◌, true, false, Option, Some, None, List, [], ◌∷◌, ◌++◌, length}
use Rattle.mspec.proofs.SpecWords.{get_or, All, refl, sym, ◌∙◌, ap, subst, arith, inl, inr, ⊎_elim, append_assoc, length-append, pos, negsuc, decimal}
use Rattle.mspec.proofs.SpecWords.{same_from_place, mod_below, div-add-mod', mul-le-mul_right, cases_lt, nat_tests, append-nil, append_cancel_right}
use Rattle.mspec.proofs.SpecWords.{length-replicate, replicate-append-replicate, All-nil, All-head, All-tail, All-append, All-replicate, fold-append}
use Rattle.mspec.proofs.SpecWords.{first_decimal, decimal_nonempty, with_digit, digits_after, Literal, spell_fraction, spell_exponent, spell_literal}
use Rattle.mspec.proofs.SpecWords.{IsMantissa, fraction_of, raised_by, lowered_by, numerator, denominator, fraction_text, whole_text, point_text, size_text}
use Rattle.mspec.proofs.SpecWords.{NoZeroInFront, NoZeroAtEnd, IsPlain, HasCanonicalForm, TextHasCanonicalForm, PlainLiteralIsUnique, replicate}
use Rattle.mspec.proofs.Powers.{ten_pos, ten_monotone}
use Rattle.mspec.proofs.TextLaws.{Digit, ten_more, whole_some, point_some, size_some, whole_all, fraction_all, fraction_some, size_parts}

-- a list whose first element is above that of 0 begins with no 0
above_zero : (xs : List ℕ) → 48 < get_or xs 0 0 → NoZeroInFront xs
above_zero [] h = tt
above_zero (x ∷ xs) h = λ e. absurd (omega arith)

-- what `whole_text` writes begins with no 0
pub whole_front : (n : ℕ) → n < 2 ^ 64 → NoZeroInFront (whole_text n)
whole_front zero below = tt
whole_front (suc n) below =
    subst NoZeroInFront (sym (whole_some (suc n) (omega arith))) (above_zero (decimal (suc n)) (first_decimal (suc n) (omega arith) below))

-- a fraction that is written with no digit is 0
fraction_none : (k n : ℕ) → n < 10 ^ k → fraction_text k n ≡ [] → n ≡ 0
fraction_none zero n below e = omega arith
fraction_none (suc k) zero below e = refl
fraction_none (suc k) (suc n) below e =
    let some : fraction_text (suc k) (suc n) ≡ (48 + suc n / 10 ^ k) ∷ fraction_text k (suc n % 10 ^ k) = fraction_some k (suc n) (omega arith) in
    cc

-- digits end in no 0 if those after the first do not, and the first is not 0 alone
end_of_rest : (d : ℕ) (xs : List ℕ) → NoZeroAtEnd xs → (xs ≡ [] → d ≢ 48) → NoZeroAtEnd (d ∷ xs)
end_of_rest d xs rest alone [] e =
    let none : xs ≡ [] = cc in
    let zero_digit : d ≡ 48 = cc in
    alone none zero_digit
end_of_rest d xs rest alone (x ∷ front) e =
    let same : xs ≡ front ++ (48 ∷ []) = cc in
    rest front same

-- no digit ends in no 0
end_of_none : NoZeroAtEnd []
end_of_none [] e = cc
end_of_none (x ∷ front) e = cc

-- a number without a quotient and without a rest is 0
parts_zero : (n m : ℕ) → n / m ≡ 0 → n % m ≡ 0 → n ≡ 0
parts_zero n m high low = sym (div-add-mod' n m) ∙ ap (λ q. q * m + n % m) high ∙ omega arith

-- what `fraction_text` writes ends in no 0
fraction_end : (k n : ℕ) → n < 10 ^ k → NoZeroAtEnd (fraction_text k n)
fraction_end zero n below = end_of_none
fraction_end (suc k) zero below = end_of_none
fraction_end (suc k) (suc n) below =
    subst NoZeroAtEnd (sym (fraction_some k (suc n) (omega arith)))
    (end_of_rest (48 + suc n / 10 ^ k) (fraction_text k (suc n % 10 ^ k)) (fraction_end k (suc n % 10 ^ k) rest_below)
    (λ none is_48. let low : suc n % 10 ^ k ≡ 0 = fraction_none k (suc n % 10 ^ k) rest_below none in
    let high : suc n / 10 ^ k ≡ 0 = omega arith in
    let all : suc n ≡ 0 = parts_zero (suc n) (10 ^ k) high low in
    absurd (omega arith)))
  where
    rest_below : suc n % 10 ^ k < 10 ^ k
    rest_below = mod_below (suc n) (10 ^ k) (ten_pos k)

-- the number of digits after those of a is a, moved by their length, and the number of the digits alone
digits_split : (a : ℕ) (xs : List ℕ) → digits_after a xs ≡ a * 10 ^ length xs + digits_after 0 xs
digits_split a [] = omega arith
digits_split a (x ∷ xs) =
    one_more a (x - 48) (digits_after 0 xs) (10 ^ length xs) (10 ^ suc (length xs)) _ _ (ten_more (length xs)) (digits_split (with_digit a x) xs) (digits_split (with_digit 0 x) xs)
  where
    one_more : (a d r t more after alone : ℕ) → more ≡ t * 10 → after ≡ (a * 10 + d) * t + r → alone ≡ (0 * 10 + d) * t + r → after ≡ a * more + alone
    one_more a d r t more after alone h e f = omega (arith, ap (λ x. a * x) h)

-- the number of digits is that of the first, moved, and that of the others
first_split : (x : ℕ) (xs : List ℕ) → digits_after 0 (x ∷ xs) ≡ (x - 48) * 10 ^ length xs + digits_after 0 xs
first_split x xs = digits_split (with_digit 0 x) xs ∙ ap (λ d. d * 10 ^ length xs + digits_after 0 xs) (plain (x - 48))
  where
    plain : (d : ℕ) → 0 * 10 + d ≡ d
    plain d = omega arith

-- a digit is a byte from 48 to 57
digit_range : (c : ℕ) → Digit c → (48 ≤ c) × (c ≤ 57)
digit_range c h = (grind (arith, nat_tests), grind (arith, nat_tests))

-- digits write a number below a power of ten
pub digits_below : (xs : List ℕ) → All Digit xs → digits_after 0 xs < 10 ^ length xs
digits_below [] all = omega arith
digits_below (x ∷ xs) all =
    let range = digit_range x (All-head Digit x xs all) in
    one_more (x - 48) (digits_after 0 xs) (10 ^ length xs) _ _ (omega arith) (digits_below xs (All-tail Digit x xs all)) (ten_more (length xs)) (first_split x xs)
  where
    one_more : (d r t more after : ℕ) → d ≤ 9 → r < t → more ≡ t * 10 → after ≡ d * t + r → after < more
    one_more d r t more after few below h e = omega (arith, mul-le-mul_right t few)

-- digits of one length and one number are the same
same_digits : (xs ys : List ℕ) → All Digit xs → All Digit ys → length xs ≡ length ys → digits_after 0 xs ≡ digits_after 0 ys → xs ≡ ys
same_digits [] [] all_xs all_ys long e = refl
same_digits [] (y ∷ ys) all_xs all_ys long e = absurd (omega arith)
same_digits (x ∷ xs) [] all_xs all_ys long e = absurd (omega arith)
same_digits (x ∷ xs) (y ∷ ys) all_xs all_ys long e =
    let rest_xs : All Digit xs = All-tail Digit x xs all_xs in
    let rest_ys : All Digit ys = All-tail Digit y ys all_ys in
    let range_x = digit_range x (All-head Digit x xs all_xs) in
    let range_y = digit_range y (All-head Digit y ys all_ys) in
    let rest_long : length xs ≡ length ys = omega arith in
    let power : 10 ^ length ys ≡ 10 ^ length xs = ap (λ n. 10 ^ n) (sym rest_long) in
    let below_y : digits_after 0 ys < 10 ^ length xs = subst (λ (n : ℕ). digits_after 0 ys < n) power (digits_below ys rest_ys) in
    let both : (x - 48) * 10 ^ length xs + digits_after 0 xs ≡ (y - 48) * 10 ^ length xs + digits_after 0 ys =
    sym (first_split x xs) ∙ e ∙ first_split y ys ∙ ap (λ n. (y - 48) * n + digits_after 0 ys) power in
    let parts = same_from_place (x - 48) (digits_after 0 xs) (y - 48) (digits_after 0 ys) (10 ^ length xs) (digits_below xs rest_xs) below_y both in
    let first : x ≡ y = omega arith in
    let rest : xs ≡ ys = same_digits xs ys rest_xs rest_ys rest_long parts.1 in
    cc

-- digits with no 0 in front write at least a power of ten
pub digits_least : (x : ℕ) (xs : List ℕ) → Digit x → x ≢ 48 → 10 ^ length xs ≤ digits_after 0 (x ∷ xs)
digits_least x xs digit front =
    let range = digit_range x digit in
    let some : 1 ≤ x - 48 = omega arith in
    omega (arith, first_split x xs, mul-le-mul_right (10 ^ length xs) some)

-- digits with no 0 in front are no longer than others of the same number
no_longer : (xs ys : List ℕ) → All Digit xs → All Digit ys → NoZeroInFront xs → digits_after 0 xs ≡ digits_after 0 ys → length xs ≤ length ys
no_longer [] ys all_xs all_ys front e = omega arith
no_longer (x ∷ xs) ys all_xs all_ys front e =
    let least : 10 ^ length xs ≤ digits_after 0 (x ∷ xs) = digits_least x xs (All-head Digit x xs all_xs) front in
    let below : digits_after 0 ys < 10 ^ length ys = digits_below ys all_ys in
    ⊎_elim
    (λ (less : length xs < length ys). let long : length (x ∷ xs) ≤ length ys = omega arith in long)
    (λ (more : length ys ≤ length xs). absurd (omega (arith, ten_monotone (length ys) (length xs) 1 more)))
    (cases_lt (length xs) (length ys))

-- digits with no 0 in front are determined by their number
pub same_whole : (xs ys : List ℕ) → All Digit xs → All Digit ys → NoZeroInFront xs → NoZeroInFront ys → digits_after 0 xs ≡ digits_after 0 ys → xs ≡ ys
same_whole xs ys all_xs all_ys front_xs front_ys e =
    let most : length xs ≤ length ys = no_longer xs ys all_xs all_ys front_xs e in
    let least : length ys ≤ length xs = no_longer ys xs all_ys all_xs front_ys (sym e) in
    same_digits xs ys all_xs all_ys (omega arith) e

-- this many digits 0
abbrev zeros : ℕ → List ℕ
zeros m = replicate m 48

-- zeros after a number multiply it by a power of ten
zeros_value : (m a : ℕ) → digits_after a (zeros m) ≡ a * 10 ^ m
zeros_value zero a = omega arith
zeros_value (suc m) a = zeros_value m (with_digit a 48) ∙ one_more a (10 ^ m) ∙ ap (λ x. a * x) (sym (ten_more m))
  where
    one_more : (a t : ℕ) → (a * 10 + 0) * t ≡ a * (t * 10)
    one_more a t = omega arith

-- the last of some zeros is one
zeros_end : (m : ℕ) → zeros (m + 1) ≡ zeros m ++ (48 ∷ [])
zeros_end m = sym (replicate-append-replicate m 1 48)

-- digits that end in no 0 are others with zeros after them only if there are none
none_behind : (n : ℕ) (xs ys : List ℕ) → NoZeroAtEnd xs → xs ≡ ys ++ zeros n → xs ≡ ys
none_behind zero xs ys end e = e ∙ append-nil ys
none_behind (suc n) xs ys end e =
    let last : suc n ≡ n + 1 = omega arith in
    absurd (end (ys ++ zeros n) (e ∙ ap (λ m. ys ++ zeros m) last ∙ ap (λ t. ys ++ t) (zeros_end n) ∙ sym (append_assoc ys (zeros n) (48 ∷ []))))

-- the same if fewer zeros come after the digits too
fewer_behind : (m n : ℕ) (xs ys : List ℕ) → m ≤ n → NoZeroAtEnd xs → xs ++ zeros m ≡ ys ++ zeros n → xs ≡ ys
fewer_behind m n xs ys h end e =
    let back : n ≡ n - m + m = omega arith in
    none_behind (n - m) xs ys end
    (append_cancel_right xs (ys ++ zeros (n - m)) (zeros m)
    (e ∙ ap (λ k. ys ++ zeros k) back ∙ ap (λ t. ys ++ t) (sym (replicate-append-replicate (n - m) m 48)) ∙ sym (append_assoc ys (zeros (n - m)) (zeros m))))

-- digits that end in no 0 are determined up to zeros after them
same_ends : (m n : ℕ) (xs ys : List ℕ) → NoZeroAtEnd xs → NoZeroAtEnd ys → xs ++ zeros m ≡ ys ++ zeros n → xs ≡ ys
same_ends m n xs ys end_xs end_ys e =
    ⊎_elim
    (λ (less : m < n). fewer_behind m n xs ys (omega arith) end_xs e)
    (λ (more : n ≤ m). sym (fewer_behind n m ys xs more end_ys (sym e)))
    (cases_lt m n)

-- the whole part, moved, and the fraction with zeros after it are the digits times a power of ten
moved_digits : (w f : List ℕ) (m : ℕ) → digits_after 0 w * 10 ^ length (f ++ zeros m) + digits_after 0 (f ++ zeros m) ≡ digits_after 0 (w ++ f) * 10 ^ m
moved_digits w f m =
    sym (digits_split (digits_after 0 w) (f ++ zeros m))
    ∙ sym (fold-append with_digit 0 w (f ++ zeros m))
    ∙ ap (digits_after 0) (sym (append_assoc w f (zeros m)))
    ∙ fold-append with_digit 0 (w ++ f) (zeros m)
    ∙ zeros_value m (digits_after 0 (w ++ f))

-- how long digits are with as many zeros after them
padded_length : (xs : List ℕ) (m : ℕ) → length (xs ++ zeros m) ≡ length xs + m
padded_length xs m = length-append xs (zeros m) ∙ ap (λ k. length xs + k) (length-replicate m 48)

-- digits with zeros after them are digits
padded_all : (xs : List ℕ) (m : ℕ) → All Digit xs → All Digit (xs ++ zeros m)
padded_all xs m all = All-append Digit xs (zeros m) all (All-replicate Digit m 48 refl)

-- the digits of a literal without an exponent, before the point and after it
record PlainDigits (w f : List ℕ) : Type 0 where
  all_whole : All Digit w
  all_fraction : All Digit f
  front : NoZeroInFront w
  end : NoZeroAtEnd f

-- such digits are determined by their value
same_plain : (v f w g : List ℕ) → PlainDigits v f → PlainDigits w g → digits_after 0 (v ++ f) * 10 ^ length g ≡ digits_after 0 (w ++ g) * 10 ^ length f → (v ≡ w) × (f ≡ g)
same_plain v f w g is_v is_w e =
    let F : List ℕ = f ++ zeros (length g) in
    let G : List ℕ = g ++ zeros (length f) in
    let all_F : All Digit F = padded_all f (length g) is_v.all_fraction in
    let all_G : All Digit G = padded_all g (length f) is_w.all_fraction in
    let long : length F ≡ length G = omega (arith, padded_length f (length g), padded_length g (length f)) in
    let power : 10 ^ length G ≡ 10 ^ length F = ap (λ n. 10 ^ n) (sym long) in
    let below_G : digits_after 0 G < 10 ^ length F = subst (λ (n : ℕ). digits_after 0 G < n) power (digits_below G all_G) in
    let both : digits_after 0 v * 10 ^ length F + digits_after 0 F ≡ digits_after 0 w * 10 ^ length F + digits_after 0 G =
    moved_digits v f (length g) ∙ e ∙ sym (moved_digits w g (length f)) ∙ ap (λ n. digits_after 0 w * n + digits_after 0 G) power in
    let parts = same_from_place (digits_after 0 v) (digits_after 0 F) (digits_after 0 w) (digits_after 0 G) (10 ^ length F) (digits_below F all_F) below_G both in
    (same_whole v w is_v.all_whole is_w.all_whole is_v.front is_w.front parts.0, same_ends (length g) (length f) f g is_v.end is_w.end (same_digits F G all_F all_G long parts.1))

-- the digits of a mantissa are digits
mantissa_digits : (w : List ℕ) (f : Option (List ℕ)) → IsMantissa w f → All Digit w × All Digit (fraction_of f)
mantissa_digits w None is = (is.each, All-nil Digit)
mantissa_digits w (Some f) is = (is.0, is.1.each)

-- the digits of a literal of the canonical form
plain_digits : (l : Literal) → IsPlain l → PlainDigits l.whole (fraction_of l.fraction)
plain_digits l is =
    let all = mantissa_digits l.whole l.fraction is.literal.mantissa in
    record { all_whole = all.0; all_fraction = all.1; front = is.whole; end = is.fraction }

-- a fraction is spelled alike if its digits are
same_fraction : (v w : List ℕ) (f g : Option (List ℕ)) → IsMantissa v f → IsMantissa w g → fraction_of f ≡ fraction_of g → spell_fraction f ≡ spell_fraction g
same_fraction v w None None is_f is_g e = refl
same_fraction v w None (Some g) is_f is_g e = absurd (is_g.1.some (sym e))
same_fraction v w (Some f) None is_f is_g e = absurd (is_f.1.some e)
same_fraction v w (Some f) (Some g) is_f is_g e = ap (λ t. 46 ∷ t) e

-- the value of a literal without an exponent
plain_value : (l : Literal) → l.exponent ≡ None → (numerator l ≡ digits_after 0 (l.whole ++ fraction_of l.fraction)) × (denominator l ≡ 10 ^ length (fraction_of l.fraction))
plain_value l none = (
  ap (λ e. digits_after 0 (l.whole ++ fraction_of l.fraction) * 10 ^ raised_by e) none ∙ one (digits_after 0 (l.whole ++ fraction_of l.fraction)),
  ap (λ e. 10 ^ (length (fraction_of l.fraction) + lowered_by e)) none ∙ ap (λ n. 10 ^ n) (nothing (length (fraction_of l.fraction))),
)
  where
    one : (n : ℕ) → n * 10 ^ 0 ≡ n
    one n = omega arith

    nothing : (n : ℕ) → n + 0 ≡ n
    nothing n = omega arith

-- a literal without an exponent is spelled by its digits
plain_spelling : (l : Literal) → l.exponent ≡ None → spell_literal l ≡ l.whole ++ spell_fraction l.fraction
plain_spelling l none = ap (λ e. l.whole ++ (spell_fraction l.fraction ++ spell_exponent e)) none ∙ ap (λ t. l.whole ++ t) (append-nil (spell_fraction l.fraction))

-- no two literals of the canonical form have one value
pub plain_literal_is_unique : PlainLiteralIsUnique
plain_literal_is_unique k l is_k is_l e =
    let value_k = plain_value k is_k.no_exponent in
    let value_l = plain_value l is_l.no_exponent in
    let f : List ℕ = fraction_of k.fraction in
    let g : List ℕ = fraction_of l.fraction in
    let crossed : digits_after 0 (k.whole ++ f) * 10 ^ length g ≡ digits_after 0 (l.whole ++ g) * 10 ^ length f =
    ap (λ n. n * 10 ^ length g) (sym value_k.0) ∙ ap (λ n. numerator k * n) (sym value_l.1) ∙ e ∙ ap (λ n. numerator l * n) value_k.1 ∙ ap (λ n. n * 10 ^ length f) value_l.0 in
    let same = same_plain k.whole f l.whole g (plain_digits k is_k) (plain_digits l is_l) crossed in
    plain_spelling k is_k.no_exponent
    ∙ ap (λ t. t ++ spell_fraction k.fraction) same.0
    ∙ ap (λ t. l.whole ++ t) (same_fraction k.whole l.whole k.fraction l.fraction is_k.literal.mantissa is_l.literal.mantissa same.1)
    ∙ sym (plain_spelling l is_l.no_exponent)

-- the fraction that is written, none for 0
abbrev written_fraction : ℕ → Option (List ℕ)
written_fraction zero = None
written_fraction (suc f) = Some (fraction_text 18 (suc f))

-- the literal that is written of w + f / 10 ^ 18
abbrev written_literal : ℕ → ℕ → Literal
written_literal w f = record { whole = whole_text w; fraction = written_fraction f; exponent = None }

-- how its fraction is spelled
written_spelling : (f : ℕ) → point_text f ≡ spell_fraction (written_fraction f)
written_spelling zero = refl
written_spelling (suc f) = point_some (suc f) (omega arith)

-- it ends in no 0
written_end : (f : ℕ) → f < 10 ^ 18 → NoZeroAtEnd (fraction_of (written_fraction f))
written_end zero below = end_of_none
written_end (suc f) below = fraction_end 18 (suc f) below

-- the digits before the point of a number from 1 on are some
whole_nonempty : (n : ℕ) → 0 < n → n < 2 ^ 64 → whole_text n ≢ []
whole_nonempty n some below e =
    let first : 0 < length (decimal n) = decimal_nonempty n below in
    let none : length (decimal n) ≡ 0 = ap length (sym (whole_some n some) ∙ e) in
    omega arith

-- the digits that are written are a mantissa
written_mantissa : (w f : ℕ) → w < 2 ^ 64 → f < 10 ^ 18 → 0 < w + f → IsMantissa (whole_text w) (written_fraction f)
written_mantissa w zero below_w below_f some = record { some = whole_nonempty w (omega arith) below_w; each = whole_all w below_w }
written_mantissa w (suc f) below_w below_f some = (
  whole_all w below_w,
  record { some = λ e. let none : suc f ≡ 0 = fraction_none 18 (suc f) below_f e in absurd (omega arith); each = fraction_all 18 (suc f) below_f },
)

-- the literal that is written has the canonical form
written_plain : (w f : ℕ) → w < 2 ^ 64 → f < 10 ^ 18 → 0 < w + f → IsPlain (written_literal w f)
written_plain w f below_w below_f some = record {
  literal = record { mantissa = written_mantissa w f below_w below_f some; exponent = tt };
  whole = whole_front w below_w;
  fraction = written_end f below_f;
  no_exponent = refl;
}

-- the text of a size from 1 on is the spelling of a literal of the canonical form
size_form : (n : ℕ) → 0 < n → n < 10 ^ 36 → (l : Literal) × IsPlain l × (size_text n ≡ spell_literal l)
size_form n some below =
    let parts = size_parts n below in
    let l : Literal = written_literal (n / 10 ^ 18) (n % 10 ^ 18) in (
      l,
      written_plain (n / 10 ^ 18) (n % 10 ^ 18) parts.0 parts.1 (omega arith),
      size_some n some ∙ ap (λ t. whole_text (n / 10 ^ 18) ++ t) (written_spelling (n % 10 ^ 18)) ∙ sym (plain_spelling l refl),
    )

-- the text of a size has the canonical form
size_has_form : (n : ℕ) → n < 10 ^ 36 → HasCanonicalForm (size_text n)
unfolding size_text
size_has_form zero below = inl refl
size_has_form (suc n) below = let form = size_form (suc n) (omega arith) below in inr (false, form.0, form.1, form.2)

-- the text of a number has the canonical form
pub text_has_canonical_form : TextHasCanonicalForm
text_has_canonical_form kept (pos n) number = size_has_form n number.in_range
text_has_canonical_form kept (negsuc n) number =
    let form = size_form (suc n) (omega arith) number.in_range in
    inr (true, form.0, form.1, ap (λ t. 45 ∷ t) form.2)
