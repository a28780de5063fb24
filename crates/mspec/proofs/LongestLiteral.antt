-- SPDX-License-Identifier: Apache-2.0
-- The literal that a text begins with, and that it is the longest.
use Rattle.mspec.proofs.SpecWords.{ℕ, suc, ◌≡◌, ◌≢◌, ◌+◌, ◌*◌, ◌^◌, ◌≤◌, ◌⊎◌, Bool, true, false, cond, eqb, Option, Some, None, List, [], ◌∷◌, ◌++◌, drop}
use Rattle.mspec.proofs.SpecWords.{length, refl, sym, ◌∙◌, ap, subst, arith, inl, inr, ⊎_elim, append_assoc, take-append-drop, length-append, drop-append_seam}
use Rattle.mspec.proofs.SpecWords.{eqb-true, nat_tests, take_while-cons, All-nil, All-cons, All-head, All-tail, prefix_len, round_size, is_digit, digits_after}
use Rattle.mspec.proofs.SpecWords.{ExponentSign, Unsigned, Plus, Minus, Exponent, Literal, spell_sign, spell_fraction, spell_exponent, spell_literal, IsDigits}
use Rattle.mspec.proofs.SpecWords.{IsFraction, IsExponent, IsMantissa, IsLiteral, raise, fraction_of, raised_by, lowered_by, numerator, denominator}
use Rattle.mspec.proofs.SpecWords.{front_digits, after_digits, fraction_digits, after_fraction, signed_digits, front_exponent, literal_size, BeginsWith}
use Rattle.mspec.proofs.SpecWords.{ReadsLongestLiteral, append-nil, All}
use Rattle.std.proofs.Math.Dec.{eqb-suc-zero}
use Rattle.mspec.specs.Literal.{lower}
use Rattle.mspec.proofs.Powers.{ten_pos}
use Rattle.mspec.proofs.Rounding.{round_zero}

abbrev IsDigit : ℕ → Type 0
IsDigit c = is_digit c ≡ true

abbrev AreDigits : List ℕ → Type 0
AreDigits digits = All IsDigit digits

-- the digits of a text and the text after them are the text
split_text : (s : List ℕ) → front_digits s ++ after_digits s ≡ s
split_text s = take-append-drop (prefix_len is_digit s) s

-- what is dropped if one more element passes
drop_one_more : (b : Bool) (n c : ℕ) (s : List ℕ) → drop (cond b (1 + n) 0) (c ∷ s) ≡ cond b (drop n s) (c ∷ s)
drop_one_more true n c s = let e : 1 + n ≡ suc n = omega arith in ap (λ k. drop k (c ∷ s)) e
drop_one_more false n c s = refl

-- the text after the digits, one element on
after_digits-cons : (c : ℕ) (s : List ℕ) → after_digits (c ∷ s) ≡ cond (is_digit c) (after_digits s) (c ∷ s)
after_digits-cons c s = drop_one_more (is_digit c) (prefix_len is_digit s) c s

-- one more digit, or none
more_digits : (b : Bool) (c : ℕ) (digits : List ℕ) → is_digit c ≡ b → AreDigits digits → AreDigits (cond b (c ∷ digits) [])
more_digits true c digits is each = All-cons IsDigit c digits is each
more_digits false c digits is each = All-nil IsDigit

-- the digits in front are digits
front_are_digits : (s : List ℕ) → AreDigits (front_digits s)
front_are_digits [] = All-nil IsDigit
front_are_digits (c ∷ s) = subst AreDigits (sym (take_while-cons is_digit c s)) (more_digits (is_digit c) c (front_digits s) refl (front_are_digits s))

-- digits in front of a text stand before its own
front_digits-append : (digits s : List ℕ) → AreDigits digits → front_digits (digits ++ s) ≡ digits ++ front_digits s
front_digits-append [] s each = refl
front_digits-append (c ∷ digits) s each =
    take_while-cons is_digit c (digits ++ s)
    ∙ ap (λ b. cond b (c ∷ front_digits (digits ++ s)) []) (All-head IsDigit c digits each)
    ∙ ap (λ t. c ∷ t) (front_digits-append digits s (All-tail IsDigit c digits each))

-- digits in front of a text are dropped with its own
after_digits-append : (digits s : List ℕ) → AreDigits digits → after_digits (digits ++ s) ≡ after_digits s
after_digits-append [] s each = refl
after_digits-append (c ∷ digits) s each =
    after_digits-cons c (digits ++ s)
    ∙ ap (λ b. cond b (after_digits (digits ++ s)) (c ∷ (digits ++ s))) (All-head IsDigit c digits each)
    ∙ after_digits-append digits s (All-tail IsDigit c digits each)

-- the exponent of a sign and of digits after it, none if there is no digit
abbrev exponent_with : ExponentSign → List ℕ → Option Exponent
exponent_with sign [] = None
exponent_with sign (c ∷ digits) = Some (record { sign = sign; digits = c ∷ digits })

-- the exponent that a text begins with after its mark
abbrev signed_exponent : List ℕ → Option Exponent
signed_exponent [] = None
signed_exponent (c ∷ s) = cond (eqb c 45) (exponent_with Minus (front_digits s)) (cond (eqb c 43) (exponent_with Plus (front_digits s)) (exponent_with Unsigned (front_digits (c ∷ s))))

-- the exponent that a text begins with
abbrev exponent_at : List ℕ → Option Exponent
exponent_at [] = None
exponent_at (c ∷ s) = cond (eqb c 69) (signed_exponent s) None

-- a fraction of these digits, none if there is no digit
abbrev fraction_with : List ℕ → Option (List ℕ)
fraction_with [] = None
fraction_with (c ∷ digits) = Some (c ∷ digits)

-- the literal that a text begins with, if it begins with one
abbrev literal_at : List ℕ → Literal
literal_at s = record {
  whole = front_digits s;
  fraction = fraction_with (fraction_digits (after_digits s));
  exponent = exponent_at (after_fraction (after_digits s));
}

-- e is an exponent that t begins with, and its sign and its size are p
record ReadsExponent (t : List ℕ) (e : Option Exponent) (p : Bool × ℕ) : Type 0 where
  form : IsExponent e
  spelled : (tail : List ℕ) × (t ≡ spell_exponent e ++ tail)
  raised : raised_by e ≡ cond p.0 0 p.1
  lowered : lowered_by e ≡ cond p.0 p.1 0

abbrev is_minus : ExponentSign → Bool
is_minus Unsigned = false
is_minus Plus = false
is_minus Minus = true

-- no exponent is read as 0
reads_none : (t : List ℕ) → ReadsExponent t None (false, 0)
reads_none t = record { form = tt; spelled = (t, refl); raised = refl; lowered = refl }

-- the power by which a sign raises, in the words of the reading
raise_is : (sign : ExponentSign) (n : ℕ) → raise sign n ≡ cond (is_minus sign) 0 n
raise_is Unsigned n = refl
raise_is Plus n = refl
raise_is Minus n = refl

-- the power by which a sign lowers, in the words of the reading
lower_is : (sign : ExponentSign) (n : ℕ) → lower sign n ≡ cond (is_minus sign) n 0
lower_is Unsigned n = refl
lower_is Plus n = refl
lower_is Minus n = refl

-- a number is both answers of a test if the two are one
same_both : (b : Bool) (n : ℕ) → n ≡ cond b n n
same_both true n = refl
same_both false n = refl

-- the mark, a sign and digits are read as their exponent
reads_with : (sign : ExponentSign) (digits rest t : List ℕ) → AreDigits digits → t ≡ 69 ∷ (spell_sign sign ++ (digits ++ rest)) → ReadsExponent t (exponent_with sign digits) (is_minus sign, digits_after 0 digits)
reads_with sign [] rest t each is = record { form = tt; spelled = (t, refl); raised = same_both (is_minus sign) 0; lowered = same_both (is_minus sign) 0 }
reads_with sign (c ∷ digits) rest t each is = record {
  form = record { some = λ e. cc; each = each };
  spelled = (rest, is ∙ ap (λ x. 69 ∷ x) (sym (append_assoc (spell_sign sign) (c ∷ digits) rest)));
  raised = raise_is sign (digits_after 0 (c ∷ digits));
  lowered = lower_is sign (digits_after 0 (c ∷ digits));
}

-- the same if two tests give the sign
reads_sign : (minus plus : Bool) (c : ℕ) (s : List ℕ) → (minus ≡ true → c ≡ 45) → (plus ≡ true → c ≡ 43) →
    ReadsExponent (69 ∷ (c ∷ s))
    (cond minus (exponent_with Minus (front_digits s)) (cond plus (exponent_with Plus (front_digits s)) (exponent_with Unsigned (front_digits (c ∷ s)))))
    (cond minus (true, digits_after 0 (front_digits s)) (cond plus (false, digits_after 0 (front_digits s)) (false, digits_after 0 (front_digits (c ∷ s)))))
reads_sign true plus c s is_45 is_43 = reads_with Minus (front_digits s) (after_digits s) (69 ∷ (c ∷ s)) (front_are_digits s) (ap (λ x. 69 ∷ (x ∷ s)) (is_45 refl) ∙ ap (λ x. 69 ∷ (45 ∷ x)) (sym (split_text s)))
reads_sign false true c s is_45 is_43 = reads_with Plus (front_digits s) (after_digits s) (69 ∷ (c ∷ s)) (front_are_digits s) (ap (λ x. 69 ∷ (x ∷ s)) (is_43 refl) ∙ ap (λ x. 69 ∷ (43 ∷ x)) (sym (split_text s)))
reads_sign false false c s is_45 is_43 = reads_with Unsigned (front_digits (c ∷ s)) (after_digits (c ∷ s)) (69 ∷ (c ∷ s)) (front_are_digits (c ∷ s)) (ap (λ x. 69 ∷ x) (sym (split_text (c ∷ s))))

-- what comes after the mark is read
reads_signed : (s : List ℕ) → ReadsExponent (69 ∷ s) (signed_exponent s) (signed_digits s)
reads_signed [] = reads_none (69 ∷ [])
reads_signed (c ∷ s) = reads_sign (eqb c 45) (eqb c 43) c s (eqb-true c 45) (eqb-true c 43)

-- the same if a test gives the mark
reads_mark : (mark : Bool) (c : ℕ) (s : List ℕ) → (mark ≡ true → c ≡ 69) → ReadsExponent (c ∷ s) (cond mark (signed_exponent s) None) (cond mark (signed_digits s) (false, 0))
reads_mark true c s is_69 = subst (λ (x : ℕ). ReadsExponent (x ∷ s) (signed_exponent s) (signed_digits s)) (sym (is_69 refl)) (reads_signed s)
reads_mark false c s is_69 = reads_none (c ∷ s)

-- the exponent that a text begins with is read
reads_exponent : (t : List ℕ) → ReadsExponent t (exponent_at t) (front_exponent t)
reads_exponent [] = reads_none []
reads_exponent (c ∷ s) = reads_mark (eqb c 69) c s (eqb-true c 69)

-- more digits make an exponent that is no shorter
with_longest : (sign : ExponentSign) (digits more : List ℕ) → digits ≢ [] → length (69 ∷ (spell_sign sign ++ digits)) ≤ length (spell_exponent (exponent_with sign (digits ++ more)))
with_longest sign [] more some = absurd (some refl)
with_longest sign (c ∷ digits) more some =
    let e : length (69 ∷ (spell_sign sign ++ ((c ∷ digits) ++ more))) ≡ length (69 ∷ (spell_sign sign ++ (c ∷ digits))) + length more =
    ap (λ x. length (69 ∷ x)) (sym (append_assoc (spell_sign sign) (c ∷ digits) more)) ∙ length-append (69 ∷ (spell_sign sign ++ (c ∷ digits))) more in
    omega arith

-- a digit is no minus sign
digit_is_no_minus : (c : ℕ) → is_digit c ≡ true → eqb c 45 ≡ false
digit_is_no_minus c h = grind (arith, nat_tests)

-- a digit is no plus sign
digit_is_no_plus : (c : ℕ) → is_digit c ≡ true → eqb c 43 ≡ false
digit_is_no_plus c h = grind (arith, nat_tests)

-- a digit after the mark begins an exponent without a sign
unsigned_exponent : (c : ℕ) (s : List ℕ) → is_digit c ≡ true → signed_exponent (c ∷ s) ≡ exponent_with Unsigned (front_digits (c ∷ s))
unsigned_exponent c s h =
    ap (λ b. cond b (exponent_with Minus (front_digits s)) (cond (eqb c 43) (exponent_with Plus (front_digits s)) (exponent_with Unsigned (front_digits (c ∷ s))))) (digit_is_no_minus c h)
    ∙ ap (λ b. cond b (exponent_with Plus (front_digits s)) (exponent_with Unsigned (front_digits (c ∷ s)))) (digit_is_no_plus c h)

-- after a sign and digits, the exponent that they begin is read
signed_is : (sign : ExponentSign) (digits rest : List ℕ) → IsDigits digits → signed_exponent ((spell_sign sign ++ digits) ++ rest) ≡ exponent_with sign (digits ++ front_digits rest)
signed_is Minus digits rest is = ap (exponent_with Minus) (front_digits-append digits rest is.each)
signed_is Plus digits rest is = ap (exponent_with Plus) (front_digits-append digits rest is.each)
signed_is Unsigned [] rest is = absurd (is.some refl)
signed_is Unsigned (c ∷ digits) rest is =
    unsigned_exponent c (digits ++ rest) (All-head IsDigit c digits is.each) ∙ ap (exponent_with Unsigned) (front_digits-append (c ∷ digits) rest is.each)

-- no exponent that a text begins with is longer than the one that is read
exponent_longest : (e : Option Exponent) (rest : List ℕ) → IsExponent e → length (spell_exponent e) ≤ length (spell_exponent (exponent_at (spell_exponent e ++ rest)))
exponent_longest None rest is = omega arith
exponent_longest (Some e) rest is =
    subst (λ (x : Option Exponent). length (69 ∷ (spell_sign e.sign ++ e.digits)) ≤ length (spell_exponent x)) (sym (signed_is e.sign e.digits rest is)) (with_longest e.sign e.digits (front_digits rest) is.some)

-- digits stay digits as a fraction
fraction_of_with : (digits : List ℕ) → fraction_of (fraction_with digits) ≡ digits
fraction_of_with [] = refl
fraction_of_with (c ∷ digits) = refl

-- the digits after a point, or none
point_digits : (b : Bool) (s : List ℕ) → AreDigits (cond b (front_digits s) [])
point_digits true s = front_are_digits s
point_digits false s = All-nil IsDigit

-- the digits of a fraction are digits
fraction_are_digits : (t : List ℕ) → AreDigits (fraction_digits t)
fraction_are_digits [] = All-nil IsDigit
fraction_are_digits (c ∷ s) = point_digits (eqb c 46) s

-- what is dropped if there are digits after a point
after_point : (digits s : List ℕ) → digits ≢ [] → drop (cond (eqb (length digits) 0) 0 (1 + length digits)) (46 ∷ (digits ++ s)) ≡ s
after_point [] s some = absurd (some refl)
after_point (c ∷ digits) s some =
    let e : 1 + length (c ∷ digits) ≡ suc (length (c ∷ digits)) = omega arith in
    ap (λ b. drop (cond b 0 (1 + length (c ∷ digits))) (46 ∷ ((c ∷ digits) ++ s))) (eqb-suc-zero (length digits))
    ∙ ap (λ k. drop k (46 ∷ ((c ∷ digits) ++ s))) e
    ∙ drop-append_seam (c ∷ digits) s

-- a point, its digits and the text after them are the text, if a test gives the point
split_point : (point : Bool) (c : ℕ) (digits rest s : List ℕ) → (point ≡ true → c ≡ 46) → digits ++ rest ≡ s →
    c ∷ s ≡ spell_fraction (fraction_with (cond point digits [])) ++ drop (cond (eqb (length (cond point digits [])) 0) 0 (1 + length (cond point digits []))) (c ∷ s)
split_point false c digits rest s is_46 is = refl
split_point true c [] rest s is_46 is = refl
split_point true c (d ∷ digits) rest s is_46 is =
    let whole : 46 ∷ ((d ∷ digits) ++ rest) ≡ c ∷ s = ap (λ x. 46 ∷ x) is ∙ ap (λ x. x ∷ s) (sym (is_46 refl)) in
    sym whole
    ∙ ap (λ x. 46 ∷ ((d ∷ digits) ++ x)) (sym (after_point (d ∷ digits) rest (λ e. cc)))
    ∙ ap (λ x. 46 ∷ ((d ∷ digits) ++ drop (cond (eqb (length (d ∷ digits)) 0) 0 (1 + length (d ∷ digits))) x)) whole

-- a fraction and the text after it are the text
split_fraction : (t : List ℕ) → t ≡ spell_fraction (fraction_with (fraction_digits t)) ++ after_fraction t
split_fraction [] = refl
split_fraction (c ∷ s) = split_point (eqb c 46) c (front_digits s) (after_digits s) s (eqb-true c 46) (split_text s)

-- digits without a fraction, or with one, are a mantissa if there is a digit
mantissa_of : (whole digits : List ℕ) → AreDigits whole → AreDigits digits → whole ++ digits ≢ [] → IsMantissa whole (fraction_with digits)
mantissa_of whole [] each_whole each some = record { some = λ e. some (ap (λ x. x ++ []) e); each = each_whole }
mantissa_of whole (c ∷ digits) each_whole each some = (each_whole, record { some = λ e. cc; each = each })

-- the digits that are read of a text, before the point and after it
abbrev read_digits : List ℕ → List ℕ
read_digits s = front_digits s ++ fraction_digits (after_digits s)

-- the literal that is read is one, if there is a digit
is_literal_at : (s : List ℕ) → read_digits s ≢ [] → IsLiteral (literal_at s)
is_literal_at s some = record {
  mantissa = mantissa_of (front_digits s) (fraction_digits (after_digits s)) (front_are_digits s) (fraction_are_digits (after_digits s)) some;
  exponent = (reads_exponent (after_fraction (after_digits s))).form;
}

-- the text after the literal that is read
text_after : (s : List ℕ) → (rest : List ℕ) × (s ≡ spell_literal (literal_at s) ++ rest)
text_after s =
    let t : List ℕ = after_digits s in
    let tail = (reads_exponent (after_fraction t)).spelled in
    let F : List ℕ = spell_fraction (fraction_with (fraction_digits t)) in
    let E : List ℕ = spell_exponent (exponent_at (after_fraction t)) in (
      tail.0,
      sym (split_text s)
          ∙ ap (λ x. front_digits s ++ x) (split_fraction t ∙ ap (λ x. F ++ x) tail.1 ∙ sym (append_assoc F E tail.0))
          ∙ sym (append_assoc (front_digits s) (F ++ E) tail.0),
    )

-- the literal that is read has the value that is read
reads_value : (kept : ℕ) (s : List ℕ) → literal_size kept s ≡ round_size kept (numerator (literal_at s)) (denominator (literal_at s))
unfolding literal_size
reads_value kept s =
    let t : List ℕ = after_digits s in
    let digits : List ℕ = fraction_digits t in
    let e = reads_exponent (after_fraction t) in
    let E : Option Exponent = exponent_at (after_fraction t) in
    let p : Bool × ℕ = front_exponent (after_fraction t) in
    ap (λ x. round_size kept (digits_after 0 (front_digits s ++ digits) * 10 ^ x) (10 ^ (length digits + cond p.0 p.1 0))) (sym e.raised)
    ∙ ap (λ x. round_size kept (digits_after 0 (front_digits s ++ digits) * 10 ^ raised_by E) (10 ^ (length digits + x))) (sym e.lowered)
    ∙ ap (λ x. round_size kept (digits_after 0 (front_digits s ++ x) * 10 ^ raised_by E) (10 ^ (length x + lowered_by E))) (sym (fraction_of_with digits))

-- a text without a digit to read has the size 0
reads_zero : (kept : ℕ) (s : List ℕ) → read_digits s ≡ [] → literal_size kept s ≡ Some 0
unfolding literal_size
reads_zero kept s none =
    let t : List ℕ = after_digits s in
    let p : Bool × ℕ = front_exponent (after_fraction t) in
    let zero_times : 0 * 10 ^ cond p.0 0 p.1 ≡ 0 = omega arith in
    let lowered : ℕ = length (fraction_digits t) + cond p.0 p.1 0 in
    ap (λ x. round_size kept (digits_after 0 x * 10 ^ cond p.0 0 p.1) (10 ^ lowered)) none
    ∙ ap (λ x. round_size kept x (10 ^ lowered)) zero_times
    ∙ round_zero kept (10 ^ lowered) (ten_pos lowered)

-- how the fraction and the exponent that a text begins with are spelled
abbrev tail_at : List ℕ → List ℕ
tail_at t = spell_fraction (fraction_with (fraction_digits t)) ++ spell_exponent (exponent_at (after_fraction t))

-- a fraction with as many digits or more is no shorter
fraction_longest : (digits more tail : List ℕ) → digits ≢ [] → length (46 ∷ digits) ≤ length (spell_fraction (fraction_with (digits ++ more)) ++ tail)
fraction_longest [] more tail some = absurd (some refl)
fraction_longest (c ∷ digits) more tail some =
    let e : length ((46 ∷ (c ∷ digits)) ++ (more ++ tail)) ≡ length (46 ∷ (c ∷ digits)) + length (more ++ tail) = length-append (46 ∷ (c ∷ digits)) (more ++ tail) in
    let same : length ((46 ∷ (c ∷ digits) ++ more) ++ tail) ≡ length ((46 ∷ (c ∷ digits)) ++ (more ++ tail)) = ap length (append_assoc (46 ∷ (c ∷ digits)) more tail) in
    omega arith

-- a fraction of these digits is spelled with a point
spell_with : (digits : List ℕ) → digits ≢ [] → spell_fraction (fraction_with digits) ≡ 46 ∷ digits
spell_with [] some = absurd (some refl)
spell_with (c ∷ digits) some = refl

-- where a fraction ends, the text after it is read
tail_behind : (digits u : List ℕ) → IsDigits digits → front_digits u ≡ [] → tail_at (46 ∷ (digits ++ u)) ≡ 46 ∷ (digits ++ spell_exponent (exponent_at u))
tail_behind digits u is stops =
    let read : front_digits (digits ++ u) ≡ digits = front_digits-append digits u is.each ∙ ap (λ x. digits ++ x) stops ∙ append-nil digits in
    ap (λ x. spell_fraction (fraction_with x) ++ spell_exponent (exponent_at (drop (cond (eqb (length x) 0) 0 (1 + length x)) (46 ∷ (digits ++ u))))) read
    ∙ ap (λ x. spell_fraction (fraction_with digits) ++ spell_exponent (exponent_at x)) (after_point digits u is.some)
    ∙ ap (λ x. x ++ spell_exponent (exponent_at u)) (spell_with digits is.some)

-- no fraction with an exponent that a text begins with is longer than those that are read
tail_longest : (f : Option (List ℕ)) (e : Option Exponent) (rest : List ℕ) → IsFraction f → IsExponent e → length (spell_fraction f ++ spell_exponent e) ≤ length (tail_at ((spell_fraction f ++ spell_exponent e) ++ rest))
tail_longest None None rest is_f is_e = omega arith
tail_longest None (Some e) rest is_f is_e = exponent_longest (Some e) rest is_e
tail_longest (Some digits) None rest is_f is_e =
    let E : List ℕ = spell_exponent (exponent_at (after_fraction (46 ∷ (digits ++ rest)))) in
    let here : length (46 ∷ digits) ≤ length (tail_at (46 ∷ (digits ++ rest))) =
    subst (λ (x : List ℕ). length (46 ∷ digits) ≤ length (spell_fraction (fraction_with x) ++ E)) (sym (front_digits-append digits rest is_f.each)) (fraction_longest digits (front_digits rest) E is_f.some) in
    subst (λ (x : List ℕ). length (46 ∷ x) ≤ length (tail_at ((46 ∷ x) ++ rest))) (sym (append-nil digits)) here
tail_longest (Some digits) (Some e) rest is_f is_e =
    let E : List ℕ = spell_exponent (Some e) in
    let read : List ℕ = spell_exponent (exponent_at (E ++ rest)) in
    let long : length E ≤ length read = exponent_longest (Some e) rest is_e in
    let other : length ((46 ∷ digits) ++ E) ≡ length (46 ∷ digits) + length E = length-append (46 ∷ digits) E in
    let here : length ((46 ∷ digits) ++ read) ≡ length (46 ∷ digits) + length read = length-append (46 ∷ digits) read in
    let behind : length ((46 ∷ digits) ++ E) ≤ length ((46 ∷ digits) ++ read) = omega arith in
    subst (λ (x : List ℕ). length ((46 ∷ digits) ++ E) ≤ length (tail_at x)) (sym (append_assoc (46 ∷ digits) E rest))
    (subst (λ (x : List ℕ). length ((46 ∷ digits) ++ E) ≤ length x) (sym (tail_behind digits (E ++ rest) is_f refl)) behind)

-- digits in front, and a tail that ends them, are no longer than what is read
whole_longest : (whole t : List ℕ) (n : ℕ) → AreDigits whole → (n ≡ 0) ⊎ ((after_digits t ≡ t) × (n ≤ length (tail_at t))) → length whole + n ≤ length (spell_literal (literal_at (whole ++ t)))
whole_longest whole t n each w =
    let front : length (front_digits (whole ++ t)) ≡ length whole + length (front_digits t) = ap length (front_digits-append whole t each) ∙ length-append whole (front_digits t) in
    let all : length (spell_literal (literal_at (whole ++ t))) ≡ length (front_digits (whole ++ t)) + length (tail_at (after_digits (whole ++ t))) = length-append (front_digits (whole ++ t)) (tail_at (after_digits (whole ++ t))) in
    let behind : length (tail_at (after_digits (whole ++ t))) ≡ length (tail_at (after_digits t)) = ap (λ x. length (tail_at x)) (after_digits-append whole t each) in
    ⊎_elim
    (λ (none : n ≡ 0). omega arith)
    (λ (k : (after_digits t ≡ t) × (n ≤ length (tail_at t))). let same : length (tail_at (after_digits t)) ≡ length (tail_at t) = ap (λ x. length (tail_at x)) k.0 in omega arith)
    w

-- the tail of a literal is empty, or the text begins with no digit
tail_starts : (f : Option (List ℕ)) (e : Option Exponent) (rest : List ℕ) → IsFraction f → IsExponent e →
    (length (spell_fraction f ++ spell_exponent e) ≡ 0) ⊎ ((after_digits ((spell_fraction f ++ spell_exponent e) ++ rest) ≡ (spell_fraction f ++ spell_exponent e) ++ rest) × (length (spell_fraction f ++ spell_exponent e) ≤ length (tail_at ((spell_fraction f ++ spell_exponent e) ++ rest))))
tail_starts None None rest is_f is_e = inl refl
tail_starts None (Some e) rest is_f is_e = inr (refl, tail_longest None (Some e) rest is_f is_e)
tail_starts (Some digits) e rest is_f is_e = inr (refl, tail_longest (Some digits) e rest is_f is_e)

-- the digits before the point of a mantissa are digits
whole_digits : (whole : List ℕ) (f : Option (List ℕ)) → IsMantissa whole f → AreDigits whole
whole_digits whole None is = is.each
whole_digits whole (Some digits) is = is.0

-- the fraction of a mantissa is well formed
has_fraction : (whole : List ℕ) (f : Option (List ℕ)) → IsMantissa whole f → IsFraction f
has_fraction whole None is = tt
has_fraction whole (Some digits) is = is.1

-- no literal that a text begins with is longer than the one that is read
literal_longest : (s : List ℕ) (l : Literal) → BeginsWith s l → length (spell_literal l) ≤ length (spell_literal (literal_at s))
literal_longest s l begins =
    let T : List ℕ = spell_fraction l.fraction ++ spell_exponent l.exponent in
    let rest : List ℕ = begins.1.0 in
    let split : s ≡ l.whole ++ (T ++ rest) = begins.1.1 ∙ append_assoc l.whole T rest in
    let long : length l.whole + length T ≤ length (spell_literal (literal_at (l.whole ++ (T ++ rest)))) =
    whole_longest l.whole (T ++ rest) (length T) (whole_digits l.whole l.fraction begins.0.mantissa) (tail_starts l.fraction l.exponent rest (has_fraction l.whole l.fraction begins.0.mantissa) begins.0.exponent) in
    let here : length l.whole + length T ≤ length (spell_literal (literal_at s)) = subst (λ (x : List ℕ). length l.whole + length T ≤ length (spell_literal (literal_at x))) (sym split) long in
    let e : length (l.whole ++ T) ≡ length l.whole + length T = length-append l.whole T in
    omega arith

-- the head of an empty list is empty
head_empty : (xs ys : List ℕ) → xs ++ ys ≡ [] → xs ≡ []
head_empty [] ys e = refl
head_empty (x ∷ xs) ys e = cc

-- the rest of an empty list is empty
rest_empty : (xs ys : List ℕ) → xs ++ ys ≡ [] → ys ≡ []
rest_empty [] ys e = e
rest_empty (x ∷ xs) ys e = cc

-- a text that begins with digits has digits in front
some_in_front : (digits t : List ℕ) → IsDigits digits → front_digits (digits ++ t) ≢ []
some_in_front digits t is e = is.some (head_empty digits (front_digits t) (sym (front_digits-append digits t is.each) ∙ e))

-- a text that begins with a mantissa has a digit that is read
mantissa_has_digit : (whole : List ℕ) (f : Option (List ℕ)) (rest : List ℕ) → IsMantissa whole f → read_digits (whole ++ (spell_fraction f ++ rest)) ≢ []
mantissa_has_digit whole None rest is e = some_in_front whole rest is (head_empty (front_digits (whole ++ rest)) (fraction_digits (after_digits (whole ++ rest))) e)
mantissa_has_digit whole (Some digits) rest is e =
    let t : List ℕ = 46 ∷ (digits ++ rest) in
    some_in_front digits rest is.1 (sym (ap fraction_digits (after_digits-append whole t is.0)) ∙ rest_empty (front_digits (whole ++ t)) (fraction_digits (after_digits (whole ++ t))) e)

-- a text that begins with a literal has a digit that is read
literal_has_digit : (s : List ℕ) (l : Literal) → BeginsWith s l → read_digits s ≢ []
literal_has_digit s l begins e =
    let F : List ℕ = spell_fraction l.fraction in
    let E : List ℕ = spell_exponent l.exponent in
    let rest : List ℕ = begins.1.0 in
    let split : s ≡ l.whole ++ (F ++ (E ++ rest)) = begins.1.1 ∙ append_assoc l.whole (F ++ E) rest ∙ ap (λ x. l.whole ++ x) (append_assoc F E rest) in
    mantissa_has_digit l.whole l.fraction (E ++ rest) begins.0.mantissa (sym (ap read_digits split) ∙ e)

-- a list is empty or is not
empty_or_not : (xs : List ℕ) → (xs ≡ []) ⊎ (xs ≢ [])
empty_or_not [] = inl refl
empty_or_not (x ∷ xs) = inr (λ e. cc)

-- a text begins with no literal, and its size is 0, or with a longest one, of which it is the rounded value
pub reads_longest_literal : ReadsLongestLiteral
reads_longest_literal kept s =
    ⊎_elim
    (λ (none : read_digits s ≡ []). inl ((λ l begins. literal_has_digit s l begins none), reads_zero kept s none))
    (λ (some : read_digits s ≢ []). inr (literal_at s, record { begins = (is_literal_at s some, text_after s); longest = literal_longest s }, reads_value kept s))
    (empty_or_not (read_digits s))
