-- SPDX-License-Identifier: Apache-2.0
-- Numbers rounded to places after the point, and their texts with all of these.
use Rattle.mnum.proofs.NumWords.{ℕ, zero, suc, ◌≡◌, ◌+◌, ◌*◌, ◌-◌, ◌/◌, ◌%◌, ◌^◌, ◌<◌, ◌≤◌, Bool, true, false, List, [], ◌∷◌, ◌++◌, length, All, All-nil}
use Rattle.mnum.proofs.NumWords.{All-cons, refl, sym, ◌∙◌, ap, subst, arith, lit<, ⊎_elim, cases_lt, nat_tests, append-nil, mod_below, ℤ, pos, negsuc}
use Rattle.mnum.proofs.NumWords.{unsigned_abs, cond, decimal, append_assoc, zero-mul, mul-pos, mul-le-mul_right, mul-lt-mul_of_pos_right, div-eq_of_lt-le}
use Rattle.mnum.proofs.NumWords.{div-mul-le_self, lt-div-mul-add, mul_assoc, ten_pos, ten_add, ten_monotone, nearest_exact, nearest, signed, abs_signed}
use Rattle.mnum.proofs.NumWords.{fraction_text}
use Rattle.std.proofs.Common.{length-append, replicate}
use Rattle.std.specs.Prelude.{nat_lt, ◌==◌, ◌&&◌}
use Rattle.std.proofs.lemmas.Bool.{lt-ltb}
use Rattle.std.proofs.lemmas.List.Elements.{All-append, All-weaker}
use Rattle.mspec.proofs.TextLaws.{Digit, decimal_reads, fraction_all}
use Rattle.mnum.proofs.Prints.{fraction_scaled, scaled_quotient, scaled_remainder}
use Rattle.mnum.proofs.Rounds.{ten_even}
use Rattle.mspec.specs.Number.{is_below_zero}
use Rattle.mspec.specs.NumberFormats.{rounded_to, fixed_text, fixed_number, places_text, filled, digits_of}
use Rattle.mspec.specs.NumberText.{point_text}

-- ---- rounding

-- a sign and a size are rounded by the size
rounded_is : (places : ℕ) (s : Bool) (u : ℕ) → rounded_to places (signed s u) ≡ signed s (nearest (10 ^ (18 - places)) u 1)
unfolding rounded_to
rounded_is places false u = refl
rounded_is places true (suc u) = refl
rounded_is places true zero =
    let none : nearest (10 ^ (18 - places)) 0 1 ≡ 0 = nearest_exact (10 ^ (18 - places)) 0 0 1 (ten_pos (18 - places)) (omega arith) (omega arith) ∙ omega arith in
    ap (signed false) none ∙ sym (ap (signed true) none)

-- a number of no more places stays
pub kept_places : (places : ℕ) (s : Bool) (d p : ℕ) → p ≤ places → p ≤ 18 → signed s (d * 10 ^ (18 - p)) ≡ rounded_to places (signed s (d * 10 ^ (18 - p)))
kept_places places s d p fits few =
    let g : ℕ = 10 ^ (18 - places) in
    let c : ℕ = d * 10 ^ (18 - p - (18 - places)) in
    let parts : 10 ^ (18 - p - (18 - places)) * g ≡ 10 ^ (18 - p) = sym (ten_add (18 - p - (18 - places)) (18 - places)) ∙ ap (λ x. 10 ^ x) (back places p fits few) in
    let value : c * g ≡ d * 10 ^ (18 - p) = mul_assoc d (10 ^ (18 - p - (18 - places))) g ∙ ap (λ x. d * x) parts in
    ap (signed s) (sym (nearest_exact g c (d * 10 ^ (18 - p)) 1 (ten_pos (18 - places)) (omega arith) (sym value ∙ omega arith) ∙ value)) ∙ sym (rounded_is places s (d * 10 ^ (18 - p)))
  where
    back : (places p : ℕ) → p ≤ places → p ≤ 18 → 18 - p - (18 - places) + (18 - places) ≡ 18 - p
    back places p fits few = omega arith

-- the nearest multiple of ten times w, of d times w
nearest_cut : (d w ten h m : ℕ) → 0 < w → 0 < ten → ten ≡ 2 * h → m * ten ≤ d + h → d + h < (m + 1) * ten → nearest (ten * w) (d * w) 1 ≡ m * (ten * w)
unfolding nearest
nearest_cut d w ten h m some_w some even low high =
    let under : m * ten * (2 * w) ≤ (d + h) * (2 * w) = mul-le-mul_right (2 * w) low in
    let over : (d + h) * (2 * w) < (m + 1) * ten * (2 * w) = mul-lt-mul_of_pos_right high (omega arith) in
    let half : ten * w ≡ 2 * h * w = ap (λ x. x * w) even in
    ap (λ x. x * (ten * w)) (div-eq_of_lt-le {k = m} (2 * (ten * w * 1)) {m = 2 * (d * w) + ten * w * 1} (omega arith) (omega arith))

-- the digits of more places are cut, and rounded
pub cut_places : (places : ℕ) (s : Bool) (d p left ten m : ℕ) → p ≤ 18 → left ≡ places → places < p → ten ≡ 10 ^ (p - left) → m ≡ (d + ten / 2) / ten
    → signed s (m * 10 ^ (18 - left)) ≡ rounded_to places (signed s (d * 10 ^ (18 - p)))
cut_places places s d p left ten m few same less ten_is is =
    let w : ℕ = 10 ^ (18 - p) in
    let even : ten ≡ 2 * (ten / 2) = subst (λ x. x ≡ 2 * (x / 2)) (sym ten_is) (ten_even (p - left) (omega arith)) in
    let some : 0 < ten = subst (λ x. 0 < x) (sym ten_is) (ten_pos (p - left)) in
    let low : m * ten ≤ d + ten / 2 = subst (λ x. x * ten ≤ d + ten / 2) (sym is) (div-mul-le_self (d + ten / 2) ten) in
    let high : d + ten / 2 < (m + 1) * ten = subst (λ x. d + ten / 2 < (x + 1) * ten) (sym is) (omega (arith, lt-div-mul-add {a = d + ten / 2} {b = ten} some)) in
    let parts : ten * w ≡ 10 ^ (18 - places) = ap (λ x. x * w) ten_is ∙ sym (ten_add (p - left) (18 - p)) ∙ ap (λ x. 10 ^ x) (back places p left few same less) in
    let size : nearest (10 ^ (18 - places)) (d * w) 1 ≡ m * 10 ^ (18 - places) =
    subst (λ g. nearest g (d * w) 1 ≡ m * g) parts (nearest_cut d w ten (ten / 2) m (ten_pos (18 - p)) some even low high) in
    ap (λ x. signed s (m * 10 ^ (18 - x))) same ∙ ap (signed s) (sym size) ∙ sym (rounded_is places s (d * w))
  where
    back : (places p left : ℕ) → p ≤ 18 → left ≡ places → places < p → p - left + (18 - p) ≡ 18 - places
    back places p left few same less = omega arith

-- and are no more than they were
pub cut_below : (d ten : ℕ) → d < 10 ^ 18 → 2 ≤ ten → (d + ten / 2) / ten < 10 ^ 18
cut_below d ten below many =
    ⊎_elim (λ (less : (d + ten / 2) / ten < 10 ^ 18). less)
    (λ (more : 10 ^ 18 ≤ (d + ten / 2) / ten).
    let all : 10 ^ 18 * ten ≤ (d + ten / 2) / ten * ten = mul-le-mul_right ten more in
    let most : (d + ten / 2) / ten * ten ≤ d + ten / 2 = div-mul-le_self (d + ten / 2) ten in
    absurd (omega arith))
    (cases_lt ((d + ten / 2) / ten) (10 ^ 18))

-- ---- texts

pub sign_is : (s : Bool) (d p : ℕ) → s ≡ true → nat_lt 0 d ≡ is_below_zero (signed s (d * 10 ^ (18 - p)))
sign_is s zero p e = ap (λ b. is_below_zero (signed b 0)) (sym e) ∙ ap (λ n. is_below_zero (signed s n)) (sym (zero-mul (10 ^ (18 - p))))
sign_is s (suc d) p e = lt-ltb 0 (suc d) (omega arith) ∙ sym (sized (suc d * 10 ^ (18 - p)) (mul-pos {m = suc d} (omega arith) (ten_pos (18 - p)))) ∙ ap (λ b. is_below_zero (signed b (suc d * 10 ^ (18 - p)))) (sym e)
  where
    sized : (n : ℕ) → 0 < n → is_below_zero (signed true n) ≡ true
    sized zero h = absurd (omega arith)
    sized (suc n) h = refl

all_places : (p : ℕ) → p ≤ 18 → 18 ≡ p + (18 - p)
all_places p few = omega arith

not_zero : (n : ℕ) → 0 < n → (n == 0) ≡ false
not_zero n h = grind (arith, nat_tests)

-- the parts of a size with its places
sized_text : (places d p : ℕ) → p ≤ 18 → fixed_text places (d * 10 ^ (18 - p)) ≡ decimal (d / 10 ^ p) ++ places_text places (d % 10 ^ p * 10 ^ (18 - p))
unfolding fixed_text
sized_text places d p few =
    let u : ℕ = 10 ^ (18 - p) in
    let split : 10 ^ 18 ≡ 10 ^ p * u = ap (λ x. 10 ^ x) (all_places p few) ∙ ten_add p (18 - p) in
    let whole : d * u / 10 ^ 18 ≡ d / 10 ^ p = ap (λ x. d * u / x) split ∙ scaled_quotient d (10 ^ p) u (ten_pos (18 - p)) in
    let part : d * u % 10 ^ 18 ≡ d % 10 ^ p * u = ap (λ x. d * u % x) split ∙ scaled_remainder d (10 ^ p) u (ten_pos (18 - p)) in
    ap (λ x. decimal x ++ places_text places (d * u % 10 ^ 18)) whole ∙ ap (λ x. decimal (d / 10 ^ p) ++ places_text places x) part

-- the places of a fraction of p digits
placed : (places p f : ℕ) → 0 < places → p ≤ 18 → f < 10 ^ p → places_text places (f * 10 ^ (18 - p)) ≡ 46 ∷ filled places (fraction_text p f)
placed zero p f some few below = absurd (omega arith)
placed (suc k) p f some few below = ap (λ t. 46 ∷ filled (suc k) t) (fraction_scaled p (18 - p) 18 f (all_places p few) below)

-- the sign stands before the size
signed_text : (places : ℕ) (z : ℤ) → fixed_number places z ≡ cond (is_below_zero z) (45 ∷ []) [] ++ fixed_text places (unsigned_abs z)
signed_text places (pos n) = refl
signed_text places (negsuc n) = refl

-- the text of a number by its parts
text_of : (places : ℕ) (s : Bool) (d p : ℕ) → p ≤ 18
    → fixed_number places (signed s (d * 10 ^ (18 - p))) ≡ cond (is_below_zero (signed s (d * 10 ^ (18 - p)))) (45 ∷ []) [] ++ (decimal (d / 10 ^ p) ++ places_text places (d % 10 ^ p * 10 ^ (18 - p)))
text_of places s d p few =
    let z : ℤ = signed s (d * 10 ^ (18 - p)) in
    signed_text places z ∙ ap (λ t. cond (is_below_zero z) (45 ∷ []) [] ++ t) (ap (fixed_text places) (abs_signed s (d * 10 ^ (18 - p))) ∙ sized_text places d p few)

-- without places
pub text_without : (places : ℕ) (s b : Bool) (d p whole : ℕ) (first out : List ℕ) → p ≤ 18 → b ≡ is_below_zero (signed s (d * 10 ^ (18 - p))) → whole ≡ d / 10 ^ p → places ≡ 0
    → first ≡ cond b (45 ∷ []) [] → out ≡ first ++ decimal whole → out ++ replicate 0 48 ≡ fixed_number places (signed s (d * 10 ^ (18 - p)))
text_without places s b d p whole first out few b_is whole_is none first_is is =
    let z : ℤ = signed s (d * 10 ^ (18 - p)) in
    append-nil out ∙ is ∙ ap (λ t. t ++ decimal whole) (first_is ∙ ap (λ x. cond x (45 ∷ []) []) b_is)
    ∙ ap (λ x. cond (is_below_zero z) (45 ∷ []) [] ++ decimal x) whole_is
    ∙ ap (λ t. cond (is_below_zero z) (45 ∷ []) [] ++ t) (sym (append-nil (decimal (d / 10 ^ p))))
    ∙ ap (λ x. cond (is_below_zero z) (45 ∷ []) [] ++ (decimal (d / 10 ^ p) ++ places_text x (d % 10 ^ p * 10 ^ (18 - p)))) (sym none)
    ∙ sym (text_of places s d p few)

-- with places
pub text_with : (places : ℕ) (s b : Bool) (d p whole fraction missing : ℕ) (first second third out : List ℕ) → p ≤ 18 → b ≡ is_below_zero (signed s (d * 10 ^ (18 - p))) → whole ≡ d / 10 ^ p → fraction ≡ d % 10 ^ p
    → 0 < places → first ≡ cond b (45 ∷ []) [] → second ≡ first ++ decimal whole → third ≡ second ++ (46 ∷ []) → out ≡ third ++ fraction_text p fraction → missing ≡ places - (length out - length third)
    → out ++ replicate missing 48 ≡ fixed_number places (signed s (d * 10 ^ (18 - p)))
text_with places s b d p whole fraction missing first second third out few b_is whole_is fraction_is some first_is second_is third_is is missing_is =
    let z : ℤ = signed s (d * 10 ^ (18 - p)) in
    let digits : List ℕ = fraction_text p fraction in
    let count : length out - length third ≡ length digits = omega (arith, ap length is, length-append third digits) in
    let head : List ℕ = cond (is_below_zero z) (45 ∷ []) [] in
    let front : second ≡ head ++ decimal (d / 10 ^ p) = second_is ∙ ap (λ t. t ++ decimal whole) (first_is ∙ ap (λ x. cond x (45 ∷ []) []) b_is) ∙ ap (λ x. head ++ decimal x) whole_is in
    ap (λ n. out ++ replicate n 48) (missing_is ∙ ap (λ n. places - n) count)
    ∙ ap (λ t. t ++ replicate (places - length digits) 48) (is ∙ ap (λ t. t ++ digits) third_is)
    ∙ append_assoc (second ++ (46 ∷ [])) digits (replicate (places - length digits) 48)
    ∙ append_assoc second (46 ∷ []) (filled places digits)
    ∙ ap (λ t. t ++ (46 ∷ filled places digits)) front
    ∙ append_assoc head (decimal (d / 10 ^ p)) (46 ∷ filled places digits)
    ∙ ap (λ t. head ++ (decimal (d / 10 ^ p) ++ t)) (ap (λ f. 46 ∷ filled places (fraction_text p f)) fraction_is ∙ sym (placed places p (d % 10 ^ p) some few (mod_below d (10 ^ p) (ten_pos p))))
    ∙ sym (text_of places s d p few)

-- ---- characters

digit_ascii : (c : ℕ) → Digit c → c < 128
digit_ascii c h = grind (arith, nat_tests)

decimal_ascii : (n : ℕ) → n < 10 ^ 18 → All (λ c. c < 128) (decimal n)
decimal_ascii n below = All-weaker Digit (λ c. c < 128) digit_ascii (decimal n) (decimal_reads n (omega arith)).0

fraction_ascii : (k n : ℕ) → n < 10 ^ k → All (λ c. c < 128) (fraction_text k n)
fraction_ascii k n below = All-weaker Digit (λ c. c < 128) digit_ascii (fraction_text k n) (fraction_all k n below)

sign_ascii : (b : Bool) → All (λ c. c < 128) (cond b (45 ∷ []) [])
sign_ascii true = All-cons (λ c. c < 128) 45 [] (lit< tt) (All-nil (λ c. c < 128))
sign_ascii false = All-nil (λ c. c < 128)

pub whole_ascii : (whole : ℕ) (out : List ℕ) → whole < 10 ^ 18 → out ≡ decimal whole → All (λ c. c < 128) out
whole_ascii whole out below is = subst (All (λ c. c < 128)) (sym is) (decimal_ascii whole below)

pub rest_ascii : (p fraction : ℕ) (out : List ℕ) → fraction < 10 ^ p → out ≡ (46 ∷ []) ++ fraction_text p fraction → All (λ c. c < 128) out
rest_ascii p fraction out below is = subst (All (λ c. c < 128)) (sym is) (All-cons (λ c. c < 128) 46 (fraction_text p fraction) (lit< tt) (fraction_ascii p fraction below))

pub none_ascii : All (λ c. c < 128) []
none_ascii = All-nil (λ c. c < 128)

pub front_ascii : (b : Bool) (whole : ℕ) (first out : List ℕ) → whole < 10 ^ 18 → first ≡ cond b (45 ∷ []) [] → out ≡ first ++ decimal whole → All (λ c. c < 128) out
front_ascii b whole first out below first_is is =
    subst (All (λ c. c < 128)) (sym (is ∙ ap (λ t. t ++ decimal whole) first_is)) (All-append (λ c. c < 128) (cond b (45 ∷ []) []) (decimal whole) (sign_ascii b) (decimal_ascii whole below))

pub all_ascii : (p fraction : ℕ) (second third out : List ℕ) → fraction < 10 ^ p → All (λ c. c < 128) second → third ≡ second ++ (46 ∷ []) → out ≡ third ++ fraction_text p fraction → All (λ c. c < 128) out
all_ascii p fraction second third out below front third_is is =
    let point = All-cons (λ c. c < 128) 46 [] (lit< tt) (All-nil (λ c. c < 128)) in
    subst (All (λ c. c < 128)) (sym (is ∙ ap (λ t. t ++ fraction_text p fraction) third_is))
    (All-append (λ c. c < 128) (second ++ (46 ∷ [])) (fraction_text p fraction) (All-append (λ c. c < 128) second (46 ∷ []) front point) (fraction_ascii p fraction below))

-- ---- the parts of a text, one by one

-- a size's digits before the point, and after it
pub size_whole : (s : Bool) (d p : ℕ) → p ≤ 18 → unsigned_abs (signed s (d * 10 ^ (18 - p))) / 10 ^ 18 ≡ d / 10 ^ p
size_whole s d p few =
    let u : ℕ = 10 ^ (18 - p) in
    let split : 10 ^ 18 ≡ 10 ^ p * u = ap (λ x. 10 ^ x) (all_places p few) ∙ ten_add p (18 - p) in
    ap (λ x. x / 10 ^ 18) (abs_signed s (d * u)) ∙ ap (λ x. d * u / x) split ∙ scaled_quotient d (10 ^ p) u (ten_pos (18 - p))

pub size_rest : (s : Bool) (d p : ℕ) → p ≤ 18 → unsigned_abs (signed s (d * 10 ^ (18 - p))) % 10 ^ 18 ≡ d % 10 ^ p * 10 ^ (18 - p)
size_rest s d p few =
    let u : ℕ = 10 ^ (18 - p) in
    let split : 10 ^ 18 ≡ 10 ^ p * u = ap (λ x. 10 ^ x) (all_places p few) ∙ ten_add p (18 - p) in
    ap (λ x. x % 10 ^ 18) (abs_signed s (d * u)) ∙ ap (λ x. d * u % x) split ∙ scaled_remainder d (10 ^ p) u (ten_pos (18 - p))

-- the canonical digits of a size of these parts
pub some_whole : (n w : ℕ) → n / 10 ^ 18 ≡ w → 0 < w → digits_of n ≡ decimal w
some_whole n w is some = ap (λ x. cond ((x == 0) && nat_lt 0 (n % 10 ^ 18)) [] (decimal x)) is ∙ ap (λ b. cond (b && nat_lt 0 (n % 10 ^ 18)) [] (decimal w)) (not_zero w some)

pub no_fraction_left : (n w : ℕ) → n / 10 ^ 18 ≡ w → n % 10 ^ 18 ≡ 0 → digits_of n ≡ decimal w
no_fraction_left n w is none = ap (λ x. cond ((x == 0) && nat_lt 0 (n % 10 ^ 18)) [] (decimal x)) is ∙ ap (λ x. cond ((w == 0) && nat_lt 0 x) [] (decimal w)) none ∙ ap (λ b. cond b [] (decimal w)) (and_false (w == 0))
  where
    and_false : (b : Bool) → (b && nat_lt 0 0) ≡ false
    and_false true = refl
    and_false false = refl

pub fraction_alone : (n r : ℕ) → n / 10 ^ 18 ≡ 0 → n % 10 ^ 18 ≡ r → 0 < r → digits_of n ≡ []
fraction_alone n r none is some = ap (λ x. cond ((x == 0) && nat_lt 0 (n % 10 ^ 18)) [] (decimal x)) none ∙ ap (λ x. cond (nat_lt 0 x) [] (decimal 0)) is ∙ ap (λ b. cond b [] (decimal 0)) (lt-ltb 0 r some)

-- the text from the point on
pub pointed : (n p f : ℕ) → p ≤ 18 → f < 10 ^ p → 0 < f → n ≡ f * 10 ^ (18 - p) → point_text n ≡ 46 ∷ fraction_text p f
pointed n p f few below some is =
    ap point_text is ∙ ap (λ b. cond b [] (46 ∷ fraction_text 18 (f * 10 ^ (18 - p)))) (not_zero (f * 10 ^ (18 - p)) (mul-pos some (ten_pos (18 - p)))) ∙ ap (λ t. 46 ∷ t) (fraction_scaled p (18 - p) 18 f (all_places p few) below)

pub not_pointed : (n p f : ℕ) → f ≤ 0 → n ≡ f * 10 ^ (18 - p) → point_text n ≡ []
not_pointed n p f none is = let zero_part : f ≡ 0 = omega arith in ap point_text (is ∙ ap (λ x. x * 10 ^ (18 - p)) zero_part ∙ zero-mul (10 ^ (18 - p)))

-- and with all places
pub all_placed : (places n p f missing : ℕ) (out : List ℕ) → p ≤ 18 → f < 10 ^ p → 0 < places → n ≡ f * 10 ^ (18 - p) → out ≡ (46 ∷ []) ++ fraction_text p f → missing ≡ places - (length out - 1)
    → out ++ replicate missing 48 ≡ places_text places n
all_placed places n p f missing out few below some is out_is missing_is =
    let digits : List ℕ = fraction_text p f in
    let count : length out - 1 ≡ length digits = omega (arith, ap length out_is) in
    ap (λ k. out ++ replicate k 48) (missing_is ∙ ap (λ k. places - k) count) ∙ ap (λ t. t ++ replicate (places - length digits) 48) out_is ∙ sym (placed places p f some few below) ∙ ap (places_text places) (sym is)
