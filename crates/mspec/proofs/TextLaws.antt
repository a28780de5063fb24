-- SPDX-License-Identifier: Apache-2.0
-- The text of a number has that number as its value, and it is the one canonical text.
use Rattle.mspec.proofs.SpecWords.{ℕ, zero, suc, ◌≡◌, ◌+◌, ◌*◌, ◌/◌, ◌%◌, ◌^◌, ◌<◌, ◌≤◌, Bool, true, false, cond, not, Option, Some, List, [], ◌∷◌, ◌++◌, take}
use Rattle.mspec.proofs.SpecWords.{drop, length, All, refl, sym, ◌∙◌, ap, subst, arith, one-add, ◌==◌, option_map, ℤ, pos, negsuc, decimal, prefix_len}
use Rattle.mspec.proofs.SpecWords.{div-add-mod', take-append_seam, drop-append_seam, drop-length, mod_below, div_below, cond-true, cond-false, nat_tests}
use Rattle.mspec.proofs.SpecWords.{append-nil, All-nil, All-cons, All-head, All-tail, All-push, fold-append, fold_push, decimal_by_steps, round_size, signed}
use Rattle.mspec.proofs.SpecWords.{IsNumber, is_digit, with_digit, digits_after, is_sign, front_digits, after_digits, fraction_digits, after_fraction}
use Rattle.mspec.proofs.SpecWords.{front_exponent, literal_size, is_negated, after_signs, numeric_value, fraction_text, whole_text, point_text, size_text}
use Rattle.mspec.proofs.SpecWords.{number_text, TextHasValue, CanonicalIsText, CanonicalByMoreDigits}
use Rattle.mspec.proofs.Powers.{ten_pos, ten_add, ten_monotone}
use Rattle.mspec.proofs.Rounding.{round_is}
use Rattle.mspec.proofs.NearestLaws.{exact_number, rounded_is_number}

-- the byte is a digit
abbrev pub Digit : ℕ → Type 0
Digit c = is_digit c ≡ true

-- one digit of a number is a digit
digit_of : (d : ℕ) → d < 10 → Digit (48 + d)
digit_of d h = grind (arith, nat_tests)

-- digits in front of a text that goes on with no digit are counted
run_length : (xs rest : List ℕ) → All Digit xs → prefix_len is_digit rest ≡ 0 → prefix_len is_digit (xs ++ rest) ≡ length xs
run_length [] rest all stop = stop
run_length (x ∷ xs) rest all stop =
    cond-true _ _ _ (All-head Digit x xs all) ∙ one-add _ ∙ ap suc (run_length xs rest (All-tail Digit x xs all) stop)

-- they are what the text begins with
run_front : (xs rest : List ℕ) → All Digit xs → prefix_len is_digit rest ≡ 0 → front_digits (xs ++ rest) ≡ xs
run_front xs rest all stop = ap (λ k. take k (xs ++ rest)) (run_length xs rest all stop) ∙ take-append_seam xs rest

-- and the rest is what comes after them
run_after : (xs rest : List ℕ) → All Digit xs → prefix_len is_digit rest ≡ 0 → after_digits (xs ++ rest) ≡ rest
run_after xs rest all stop = ap (λ k. drop k (xs ++ rest)) (run_length xs rest all stop) ∙ drop-append_seam xs rest

-- a text of digits alone is all digits in front
all_front : (xs : List ℕ) → All Digit xs → front_digits xs ≡ xs
all_front xs all = ap front_digits (sym (append-nil xs)) ∙ run_front xs [] all refl

-- and has nothing after them
all_after : (xs : List ℕ) → All Digit xs → after_digits xs ≡ []
all_after xs all = ap after_digits (sym (append-nil xs)) ∙ run_after xs [] all refl

-- a number above 0 fails the test for 0
pub not_zero : (n : ℕ) → 0 < n → (n == 0) ≡ false
not_zero n h = grind (arith, nat_tests)

-- after a point, digits are the digits of a fraction
point_digits : (f : List ℕ) → All Digit f → fraction_digits (46 ∷ f) ≡ f
point_digits f all = all_front f all

-- and nothing is left after that fraction
point_after : (f : List ℕ) → All Digit f → 0 < length f → after_fraction (46 ∷ f) ≡ []
point_after f all some =
    ap (λ t. drop (cond (length t == 0) 0 (1 + length t)) (46 ∷ f)) (point_digits f all)
    ∙ ap (λ b. drop (cond b 0 (1 + length f)) (46 ∷ f)) (not_zero (length f) some)
    ∙ ap (λ k. drop k (46 ∷ f)) (one-add (length f))
    ∙ drop-length f

-- the size of a text in three parts, of which the last has no exponent
size_of_parts : (kept : ℕ) (s w rest f : List ℕ) → front_digits s ≡ w → after_digits s ≡ rest → fraction_digits rest ≡ f → after_fraction rest ≡ [] → literal_size kept s ≡ round_size kept (digits_after 0 (w ++ f) * 10 ^ 0) (10 ^ (length f + 0))
unfolding literal_size
size_of_parts kept s w rest f whole after fraction nothing =
    ap (λ r. size kept (front_digits s) (fraction_digits r) (after_fraction r)) after
    ∙ ap (λ r. size kept (front_digits s) (fraction_digits rest) r) nothing
    ∙ ap (λ x. size kept x (fraction_digits rest) []) whole
    ∙ ap (λ x. size kept w x []) fraction
  where
    size : ℕ → List ℕ → List ℕ → List ℕ → Option ℕ
    size kept w f tail = round_size kept (digits_after 0 (w ++ f) * 10 ^ cond (front_exponent tail).0 0 (front_exponent tail).1) (10 ^ (length f + cond (front_exponent tail).0 (front_exponent tail).1 0))

-- the size of a text of digits alone
pub size_of_whole : (kept : ℕ) (w : List ℕ) → All Digit w → literal_size kept w ≡ round_size kept (digits_after 0 (w ++ []) * 10 ^ 0) (10 ^ (0 + 0))
size_of_whole kept w all = size_of_parts kept w w [] [] (all_front w all) (all_after w all) refl refl

-- the size of a text of digits, a point and digits
size_of_pointed : (kept : ℕ) (w f : List ℕ) → All Digit w → All Digit f → 0 < length f → literal_size kept (w ++ (46 ∷ f)) ≡ round_size kept (digits_after 0 (w ++ f) * 10 ^ 0) (10 ^ (length f + 0))
size_of_pointed kept w f all_w all_f some =
    size_of_parts kept (w ++ (46 ∷ f)) w (46 ∷ f) f (run_front w (46 ∷ f) all_w refl) (run_after w (46 ∷ f) all_w refl) (point_digits f all_f) (point_after f all_f some)

-- one more power of ten
pub ten_more : (k : ℕ) → 10 ^ suc k ≡ 10 ^ k * 10
ten_more k = ap (λ x. 10 ^ x) (omega arith) ∙ ten_add k 1

-- the first digit of n / 10 ^ (k + 1)
first_below : (k n : ℕ) → n < 10 ^ suc k → n / 10 ^ k < 10
first_below k n below =
    let more : 10 ^ suc k ≡ 10 ^ k * 10 = ten_more k in
    div_below n (10 ^ k) 10 (ten_pos k) (omega arith)

-- what `fraction_text` writes are digits
pub fraction_all : (k n : ℕ) → n < 10 ^ k → All Digit (fraction_text k n)
fraction_all zero n below = All-nil Digit
fraction_all (suc k) n below =
    elim (n == 0) as (λ b. All Digit (cond b [] ((48 + n / 10 ^ k) ∷ fraction_text k (n % 10 ^ k)))) [
      | true ↦ All-nil Digit
      | false ↦ All-cons Digit (48 + n / 10 ^ k) (fraction_text k (n % 10 ^ k)) (digit_of (n / 10 ^ k) (first_below k n below)) (fraction_all k (n % 10 ^ k) (mod_below n (10 ^ k) (ten_pos k)))
    ]

-- the first digit of a fraction that is not 0
pub fraction_some : (k n : ℕ) → 0 < n → fraction_text (suc k) n ≡ (48 + n / 10 ^ k) ∷ fraction_text k (n % 10 ^ k)
fraction_some k n some = cond-false _ _ _ (not_zero n some)

-- the digits before the point of a number from 1 on
pub whole_some : (n : ℕ) → 0 < n → whole_text n ≡ decimal n
whole_some n some = cond-false _ _ _ (not_zero n some)

-- the point and the digits after it, if they are not 0
pub point_some : (n : ℕ) → 0 < n → point_text n ≡ 46 ∷ fraction_text 18 n
point_some n some = cond-false _ _ _ (not_zero n some)

-- the text of a size that is not 0
pub size_some : (n : ℕ) → 0 < n → size_text n ≡ whole_text (n / 10 ^ 18) ++ point_text (n % 10 ^ 18)
unfolding size_text
size_some n some = cond-false _ _ _ (not_zero n some)

-- the value of one more digit of a fraction
digit_step : (a d r n v t l : ℕ) → d * t + r ≡ n → v * t ≡ ((a * 10 + d) * t + r) * l → v * (t * 10) ≡ (a * (t * 10) + n) * (l * 10)
digit_step a d r n v t l parts e =
    let whole : n * l ≡ (d * t + r) * l = ap (λ x. x * l) (sym parts) in
    omega arith

-- the digits of a fraction after those of a are a * 10 ^ k + n over 10 ^ k
fraction_value : (k n a : ℕ) → n < 10 ^ k → digits_after a (fraction_text k n) * 10 ^ k ≡ (a * 10 ^ k + n) * 10 ^ length (fraction_text k n)
fraction_value zero n a below = omega arith
fraction_value (suc k) zero a below = omega arith
fraction_value (suc k) (suc n) a below =
    ap (λ f. digits_after a f * 10 ^ suc k) (fraction_some k (suc n) (omega arith))
    ∙ written k (suc n) a (fraction_text k (suc n % 10 ^ k)) (fraction_value k (suc n % 10 ^ k) (a * 10 + suc n / 10 ^ k) (mod_below (suc n) (10 ^ k) (ten_pos k)))
    ∙ ap (λ f. (a * 10 ^ suc k + suc n) * 10 ^ length f) (sym (fraction_some k (suc n) (omega arith)))
  where
    written : (k n a : ℕ) (f : List ℕ) → digits_after (a * 10 + n / 10 ^ k) f * 10 ^ k ≡ ((a * 10 + n / 10 ^ k) * 10 ^ k + n % 10 ^ k) * 10 ^ length f → digits_after a ((48 + n / 10 ^ k) ∷ f) * 10 ^ suc k ≡ (a * 10 ^ suc k + n) * 10 ^ length ((48 + n / 10 ^ k) ∷ f)
    written k n a f rest =
        let digit : with_digit a (48 + n / 10 ^ k) ≡ a * 10 + n / 10 ^ k = omega arith in
        let step : digits_after (a * 10 + n / 10 ^ k) f * (10 ^ k * 10) ≡ (a * (10 ^ k * 10) + n) * (10 ^ length f * 10) = digit_step a (n / 10 ^ k) (n % 10 ^ k) n (digits_after (a * 10 + n / 10 ^ k) f) (10 ^ k) (10 ^ length f) (div-add-mod' n (10 ^ k)) rest in
        ap (λ x. digits_after x f * 10 ^ suc k) digit
        ∙ ap (λ x. digits_after (a * 10 + n / 10 ^ k) f * x) (ten_more k)
        ∙ step
        ∙ ap (λ x. (a * x + n) * (10 ^ length f * 10)) (sym (ten_more k))
        ∙ ap (λ x. (a * 10 ^ suc k + n) * x) (sym (ten_more (length f)))

-- what `decimal` writes are digits, with the number as their value
pub decimal_reads : (n : ℕ) → n < 2 ^ 64 → All Digit (decimal n) × (digits_after 0 (decimal n) ≡ n)
decimal_reads =
    decimal_by_steps (λ n ds. All Digit ds × (digits_after 0 ds ≡ n))
    (λ n below. (All-cons Digit (48 + n) [] (digit_of n below) (All-nil Digit), omega arith))
    (λ n ds big h. (All-push Digit ds (48 + n % 10) h.0 (digit_of (n % 10) (mod_below n 10 (omega arith))), push n ds h.1))
  where
    back : (n : ℕ) → with_digit (n / 10) (48 + n % 10) ≡ n
    back n = omega arith

    push : (n : ℕ) (ds : List ℕ) → digits_after 0 ds ≡ n / 10 → digits_after 0 (ds ++ ((48 + n % 10) ∷ [])) ≡ n
    push n ds e = fold_push with_digit 0 ds (48 + n % 10) ∙ ap (λ x. with_digit x (48 + n % 10)) e ∙ back n

-- what `whole_text` writes are digits
pub whole_all : (n : ℕ) → n < 2 ^ 64 → All Digit (whole_text n)
whole_all zero below = All-nil Digit
whole_all (suc n) below = subst (All Digit) (sym (whole_some (suc n) (omega arith))) (decimal_reads (suc n) below).0

-- with the number as their value
pub whole_value : (n : ℕ) → n < 2 ^ 64 → digits_after 0 (whole_text n) ≡ n
whole_value zero below = refl
whole_value (suc n) below = ap (digits_after 0) (whole_some (suc n) (omega arith)) ∙ (decimal_reads (suc n) below).1

-- the size of the text of w + f / 10 ^ 18: its digits, over a power of ten
size_of_text : (kept w f : ℕ) → w < 2 ^ 64 → f < 10 ^ 18 → literal_size kept (whole_text w ++ point_text f) ≡ round_size kept (digits_after 0 (whole_text w ++ fraction_text 18 f) * 10 ^ 0) (10 ^ (length (fraction_text 18 f) + 0))
size_of_text kept w zero below_w below_f =
    ap (literal_size kept) (append-nil (whole_text w)) ∙ size_of_whole kept (whole_text w) (whole_all w below_w)
size_of_text kept w (suc f) below_w below_f =
    let one : length (fraction_text 18 (suc f)) ≡ suc (length (fraction_text 17 (suc f % 10 ^ 17))) = ap length (fraction_some 17 (suc f) (omega arith)) in
    ap (λ t. literal_size kept (whole_text w ++ t)) (point_some (suc f) (omega arith))
    ∙ size_of_pointed kept (whole_text w) (fraction_text 18 (suc f)) (whole_all w below_w) (fraction_all 18 (suc f) below_f) (omega arith)

-- the digits of the text of w + f / 10 ^ 18, as a number
value_of_text : (w f : ℕ) → w < 2 ^ 64 → f < 10 ^ 18 → digits_after 0 (whole_text w ++ fraction_text 18 f) * 10 ^ 18 ≡ (w * 10 ^ 18 + f) * 10 ^ length (fraction_text 18 f)
value_of_text w f below_w below_f =
    ap (λ x. x * 10 ^ 18) (fold-append with_digit 0 (whole_text w) (fraction_text 18 f) ∙ ap (λ x. digits_after x (fraction_text 18 f)) (whole_value w below_w))
    ∙ fraction_value 18 f w below_f

-- a size that is read is the one that was written
read_back : (kept n v k : ℕ) → v * 10 ^ 18 ≡ n * 10 ^ k → IsNumber kept (pos n) → round_size kept (v * 10 ^ 0) (10 ^ (k + 0)) ≡ Some n
read_back kept n v k e number =
    ap (λ x. round_size kept x (10 ^ (k + 0))) (one v) ∙ ap (λ x. round_size kept v (10 ^ x)) (none k)
    ∙ exact_number kept v (10 ^ k) n (ten_pos k) (sym e) number
  where
    one : (v : ℕ) → v * 10 ^ 0 ≡ v
    one v = omega arith

    none : (k : ℕ) → k + 0 ≡ k
    none k = omega arith

-- the parts of a size before and after the point
pub size_parts : (n : ℕ) → n < 10 ^ 36 → (n / 10 ^ 18 < 2 ^ 64) × (n % 10 ^ 18 < 10 ^ 18) × (n / 10 ^ 18 * 10 ^ 18 + n % 10 ^ 18 ≡ n)
size_parts n below = (omega arith, omega arith, omega arith)

-- the text of a number has its size
text_size : (kept n : ℕ) → IsNumber kept (pos n) → literal_size kept (size_text n) ≡ Some n
unfolding size_text
text_size kept zero number =
    size_of_whole kept (48 ∷ []) (All-cons Digit 48 [] refl (All-nil Digit)) ∙ read_back kept 0 0 0 (omega arith) number
text_size kept (suc n) number = written kept (suc n) (omega arith) number
  where
    written : (kept n : ℕ) → 0 < n → IsNumber kept (pos n) → literal_size kept (size_text n) ≡ Some n
    written kept n some number =
        let parts = size_parts n number.in_range in
        ap (literal_size kept) (size_some n some)
        ∙ size_of_text kept (n / 10 ^ 18) (n % 10 ^ 18) parts.0 parts.1
        ∙ read_back kept n _ _ (value_of_text (n / 10 ^ 18) (n % 10 ^ 18) parts.0 parts.1 ∙ ap (λ x. x * 10 ^ length (fraction_text 18 (n % 10 ^ 18))) parts.2) number

-- a text without a sign in front
pub record IsUnsigned (s : List ℕ) : Type 0 where
  pub positive : is_negated s ≡ false
  pub none : prefix_len is_sign s ≡ 0

-- digits are no signs
pub digits_unsigned : (xs rest : List ℕ) → All Digit xs → IsUnsigned rest → IsUnsigned (xs ++ rest)
digits_unsigned [] rest all unsigned = unsigned
digits_unsigned (x ∷ xs) rest all unsigned =
    let digit : Digit x = All-head Digit x xs all in
    record { positive = cond-false _ _ _ (no_minus x digit) ∙ cond-false _ _ _ (no_plus x digit); none = cond-false _ _ _ (no_sign x digit) }
  where
    no_minus : (c : ℕ) → Digit c → (c == 45) ≡ false
    no_minus c h = grind (arith, nat_tests)

    no_plus : (c : ℕ) → Digit c → (c == 43) ≡ false
    no_plus c h = grind (arith, nat_tests)

    no_sign : (c : ℕ) → Digit c → is_sign c ≡ false
    no_sign c h = grind (arith, nat_tests)

-- a point is no sign
point_unsigned : (f : ℕ) → IsUnsigned (point_text f)
point_unsigned zero = record { positive = refl; none = refl }
point_unsigned (suc f) = subst IsUnsigned (sym (point_some (suc f) (omega arith))) (record { positive = refl; none = refl })

-- the text of a size has no sign in front
size_unsigned : (n : ℕ) → n < 10 ^ 36 → IsUnsigned (size_text n)
unfolding size_text
size_unsigned zero below = record { positive = refl; none = refl }
size_unsigned (suc n) below = written (suc n) (omega arith) below
  where
    written : (n : ℕ) → 0 < n → n < 10 ^ 36 → IsUnsigned (size_text n)
    written n some below =
        subst IsUnsigned (sym (size_some n some))
        (digits_unsigned (whole_text (n / 10 ^ 18)) (point_text (n % 10 ^ 18)) (whole_all (n / 10 ^ 18) (size_parts n below).0) (point_unsigned (n % 10 ^ 18)))

-- what is read of a text without a sign
pub unsigned_value : (kept : ℕ) (s : List ℕ) → IsUnsigned s → numeric_value kept s ≡ option_map (signed false) (literal_size kept s)
unfolding numeric_value
unsigned_value kept s h =
    ap (λ b. option_map (signed b) (literal_size kept (after_signs s))) h.positive
    ∙ ap (λ k. option_map (signed false) (literal_size kept (drop k s))) h.none

-- what is read after one minus sign
minus_value : (kept : ℕ) (s : List ℕ) → IsUnsigned s → numeric_value kept (45 ∷ s) ≡ option_map (signed true) (literal_size kept s)
unfolding numeric_value
minus_value kept s h =
    ap (λ b. option_map (signed (not b)) (literal_size kept (after_signs (45 ∷ s)))) h.positive
    ∙ ap (λ k. option_map (signed true) (literal_size kept (drop (1 + k) (45 ∷ s)))) h.none

-- the text of a number has that number as its value
pub text_has_value : TextHasValue
text_has_value kept (pos n) number =
    unsigned_value kept (size_text n) (size_unsigned n number.in_range) ∙ ap (option_map (signed false)) (text_size kept n number)
text_has_value kept (negsuc n) number =
    minus_value kept (size_text (suc n)) (size_unsigned (suc n) number.in_range)
    ∙ ap (option_map (signed true)) (text_size kept (suc n) (record { in_range = number.in_range; few_digits = number.few_digits }))

-- a canonical text is the text of its value
pub canonical_is_text : CanonicalIsText
canonical_is_text kept u s canonical value =
    let same : canonical.number ≡ u = cc (canonical.value, value) in
    sym canonical.text ∙ ap number_text same

-- what is read of a text is a number
pub value_is_number : (kept : ℕ) (s : List ℕ) (u : ℤ) → 0 < kept → numeric_value kept s ≡ Some u → IsNumber kept u
unfolding numeric_value literal_size
value_is_number kept s u some e =
    rounded_size kept _ _ (is_negated s) u some (ten_pos _) e
  where
    rounded_size : (kept p q : ℕ) (b : Bool) (u : ℤ) → 0 < kept → 0 < q → option_map (signed b) (round_size kept p q) ≡ Some u → IsNumber kept u
    rounded_size kept p q b u some below e = rounded_is_number kept (signed b p) q u some below (round_is kept p q b below ∙ e)

-- a number of fewer digits is also one of more
more_digits : (fewer more : ℕ) (u : ℤ) → fewer ≤ more → IsNumber fewer u → IsNumber more u
more_digits fewer more u h number =
    let few = number.few_digits in
    record { in_range = number.in_range; few_digits = (few.0, few.1, omega (arith, ten_monotone fewer more 1 h), few.3) }

-- a text that is canonical with fewer digits is also canonical with more, and has the same value
pub canonical_by_more_digits : CanonicalByMoreDigits
canonical_by_more_digits fewer more s some h canonical =
    let number : IsNumber more canonical.number = more_digits fewer more canonical.number h (value_is_number fewer s canonical.number some canonical.value) in
    let value : numeric_value more s ≡ Some canonical.number = ap (numeric_value more) (sym canonical.text) ∙ text_has_value more canonical.number number in
    (record { number = canonical.number; value = value; text = canonical.text }, value ∙ sym canonical.value)
