-- SPDX-License-Identifier: Apache-2.0
-- Texts of numbers.
use Rattle.mnum.proofs.NumWords.{ℕ, zero, suc, ◌≡◌, ◌+◌, ◌*◌, ◌-◌, ◌/◌, ◌%◌, ◌^◌, ◌<◌, ◌≤◌, Bool, true, false, not, cond, eqb, List, [], ◌∷◌, ◌++◌, length}
use Rattle.mnum.proofs.NumWords.{refl, sym, ◌∙◌, ap, subst, arith, append_assoc, decimal, append-nil, mul-div-mul_right, div-add-mod', mod_below, nat_tests}
use Rattle.mnum.proofs.NumWords.{ten_pos, ten_add, signed, fraction_text, whole_text, point_text, size_text, number_text, text_of_whole, zero-mul, mul-pos}
use Rattle.std.proofs.lemmas.Fmt.{length-decimal-le}

eqb_zero : (n : ℕ) → 0 < n → eqb n 0 ≡ false
eqb_zero n h = grind (arith, nat_tests)

pub fraction_more : (k n unit : ℕ) (out : List ℕ) → 0 < n → n < 10 ^ k → unit ≡ 10 ^ (k - 1) → (out ++ ((48 + n / unit) ∷ [])) ++ fraction_text (k - 1) (n % unit) ≡ out ++ fraction_text k n
fraction_more zero n unit out some below is = absurd (omega arith)
fraction_more (suc k) n unit out some below is =
    let unit_is : unit ≡ 10 ^ k = is ∙ ap (λ x. 10 ^ x) (omega arith) in
    let less : suc k - 1 ≡ k = omega arith in
    ap (λ x. (out ++ ((48 + n / unit) ∷ [])) ++ fraction_text x (n % unit)) less
    ∙ ap (λ x. (out ++ ((48 + n / x) ∷ [])) ++ fraction_text k (n % x)) unit_is
    ∙ append_assoc out ((48 + n / 10 ^ k) ∷ []) (fraction_text k (n % 10 ^ k))
    ∙ ap (λ b. out ++ cond b [] ((48 + n / 10 ^ k) ∷ fraction_text k (n % 10 ^ k))) (sym (eqb_zero n some))

pub fraction_zero : (k : ℕ) → fraction_text k 0 ≡ []
fraction_zero zero = refl
fraction_zero (suc k) = refl

-- a quotient and a remainder, both sides times u
pub scaled_quotient : (f P u : ℕ) → 0 < u → f * u / (P * u) ≡ f / P
scaled_quotient f P u h = mul-div-mul_right f P h

pub scaled_remainder : (f P u : ℕ) → 0 < u → f * u % (P * u) ≡ f % P * u
scaled_remainder f P u h =
    let whole : f * u / (P * u) * (P * u) + f * u % (P * u) ≡ f * u = div-add-mod' (f * u) (P * u) in
    let one : f / P * P + f % P ≡ f = div-add-mod' f P in
    let same : f * u / (P * u) * (P * u) ≡ f / P * (P * u) = ap (λ x. x * (P * u)) (scaled_quotient f P u h) in
    let both : (f / P * P + f % P) * u ≡ f * u = ap (λ x. x * u) one in
    omega arith

same_test : (f j : ℕ) → eqb (f * 10 ^ j) 0 ≡ eqb f 0
same_test zero j = ap (λ x. eqb x 0) (zero-mul (10 ^ j))
same_test (suc f) j = eqb_zero (suc f * 10 ^ j) (mul-pos (omega arith) (ten_pos j)) ∙ sym (eqb_zero (suc f) (omega arith))

pub fraction_scaled : (k j m f : ℕ) → m ≡ k + j → f < 10 ^ k → fraction_text m (f * 10 ^ j) ≡ fraction_text k f
fraction_scaled zero j m f e below =
    let none : f ≡ 0 = omega arith in
    let value : f * 10 ^ j ≡ 0 = ap (λ x. x * 10 ^ j) none ∙ omega arith in
    ap (fraction_text m) value ∙ fraction_zero m
fraction_scaled (suc k) j zero f e below = absurd (omega arith)
fraction_scaled (suc k) j (suc m) f e below =
    let exponent : m ≡ k + j = omega arith in
    let split : 10 ^ m ≡ 10 ^ k * 10 ^ j = ap (λ x. 10 ^ x) exponent ∙ ten_add k j in
    let first : f * 10 ^ j / 10 ^ m ≡ f / 10 ^ k = ap (λ x. f * 10 ^ j / x) split ∙ scaled_quotient f (10 ^ k) (10 ^ j) (ten_pos j) in
    let rest : f * 10 ^ j % 10 ^ m ≡ f % 10 ^ k * 10 ^ j = ap (λ x. f * 10 ^ j % x) split ∙ scaled_remainder f (10 ^ k) (10 ^ j) (ten_pos j) in
    let deeper : fraction_text m (f % 10 ^ k * 10 ^ j) ≡ fraction_text k (f % 10 ^ k) = fraction_scaled k j m (f % 10 ^ k) exponent (mod_below f (10 ^ k) (ten_pos k)) in
    ap (λ b. cond b [] ((48 + f * 10 ^ j / 10 ^ m) ∷ fraction_text m (f * 10 ^ j % 10 ^ m))) (same_test f j)
    ∙ ap (λ x. cond (eqb f 0) [] ((48 + x) ∷ fraction_text m (f * 10 ^ j % 10 ^ m))) first
    ∙ ap (λ t. cond (eqb f 0) [] ((48 + f / 10 ^ k) ∷ t)) (ap (fraction_text m) rest ∙ deeper)

-- the parts of a size, in its own places
pub size_parts : (d p : ℕ) → p ≤ 18 → 0 < d → size_text (d * 10 ^ (18 - p)) ≡ whole_text (d / 10 ^ p) ++ cond (eqb (d % 10 ^ p) 0) [] (46 ∷ fraction_text p (d % 10 ^ p))
unfolding size_text
size_parts d p near some =
    let u : ℕ = 10 ^ (18 - p) in
    let split : 10 ^ 18 ≡ 10 ^ p * u = ap (λ x. 10 ^ x) (sum p near) ∙ ten_add p (18 - p) in
    let pos : 0 < d * u = mul-pos some (ten_pos (18 - p)) in
    let whole : d * u / 10 ^ 18 ≡ d / 10 ^ p = ap (λ x. d * u / x) split ∙ scaled_quotient d (10 ^ p) u (ten_pos (18 - p)) in
    let part : d * u % 10 ^ 18 ≡ d % 10 ^ p * u = ap (λ x. d * u % x) split ∙ scaled_remainder d (10 ^ p) u (ten_pos (18 - p)) in
    ap (λ b. cond b (48 ∷ []) (whole_text (d * u / 10 ^ 18) ++ point_text (d * u % 10 ^ 18))) (eqb_zero (d * u) pos)
    ∙ ap (λ x. whole_text x ++ point_text (d * u % 10 ^ 18)) whole
    ∙ ap (λ x. whole_text (d / 10 ^ p) ++ point_text x) part
    ∙ ap (λ t. whole_text (d / 10 ^ p) ++ t)
    (ap (λ b. cond b [] (46 ∷ fraction_text 18 (d % 10 ^ p * u))) (same_test (d % 10 ^ p) (18 - p))
    ∙ ap (λ t. cond (eqb (d % 10 ^ p) 0) [] (46 ∷ t)) (fraction_scaled p (18 - p) 18 (d % 10 ^ p) (sum p near) (mod_below d (10 ^ p) (ten_pos p))))
  where
    sum : (p : ℕ) → p ≤ 18 → 18 ≡ p + (18 - p)
    sum p near = omega arith

sign_text : (b : Bool) (n : ℕ) → 0 < n → number_text (signed b n) ≡ cond b (45 ∷ []) [] ++ size_text n
sign_text b zero h = absurd (omega arith)
sign_text false (suc n) h = refl
sign_text true (suc n) h = refl

pub text_zero : (b : Bool) (d p : ℕ) → d ≡ 0 → number_text (signed b (d * 10 ^ (18 - p))) ≡ 48 ∷ []
unfolding size_text
text_zero false d p e = ap (λ x. number_text (signed false x)) (ap (λ x. x * 10 ^ (18 - p)) e ∙ zero-mul (10 ^ (18 - p)))
text_zero true d p e = ap (λ x. number_text (signed true x)) (ap (λ x. x * 10 ^ (18 - p)) e ∙ zero-mul (10 ^ (18 - p)))

text_of_parts : (b : Bool) (d p whole fraction : ℕ) → p ≤ 18 → 0 < d → whole ≡ d / 10 ^ p → fraction ≡ d % 10 ^ p →
    cond b (45 ∷ []) [] ++ (whole_text whole ++ cond (eqb fraction 0) [] (46 ∷ fraction_text p fraction)) ≡ number_text (signed b (d * 10 ^ (18 - p)))
text_of_parts b d p whole fraction near some whole_is fraction_is =
    let text : ℕ → ℕ → List ℕ = λ w r. cond b (45 ∷ []) [] ++ (whole_text w ++ cond (eqb r 0) [] (46 ∷ fraction_text p r)) in
    ap (λ w. text w fraction) whole_is ∙ ap (text (d / 10 ^ p)) fraction_is ∙ ap (λ t. cond b (45 ∷ []) [] ++ t) (sym (size_parts d p near some))
    ∙ sym (sign_text b (d * 10 ^ (18 - p)) (mul-pos some (ten_pos (18 - p))))

pub text_some : (b : Bool) (d p whole fraction : ℕ) (first second out : List ℕ) → p ≤ 18 → 0 < d → whole ≡ d / 10 ^ p → fraction ≡ d % 10 ^ p → first ≡ cond b (45 ∷ []) [] → second ≡ first ++ whole_text whole → 0 < fraction → out ≡ (second ++ (46 ∷ [])) ++ fraction_text p fraction → out ≡ number_text (signed b (d * 10 ^ (18 - p)))
text_some b d p whole fraction first second out near some whole_is fraction_is f s more o =
    o ∙ ap (λ t. (t ++ (46 ∷ [])) ++ fraction_text p fraction) (s ∙ ap (λ t. t ++ whole_text whole) f)
    ∙ append_assoc (cond b (45 ∷ []) [] ++ whole_text whole) (46 ∷ []) (fraction_text p fraction)
    ∙ append_assoc (cond b (45 ∷ []) []) (whole_text whole) (46 ∷ fraction_text p fraction)
    ∙ ap (λ t. cond b (45 ∷ []) [] ++ (whole_text whole ++ cond t [] (46 ∷ fraction_text p fraction))) (sym (eqb_zero fraction more))
    ∙ text_of_parts b d p whole fraction near some whole_is fraction_is

pub text_whole : (b : Bool) (d p whole fraction : ℕ) (first out : List ℕ) → p ≤ 18 → 0 < d → whole ≡ d / 10 ^ p → fraction ≡ d % 10 ^ p → first ≡ cond b (45 ∷ []) [] → out ≡ first ++ whole_text whole → fraction ≤ 0 → out ≡ number_text (signed b (d * 10 ^ (18 - p)))
text_whole b d p whole fraction first out near some whole_is fraction_is f o none =
    let zero_part : fraction ≡ 0 = omega arith in
    o ∙ ap (λ t. t ++ whole_text whole) f
    ∙ ap (λ t. cond b (45 ∷ []) [] ++ t) (sym (append-nil (whole_text whole)))
    ∙ ap (λ x. cond b (45 ∷ []) [] ++ (whole_text whole ++ cond (eqb x 0) [] (46 ∷ fraction_text p x))) (sym zero_part)
    ∙ text_of_parts b d p whole fraction near some whole_is fraction_is

pub decimal_short : (n : ℕ) (bs : List ℕ) → n < 10 ^ 18 → bs ≡ decimal n → length bs ≤ 18
decimal_short n bs h e = subst (λ (t : List ℕ). length t ≤ 18) (sym e) (length-decimal-le 18 n (omega arith) h (omega arith))

-- the text of a whole number from 1 on
pub text_of_digits : (b : Bool) (d p : ℕ) → not b ≡ true → p ≡ 0 → 0 < d → decimal d ≡ number_text (signed b (d * 10 ^ (18 - p)))
text_of_digits true d p positive none some = cc
text_of_digits false d p positive none some = sym (text_of_whole d some) ∙ ap (λ x. number_text (signed false (d * 10 ^ (18 - x)))) (sym none)
