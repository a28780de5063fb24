-- SPDX-License-Identifier: Apache-2.0
-- The parts of a literal.
use Rattle.mnum.proofs.NumWords.{ℕ, ◌≡◌, ◌+◌, ◌*◌, ◌^◌, ◌<◌, ◌≤◌, Bool, true, false, cond, not, eqb, Option, List, ◌++◌, drop, length, get_or, refl, sym, ◌∙◌}
use Rattle.mnum.proofs.NumWords.{ap, subst, arith, inl, inr, ⊎_elim, add-one, drop-cons, option_map, nat_tests, fold-append, prefix_len_is, prefix_len, IsHead}
use Rattle.mnum.proofs.NumWords.{IsCapped, is_digit, with_digit, digits_after, round_size, signed, is_sign, is_negated, front_digits, fraction_digits}
use Rattle.mnum.proofs.NumWords.{after_digits, after_fraction, front_exponent, literal_size, numeric_value}

negated_at : (s : List ℕ) (i : ℕ) → i < length s → is_negated (drop i s) ≡ cond (eqb (get_or s i 0) 45) (not (is_negated (drop (i + 1) s))) (cond (eqb (get_or s i 0) 43) (is_negated (drop (i + 1) s)) false)
negated_at s i h = rw (add-one, drop-cons s i 0) refl

flag : (b : Bool) → cond b (not false) false ≡ b
flag true = refl
flag false = refl

pub signs_stop : (b : Bool) (s : List ℕ) (i : ℕ) → i < length s → (get_or s i 0 ≡ 45 → ⊥) → (get_or s i 0 ≡ 43 → ⊥) → is_negated s ≡ cond b (not (is_negated (drop i s))) (is_negated (drop i s)) → b ≡ is_negated s
signs_stop b s i h minus plus w =
    let at : is_negated (drop i s) ≡ false = negated_at s i h ∙ grind (arith, nat_tests) in
    sym (w ∙ ap (λ r. cond b (not r) r) at ∙ flag b)

pub signs_is : (s : List ℕ) (i : ℕ) → i ≤ length s → ((k : ℕ) → k < i → is_sign (get_or s k 0) ≡ true) → (i < length s → is_sign (get_or s i 0) ≡ false) → i ≡ prefix_len is_sign s
signs_is s i h all stop = sym (prefix_len_is is_sign s i 0 h all stop)

pub is_sign_false : (c : ℕ) → (c ≡ 45 → ⊥) → (c ≡ 43 → ⊥) → is_sign c ≡ false
is_sign_false c a b = grind (arith, nat_tests)

-- what a literal's size is, from its parts
pub literal_is : (kept : ℕ) (s : List ℕ) (a down : ℕ) (x : Option ℕ) →
    a ≡ cond (front_exponent (after_fraction (after_digits s))).0 0 (front_exponent (after_fraction (after_digits s))).1 →
    down ≡ length (fraction_digits (after_digits s)) + cond (front_exponent (after_fraction (after_digits s))).0 (front_exponent (after_fraction (after_digits s))).1 0 →
    x ≡ round_size kept (digits_after (digits_after 0 (front_digits s)) (fraction_digits (after_digits s)) * 10 ^ a) (10 ^ down) →
    x ≡ literal_size kept s
unfolding literal_size
literal_is kept s a down x ea ed e =
    e ∙ ap (λ n. round_size kept (n * 10 ^ a) (10 ^ down)) (sym (fold-append with_digit 0 (front_digits s) (fraction_digits (after_digits s))))
    ∙ ap (λ k. round_size kept (digits_after 0 (front_digits s ++ fraction_digits (after_digits s)) * 10 ^ k) (10 ^ down)) ea
    ∙ ap (λ k. round_size kept (digits_after 0 (front_digits s ++ fraction_digits (after_digits s)) * 10 ^ cond (front_exponent (after_fraction (after_digits s))).0 0 (front_exponent (after_fraction (after_digits s))).1) (10 ^ k)) ed

-- the same, of texts that were cut off by code
pub literal_read : (kept : ℕ) (s rest tail : List ℕ) (count fraction size : ℕ) (b : Bool) (n d : ℕ) (x : Option ℕ) (raise lower : ℕ) →
    rest ≡ drop count s → count ≡ prefix_len is_digit s →
    fraction ≡ length (fraction_digits rest) → tail ≡ after_fraction rest →
    b ≡ (front_exponent tail).0 → IsCapped size (front_exponent tail).1 →
    IsHead n d (digits_after (digits_after 0 (front_digits s)) (fraction_digits rest)) →
    raise ≡ cond b 0 size → lower ≡ fraction + cond b size 0 →
    ((number a down : ℕ) → IsHead n d number → IsCapped raise a → IsCapped lower down → x ≡ round_size kept (number * 10 ^ a) (10 ^ down)) →
    x ≡ literal_size kept s
literal_read kept s rest tail count fraction size b n d x raise lower rest_is count_is fraction_is tail_is b_is capped head raise_is lower_is value =
    let R : List ℕ = after_digits s in
    let rest_eq : rest ≡ R = rest_is ∙ ap (λ k. drop k s) count_is in
    let tail_eq : tail ≡ after_fraction R = tail_is ∙ ap after_fraction rest_eq in
    let E : Bool × ℕ = front_exponent (after_fraction R) in
    let sign : b ≡ E.0 = b_is ∙ ap (λ t. (front_exponent t).0) tail_eq in
    let cap : IsCapped size E.1 = subst (λ (t : List ℕ). IsCapped size (front_exponent t).1) tail_eq capped in
    let heads : IsHead n d (digits_after (digits_after 0 (front_digits s)) (fraction_digits R)) = subst (λ (t : List ℕ). IsHead n d (digits_after (digits_after 0 (front_digits s)) (fraction_digits t))) rest_eq head in
    let count_eq : fraction ≡ length (fraction_digits R) = fraction_is ∙ ap (λ t. length (fraction_digits t)) rest_eq in
    literal_is kept s (cond b 0 E.1) (fraction + cond b E.1 0) x (ap (λ t. cond t 0 E.1) sign)
    (ap (λ k. k + cond b E.1 0) count_eq ∙ ap (λ t. length (fraction_digits R) + cond t E.1 0) sign)
    (value (digits_after (digits_after 0 (front_digits s)) (fraction_digits R)) (cond b 0 E.1) (fraction + cond b E.1 0) heads
    (subst (λ (k : ℕ). IsCapped k (cond b 0 E.1)) (sym raise_is) (capped_cond b 0 0 size E.1 (inl refl) cap))
    (subst (λ (k : ℕ). IsCapped k (fraction + cond b E.1 0)) (sym lower_is) (capped_add fraction (cond b size 0) (cond b E.1 0) (capped_cond b size E.1 0 0 cap (inl refl)))))
  where
    capped_cond : (b : Bool) (r n r' n' : ℕ) → IsCapped r n → IsCapped r' n' → IsCapped (cond b r r') (cond b n n')
    capped_cond true r n r' n' v w = v
    capped_cond false r n r' n' v w = w

    capped_add : (f r n : ℕ) → IsCapped r n → IsCapped (f + r) (f + n)
    capped_add f r n w = ⊎_elim (λ (e : r ≡ n). inl (ap (λ x. f + x) e)) (λ (k : (10 ^ 20 ≤ r) × (10 ^ 20 ≤ n)). inr (omega arith, omega arith)) w

pub value_is : (kept : ℕ) (s rest : List ℕ) (b : Bool) (count : ℕ) (x : Option ℕ) → b ≡ is_negated s → count ≡ prefix_len is_sign s → rest ≡ drop count s → x ≡ literal_size kept rest → numeric_value kept s ≡ option_map (signed b) x
unfolding numeric_value
value_is kept s rest b count x b_is count_is rest_is x_is =
    let rest_eq : rest ≡ drop (prefix_len is_sign s) s = rest_is ∙ ap (λ k. drop k s) count_is in
    ap (λ t. option_map (signed t) (literal_size kept (drop (prefix_len is_sign s) s))) (sym b_is)
    ∙ ap (option_map (signed b)) (sym (x_is ∙ ap (literal_size kept) rest_eq))
