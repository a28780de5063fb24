-- SPDX-License-Identifier: Apache-2.0
-- Pieces by a delimiter of one character, character by character.
use Rattle.mtext.proofs.TextWords.{◌≡◌, ℕ, zero, suc, ◌+◌, ◌≤◌, ◌<◌, Bool, true, false, cond, eqb, List, [], ◌∷◌, length, get_or, take, drop, refl, sym, ap}
use Rattle.mtext.proofs.TextWords.{subst, ◌∙◌, arith, slice_range, count_by, ◌&&◌, onto_first, eq-eqb, nat_tests, sum_by-append, sum_by-cons, is_byte}
use Rattle.mtext.proofs.TextWords.{pieces_of, closed, IsBehind, eqb-true}
use Rattle.mtext.proofs.PatternSlices.{front_and_part}

-- ---- the pieces of a text with one more character before it

pieces_step : (c x : ℕ) (s : List ℕ) (b : Bool) → eqb c x ≡ b → pieces_of (c ∷ []) (x ∷ s) ≡ cond (b && true) ([] ∷ pieces_of (c ∷ []) s) (onto_first x (pieces_of (c ∷ []) s))
unfolding pieces_of
pieces_step c x s b is = ap (λ (b : Bool). cond (b && true) ([] ∷ pieces_of (c ∷ []) s) (onto_first x (pieces_of (c ∷ []) s))) is

at_delimiter : (c s' : ℕ) (s : List ℕ) → s' ≡ c → pieces_of (c ∷ []) (s' ∷ s) ≡ [] ∷ pieces_of (c ∷ []) s
at_delimiter c x s same = pieces_step c x s true (eq-eqb c x (sym same))

at_other : (c x : ℕ) (s : List ℕ) → eqb x c ≡ false → pieces_of (c ∷ []) (x ∷ s) ≡ onto_first x (pieces_of (c ∷ []) s)
at_other c x s other = pieces_step c x s false (grind (arith, nat_tests))

onto_length : (x : ℕ) (ps : List (List ℕ)) → 0 < length ps → length (onto_first x ps) ≡ length ps
onto_length x [] some = absurd (omega arith)
onto_length x (p ∷ ps) some = refl

-- ---- their number

counted_more : (c x : ℕ) (s : List ℕ) (b : Bool) → eqb x c ≡ b → count_by (is_byte c) (x ∷ s) ≡ cond b 1 0 + count_by (is_byte c) s
counted_more c x s b is = sum_by-cons (λ y. cond (is_byte c y) 1 0) x s ∙ ap (λ (t : Bool). cond t 1 0 + count_by (is_byte c) s) is

counted_step : (c x : ℕ) (s : List ℕ) (b : Bool) → eqb x c ≡ b → length (pieces_of (c ∷ []) s) ≡ count_by (is_byte c) s + 1 →
    length (pieces_of (c ∷ []) (x ∷ s)) ≡ count_by (is_byte c) (x ∷ s) + 1
counted_step c x s true is known = omega (arith, ap length (at_delimiter c x s (eqb-true x c is)), counted_more c x s true is)
counted_step c x s false is known =
    omega (arith, ap length (at_other c x s is), onto_length x (pieces_of (c ∷ []) s) (omega arith), counted_more c x s false is)

one_piece : (c : ℕ) → length (pieces_of (c ∷ []) []) ≡ 1
unfolding pieces_of
one_piece c = refl

-- as many as delimiters, and one
pub pieces_counted : (c : ℕ) (s : List ℕ) → length (pieces_of (c ∷ []) s) ≡ count_by (is_byte c) s + 1
pieces_counted c [] = omega (arith, one_piece c)
pieces_counted c (x ∷ s) = counted_step c x s (eqb x c) refl (pieces_counted c s)

-- the count up to a place, and from there up to a later one
pub counted_to : (p : ℕ → Bool) (s : List ℕ) (a b : ℕ) → a ≤ b → count_by p (take b s) ≡ count_by p (take a s) + count_by p (slice_range s a b)
counted_to p s a b h = ap (count_by p) (front_and_part s a b h) ∙ sum_by-append (λ y. cond (p y) 1 0) (take a s) (slice_range s a b)

-- ---- the place after a delimiter

passed : (c x : ℕ) (s : List ℕ) (n at : ℕ) → x ≡ c → IsBehind (c ∷ []) s n at → IsBehind (c ∷ []) (x ∷ s) (suc n) (suc at)
passed c x s n at same behind =
    let e : pieces_of (c ∷ []) (x ∷ s) ≡ [] ∷ pieces_of (c ∷ []) s = at_delimiter c x s same in
    record {
      inside = omega (arith, behind.inside);
      front = ap (λ (y : ℕ). y ∷ take at s) same ∙ ap (λ (t : List ℕ). c ∷ t) behind.front ∙ sym (ap (λ (ps : List (List ℕ)). closed (c ∷ []) (take (suc n) ps)) e);
      rest = behind.rest ∙ sym (ap (λ (ps : List (List ℕ)). drop (suc n) ps) e);
    }

kept : (c x : ℕ) (s : List ℕ) (n at : ℕ) (ps : List (List ℕ)) → eqb x c ≡ false → pieces_of (c ∷ []) s ≡ ps → 0 < length ps → IsBehind (c ∷ []) s (suc n) at →
    IsBehind (c ∷ []) (x ∷ s) (suc n) (suc at)
kept c x s n at [] other is some behind = absurd (omega arith)
kept c x s n at (p ∷ ps) other is some behind =
    let e : pieces_of (c ∷ []) (x ∷ s) ≡ (x ∷ p) ∷ ps = at_other c x s other ∙ ap (onto_first x) is in
    record {
      inside = omega (arith, behind.inside);
      front = ap (λ (t : List ℕ). x ∷ t) (behind.front ∙ ap (λ (qs : List (List ℕ)). closed (c ∷ []) (take (suc n) qs)) is)
          ∙ sym (ap (λ (qs : List (List ℕ)). closed (c ∷ []) (take (suc n) qs)) e);
      rest = behind.rest ∙ ap (λ (qs : List (List ℕ)). drop (suc n) qs) is ∙ sym (ap (λ (qs : List (List ℕ)). drop (suc n) qs) e);
    }

nothing_passed : (c : ℕ) (s : List ℕ) → IsBehind (c ∷ []) s 0 0
nothing_passed c s = record { inside = omega arith; front = refl; rest = refl }

later : (c x : ℕ) (s : List ℕ) (n at : ℕ) (b : Bool) → eqb x c ≡ b → IsBehind (c ∷ []) s (suc n) at → IsBehind (c ∷ []) (x ∷ s) (cond b 1 0 + suc n) (suc at)
later c x s n at true is behind =
    let same : suc (suc n) ≡ 1 + suc n = omega arith in
    subst (λ (m : ℕ). IsBehind (c ∷ []) (x ∷ s) m (suc at)) same (passed c x s (suc n) at (eqb-true x c is) behind)
later c x s n at false is behind =
    let same : suc n ≡ 0 + suc n = omega arith in
    let counted = pieces_counted c s in
    subst (λ (m : ℕ). IsBehind (c ∷ []) (x ∷ s) m (suc at)) same (kept c x s n at (pieces_of (c ∷ []) s) is refl (omega arith) behind)

behind_next : (c : ℕ) (s : List ℕ) (k : ℕ) → k < length s → get_or s k 0 ≡ c → IsBehind (c ∷ []) s (suc (count_by (is_byte c) (take k s))) (suc k)
behind_next c [] k within here = absurd (omega arith)
behind_next c (x ∷ s) zero within here = passed c x s 0 0 here (nothing_passed c s)
behind_next c (x ∷ s) (suc k) within here =
    let more = counted_more c x (take k s) (eqb x c) refl in
    let same : cond (eqb x c) 1 0 + suc (count_by (is_byte c) (take k s)) ≡ suc (count_by (is_byte c) (x ∷ take k s)) = omega (arith, more) in
    subst (λ (m : ℕ). IsBehind (c ∷ []) (x ∷ s) m (suc (suc k))) same
    (later c x s (count_by (is_byte c) (take k s)) (suc k) (eqb x c) refl (behind_next c s k (omega arith) here))

-- the place after a delimiter is after as many pieces as there are delimiters up to it
pub behind_delimiter : (c : ℕ) (s : List ℕ) (k n : ℕ) → k < length s → get_or s k 0 ≡ c → count_by (is_byte c) (take k s) + 1 ≡ n → IsBehind (c ∷ []) s n (k + 1)
behind_delimiter c s k n within here counted =
    let number : suc (count_by (is_byte c) (take k s)) ≡ n = omega arith in
    let place : suc k ≡ k + 1 = omega arith in
    subst (λ (at : ℕ). IsBehind (c ∷ []) s n at) place
    (subst (λ (m : ℕ). IsBehind (c ∷ []) s m (suc k)) number (behind_next c s k within here))
