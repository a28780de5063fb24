-- SPDX-License-Identifier: Apache-2.0
-- What is counted below a name, when the holdings change, and what it tells.
use Rattle.mlock.proofs.LockWords.{Entry, ◌≡◌, ◌<◌, ◌≤◌, ◌+◌, ◌-◌, ◌*◌, ◌^◌, ℕ, zero, suc, Bool, true, false, cond, not, ◌&&◌, ◌||◌, nat_eq, List, [], ◌∷◌}
use Rattle.mlock.proofs.LockWords.{◌++◌, length, Some, refl, sym, ap, ◌∙◌, subst, arith, nat_lt, slice_get, and_parts, or_parts, sum_by, list_any, swap_remove}
use Rattle.mlock.proofs.LockWords.{nat_tests, slice_get_within, get_or_from_slice_get, LockName, Holding, Tally, is_under, with_one, is_only, below_sum}
use Rattle.mlock.proofs.LockWords.{tally_of, too_large, HasRoom, common_steps}
use Rattle.std.proofs.lemmas.List.Sums.{sum_by-cons, sum_by-swap_remove}
use Rattle.indexmap.specs.Layout.{set_value_at}

abbrev term : (ℕ → ℕ) → LockName → Entry → ℕ
term w n e = cond (is_under n e.0) (w e.1.terminal) 0

abbrev large : Entry → ℕ
large e = cond (nat_lt e.1.terminal (2 ^ 32)) 0 1

-- ---- one name more or less

more_names : (b : Bool) (t : ℕ) (old : Tally) (x y z : ℕ) → x ≡ old.names + cond b 1 0 → y ≡ old.terminals + cond b t 0 → z ≡ old.squares + cond b (t * t) 0
    → ◌≡◌ {A = Tally} (record { names = x; terminals = y; squares = z }) (cond b (with_one t old) old)
more_names b t old x y z h e f = grind arith

pub pushed : (es : List Entry) (e : Entry) (n : LockName) → tally_of (es ++ e ∷ []) n ≡ cond (is_under n e.0) (with_one e.1.terminal (tally_of es n)) (tally_of es n)
pushed es e n = grind (arith, common_steps)

pub pushed_small : (es : List Entry) (e : Entry) → too_large es ≡ 0 → e.1.terminal < 2 ^ 32 → too_large (es ++ e ∷ []) ≡ 0
pushed_small es e small less = grind (arith, common_steps)

-- the sum of a list loses the term of what is taken out
lost : (f : Entry → ℕ) (es : List Entry) (i : ℕ) (e : Entry) → slice_get es i ≡ Some e → sum_by f es ≡ sum_by f (swap_remove es i e) + f e
lost f es i e at = grind (arith, sum_by-swap_remove f es i e (slice_get_within es i e at), get_or_from_slice_get es i e e at)

pub swapped : (es : List Entry) (i : ℕ) (e : Entry) (n : LockName) → slice_get es i ≡ Some e
    → tally_of es n ≡ cond (is_under n e.0) (with_one e.1.terminal (tally_of (swap_remove es i e) n)) (tally_of (swap_remove es i e) n)
swapped es i e n at =
    more_names (is_under n e.0) e.1.terminal (tally_of (swap_remove es i e) n) (below_sum (λ u. 1) n es) (below_sum (λ u. u) n es) (below_sum (λ u. u * u) n es)
    (lost (term (λ u. 1) n) es i e at) (lost (term (λ u. u) n) es i e at) (lost (term (λ u. u * u) n) es i e at)

pub swapped_small : (es : List Entry) (i : ℕ) (e : Entry) → slice_get es i ≡ Some e → too_large es ≡ 0 → too_large (swap_remove es i e) ≡ 0
swapped_small es i e at small = let sum : too_large es ≡ too_large (swap_remove es i e) + large e = lost large es i e at in omega (arith, sum, small)

-- a value is written that counts for as much
rewritten : (f : Entry → ℕ) (es : List Entry) (i : ℕ) (k : LockName) (v w : Holding) → slice_get es i ≡ Some (k, v) → f (k, w) ≡ f (k, v) → sum_by f (set_value_at es i w) ≡ sum_by f es
rewritten f [] i k v w at same = refl
rewritten f (e ∷ es) zero k v w at same = grind (arith, common_steps)
rewritten f (e ∷ es) (suc i) k v w at same = grind (arith, common_steps, rewritten f es i k v w at same)

module _ (es : List Entry) (i : ℕ) (k : LockName) (v w : Holding) (at : slice_get es i ≡ Some (k, v)) (own : w.terminal ≡ v.terminal) where
  pub rewritten_same : (n : LockName) → tally_of (set_value_at es i w) n ≡ tally_of es n
  rewritten_same n = grind (arith, rewritten)

  pub rewritten_small : too_large (set_value_at es i w) ≡ too_large es
  rewritten_small = rewritten large es i k v w at (ap (λ u. cond (nat_lt u (2 ^ 32)) 0 1) own)

-- ---- one name more fits

both_zero : (a b : ℕ) → a + b ≡ 0 → (a ≡ 0) × (b ≡ 0)
both_zero a b e = (omega (arith, e), omega (arith, e))

small_head : (u : ℕ) → ◌≡◌ {A = ℕ} (cond (nat_lt u (2 ^ 32)) 0 1) 0 → u < 2 ^ 32
small_head u e = grind arith

at_most : (b : Bool) (x m : ℕ) → x ≤ m → cond b x 0 ≤ m
at_most b x m h = grind arith

bound : (w : ℕ → ℕ) (m : ℕ) → ((u : ℕ) → u < 2 ^ 32 → w u ≤ m) → (n : LockName) (es : List Entry) → too_large es ≡ 0 → below_sum w n es ≤ length es * m
bound w m each n [] small = omega arith
bound w m each n (e ∷ es) small =
    let parts = both_zero (large e) (too_large es) (sym (sum_by-cons large e es) ∙ small) in
    let first : term w n e ≤ m = at_most (is_under n e.0) (w e.1.terminal) m (each e.1.terminal (small_head e.1.terminal parts.0)) in
    let rest : below_sum w n es ≤ length es * m = bound w m each n es parts.1 in
    let sum : below_sum w n (e ∷ es) ≡ term w n e + below_sum w n es = sum_by-cons (term w n) e es in
    omega (arith, first, rest, sum)

pub square_small : (u : ℕ) → u < 2 ^ 32 → u * u ≤ 18446744065119617025
square_small u h = grind arith

pub has_room : (es : List Entry) (n : LockName) → too_large es ≡ 0 → length es < 2 ^ 63 → HasRoom (tally_of es n)
has_room es n small short =
    let names : below_sum (λ u. 1) n es ≤ length es * 1 = bound (λ u. 1) 1 (λ u h. omega arith) n es small in
    let terminals : below_sum (λ u. u) n es ≤ length es * 4294967295 = bound (λ u. u) 4294967295 (λ u h. omega (arith, h)) n es small in
    let squares : below_sum (λ u. u * u) n es ≤ length es * 18446744065119617025 = bound (λ u. u * u) 18446744065119617025 square_small n es small in
    (omega (arith, names, short), omega (arith, terminals, short), omega (arith, squares, short))

-- ---- whether all are one terminal's

-- the square of how far two numbers lie apart
abbrev apart : ℕ → ℕ → ℕ
apart t u = (u - t) * (u - t) + (t - u) * (t - u)

spread : (a k : ℕ) → a * a + (a + k) * (a + k) ≡ 2 * ((a + k) * a) + k * k
spread a k = omega arith

squares_of : (t u : ℕ) → u * u + t * t ≡ 2 * (t * u) + apart t u
squares_of t u = by_order (t - u) (u - t) refl refl
  where
    by_order : (x y : ℕ) → x ≡ t - u → y ≡ u - t → u * u + t * t ≡ 2 * (t * u) + (y * y + x * x)
    by_order x zero e f =
        let is : t ≡ u + x = omega (arith, e, f) in
        subst (λ v. u * u + v * v ≡ 2 * (v * u) + (0 * 0 + x * x)) (sym is) (let s = spread u x in omega (arith, s))
    by_order x (suc y) e f =
        let is : u ≡ t + suc y = omega (arith, f) in
        let none : x ≡ 0 = omega (arith, e, f) in
        subst (λ v. v * v + t * t ≡ 2 * (t * v) + (suc y * suc y + x * x)) (sym is)
        (subst (λ z. (t + suc y) * (t + suc y) + t * t ≡ 2 * (t * (t + suc y)) + (suc y * suc y + z * z)) (sym none) (let s = spread t (suc y) in omega (arith, s)))

not_apart : (t u : ℕ) → apart t u ≡ 0 → u ≡ t
not_apart t u e = grind arith

abbrev pub under_other : LockName → ℕ → Entry → Bool
under_other n t e = is_under n e.0 && not (nat_eq t e.1.terminal)

-- of one term, and of the sums
one_term : (b : Bool) (t u : ℕ) → cond b (u * u) 0 + t * t * cond b 1 0 ≡ 2 * (t * cond b u 0) + cond b (apart t u) 0
one_term true t u = let s = squares_of t u in omega (arith, s)
one_term false t u = omega arith

joined : (t a b c d A B C D : ℕ) → a + t * t * b ≡ 2 * (t * c) + d → A + t * t * B ≡ 2 * (t * C) + D → (a + A) + t * t * (b + B) ≡ 2 * (t * (c + C)) + (d + D)
joined t a b c d A B C D e f = omega (arith, e, f)

all_terms : (t : ℕ) (n : LockName) (es : List Entry) → below_sum (λ u. u * u) n es + t * t * below_sum (λ u. 1) n es ≡ 2 * (t * below_sum (λ u. u) n es) + below_sum (apart t) n es
all_terms t n [] = omega arith
all_terms t n (e ∷ es) =
    let whole = joined t (term (λ u. u * u) n e) (term (λ u. 1) n e) (term (λ u. u) n e) (term (apart t) n e)
    (below_sum (λ u. u * u) n es) (below_sum (λ u. 1) n es) (below_sum (λ u. u) n es) (below_sum (apart t) n es)
    (one_term (is_under n e.0) t e.1.terminal) (all_terms t n es) in
    (λ i. sum_by-cons (term (λ u. u * u) n) e es i + t * t * sum_by-cons (term (λ u. 1) n) e es i)
    ∙ whole
    ∙ (λ i. 2 * (t * sym (sum_by-cons (term (λ u. u) n) e es) i) + sym (sum_by-cons (term (apart t) n) e es) i)

none_other : (t : ℕ) (n : LockName) (es : List Entry) → below_sum (apart t) n es ≡ 0 → list_any (under_other n t) es ≡ false
none_other t n [] e = refl
none_other t n (d ∷ es) e =
    let parts = both_zero (term (apart t) n d) (below_sum (apart t) n es) (sym (sum_by-cons (term (apart t) n) d es) ∙ e) in
    ap (λ b. b || list_any (under_other n t) es) (by_test (is_under n d.0) parts.0) ∙ none_other t n es parts.1
  where
    by_test : (b : Bool) → cond b (apart t d.1.terminal) 0 ≡ 0 → (b && not (nat_eq t d.1.terminal)) ≡ false
    by_test true e = let same : d.1.terminal ≡ t = not_apart t d.1.terminal e in grind (arith, nat_tests, same)
    by_test false e = refl

own_sums : (t : ℕ) (n : LockName) (es : List Entry) → list_any (under_other n t) es ≡ false
    → (below_sum (λ u. u) n es ≡ below_sum (λ u. 1) n es * t) × (below_sum (λ u. u * u) n es ≡ below_sum (λ u. u) n es * t)
own_sums t n [] e = (omega arith, omega arith)
own_sums t n (d ∷ es) e =
    let parts = or_parts (under_other n t d) (list_any (under_other n t) es) e in
    let rest = own_sums t n es parts.1 in
    let here = by_test (is_under n d.0) parts.0 in (
      sum_by-cons (term (λ u. u) n) d es ∙ added t (term (λ u. u) n d) (term (λ u. 1) n d) (below_sum (λ u. u) n es) (below_sum (λ u. 1) n es) here.0 rest.0 ∙ ap (λ x. x * t) (sym (sum_by-cons (term (λ u. 1) n) d es)),
      sum_by-cons (term (λ u. u * u) n) d es ∙ added t (term (λ u. u * u) n d) (term (λ u. u) n d) (below_sum (λ u. u * u) n es) (below_sum (λ u. u) n es) here.1 rest.1 ∙ ap (λ x. x * t) (sym (sum_by-cons (term (λ u. u) n) d es)),
    )
  where
    added : (t a b A B : ℕ) → a ≡ b * t → A ≡ B * t → a + A ≡ (b + B) * t
    added t a b A B e f = omega (arith, e, f)

    by_test : (b : Bool) → (b && not (nat_eq t d.1.terminal)) ≡ false → (cond b d.1.terminal 0 ≡ cond b 1 0 * t) × (cond b (d.1.terminal * d.1.terminal) 0 ≡ cond b d.1.terminal 0 * t)
    by_test b h = grind arith

-- the tally tells whether all are the terminal's
pub only_is : (t : ℕ) (n : LockName) (es : List Entry) → not (is_only t (tally_of es n)) ≡ list_any (under_other n t) es
only_is t n es = turned (is_only t (tally_of es n)) (list_any (under_other n t) es) forth back
  where
    N : ℕ
    N = below_sum (λ u. 1) n es

    S : ℕ
    S = below_sum (λ u. u) n es

    Q : ℕ
    Q = below_sum (λ u. u * u) n es

    turned : (a b : Bool) → (a ≡ true → b ≡ false) → (b ≡ false → a ≡ true) → not a ≡ b
    turned a b h e = grind arith

    vanishes : (N S Q D t : ℕ) → N * t ≡ S → S * t ≡ Q → Q + t * t * N ≡ 2 * (t * S) + D → D ≡ 0
    vanishes N S Q D t e f g = grind arith

    forth : is_only t (tally_of es n) ≡ true → list_any (under_other n t) es ≡ false
    forth e =
        let is = and_parts (nat_eq (N * t) S) (nat_eq (S * t) Q) e in
        let first : N * t ≡ S = grind (arith, nat_tests, is.0) in
        let second : S * t ≡ Q = grind (arith, nat_tests, is.1) in
        none_other t n es (vanishes N S Q (below_sum (apart t) n es) t first second (all_terms t n es))

    back : list_any (under_other n t) es ≡ false → is_only t (tally_of es n) ≡ true
    back e = grind (arith, own_sums)
