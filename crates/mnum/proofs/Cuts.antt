-- SPDX-License-Identifier: Apache-2.0
-- What `rounded` returns, on plain numbers.
use Rattle.mnum.proofs.NumWords.{ℕ, suc, ◌≡◌, ◌+◌, ◌*◌, ◌-◌, ◌/◌, ◌^◌, ◌<◌, ◌≤◌, ◌⊎◌, ◌≢◌, Option, Some, None, refl, sym, ◌∙◌, ap, arith, inl, inr, ⊎_elim}
use Rattle.mnum.proofs.NumWords.{MatchOption, option_map, pow-le-pow_right, lt_of_mul-lt-mul_right, div-mul-le_self, IsFloor, IsFine, ten_pos, ten_add}
use Rattle.mnum.proofs.NumWords.{round_size, mul-le-mul_right, mul_assoc, mul-lt-mul_of_pos_right, pow-suc}
use Rattle.mnum.proofs.Rounds.{Drops, drops_some, drops_none, exact_some, over_none}
use Rattle.mnum.specs.Size.{size_units}
use Rattle.mnum.specs.declared.size.Size.{Size}

-- d digits of n are to be dropped
pub record Cut (kept n t d ten : ℕ) : Type 0 where
  pub some_kept : 0 < kept
  pub kept_at_most : kept ≤ 18
  pub near : t ≤ d + 18
  pub high : n < 10 ^ (kept + d)
  pub low : (d ≡ t - 18) ⊎ ((t < d + 18) × (0 < d) × (10 ^ (kept + d - 1) ≤ n))
  pub some : 0 < d
  pub ten_is : ten ≡ 10 ^ d

drops_of : (kept n t d ten z p q : ℕ) → Cut kept n t d ten → z + t ≡ d + 18 → kept + z ≤ 36 → 0 < q → IsFloor n t p q → Drops kept z d t n ((n + ten / 2) / ten) p q
drops_of kept n t d ten z p q cut scale room some floor = record {
  some_kept = cut.some_kept;
  some_q = some;
  scale = scale;
  some_k = cut.some;
  room = room;
  floor = floor;
  low = ⊎_elim (λ (e : d ≡ t - 18). inl (omega (arith, e, cut.some, scale))) (λ (w : (t < d + 18) × (0 < d) × (10 ^ (kept + d - 1) ≤ n)). inr w.2) cut.low;
  high = cut.high;
  is = ap (λ x. (n + x / 2) / x) cut.ten_is;
}

-- at most all nines, or the next power of ten
pub quotient_most : (kept n t d ten : ℕ) → Cut kept n t d ten → (n + ten / 2) / ten ≤ 10 ^ kept
quotient_most kept n t d ten cut =
    let m : ℕ = (n + ten / 2) / ten in
    let pos : 0 < ten = omega (arith, cut.ten_is, ten_pos d) in
    let split : 10 ^ (kept + d) ≡ 10 ^ kept * ten = ten_add kept d ∙ ap (λ x. 10 ^ kept * x) (sym cut.ten_is) in
    let below : m * ten < (10 ^ kept + 1) * ten = omega (arith, div-mul-le_self (n + ten / 2) ten, cut.high) in
    omega (arith, lt_of_mul-lt-mul_right ten below)

pub returns_left : (kept n t d ten p q : ℕ) → Cut kept n t d ten → d ≤ t → (n + ten / 2) / ten < 10 ^ 18 → 0 < q → IsFloor n t p q → Some ((n + ten / 2) / ten * 10 ^ (18 - (t - d))) ≡ round_size kept p q
returns_left kept n t d ten p q cut h small some floor =
    let m : ℕ = (n + ten / 2) / ten in
    let z : ℕ = 18 - (t - d) in
    let fits : m * 10 ^ z < 10 ^ 36 =
    omega (arith, mul-lt-mul_of_pos_right {m = m} {n = 10 ^ 18} {k = 10 ^ z} small (ten_pos z), pow-le-pow_right {n = 10} (omega arith) {i = z} {j = 18} (omega arith)) in
    sym (drops_some kept z d t n m p q (drops_of kept n t d ten z p q cut (omega (arith, cut.near)) (omega (arith, cut.kept_at_most)) some floor) fits)

pub returns_whole : (kept n t d ten p q : ℕ) → Cut kept n t d ten → d ≤ t → 10 ^ 18 ≤ (n + ten / 2) / ten → t - d ≡ 0 → 0 < q → IsFloor n t p q → None ≡ round_size kept p q
returns_whole kept n t d ten p q cut h large none some floor =
    let m : ℕ = (n + ten / 2) / ten in
    sym (drops_none kept 18 d t n m p q (drops_of kept n t d ten 18 p q cut (omega (arith, cut.near)) (omega (arith, cut.kept_at_most)) some floor) (omega arith))

pub returns_carry : (kept n t d ten p q : ℕ) → Cut kept n t d ten → d ≤ t → 10 ^ 18 ≤ (n + ten / 2) / ten → t - d ≢ 0 → 0 < q → IsFloor n t p q → Some (10 ^ 17 * 10 ^ (18 - (t - d - 1))) ≡ round_size kept p q
returns_carry kept n t d ten p q cut h large more some floor =
    let m : ℕ = (n + ten / 2) / ten in
    let z : ℕ = 18 - (t - d) in
    let most : m ≤ 10 ^ 18 = omega (arith, quotient_most kept n t d ten cut, pow-le-pow_right {n = 10} (omega arith) {i = kept} {j = 18} cut.kept_at_most) in
    let is : m ≡ 10 ^ 18 = omega arith in
    let few : 10 ^ z ≤ 10 ^ 17 = pow-le-pow_right {n = 10} (omega arith) {i = z} {j = 17} (omega arith) in
    let value : m * 10 ^ z ≡ 10 ^ 17 * 10 ^ (18 - (t - d - 1)) =
    ap (λ x. x * 10 ^ z) is ∙ sym (omega (arith, pow-suc 10 z, ap (λ x. 10 ^ x) (next t d cut.near h more))) in
    let one : m * 10 ^ z ≡ 10 ^ 18 * 10 ^ z = ap (λ x. x * 10 ^ z) is in
    ap Some (sym value) ∙ sym (drops_some kept z d t n m p q (drops_of kept n t d ten z p q cut (omega (arith, cut.near)) (omega (arith, cut.kept_at_most)) some floor) (omega arith))
  where
    next : (t d : ℕ) → t ≤ d + 18 → d ≤ t → t - d ≢ 0 → 18 - (t - d - 1) ≡ suc (18 - (t - d))
    next t d a b e = omega arith

pub returns_far : (kept n t d ten p q : ℕ) → Cut kept n t d ten → t < d → 18 < kept + (d - t) → IsFloor n t p q → None ≡ round_size kept p q
returns_far kept n t d ten p q cut h far floor =
    let low : 10 ^ (kept + d - 1) ≤ n = ⊎_elim (λ (e : d ≡ t - 18). absurd (omega arith)) (λ (w : (t < d + 18) × (0 < d) × (10 ^ (kept + d - 1) ≤ n)). w.2) cut.low in
    sym (over_none kept d t n p q (omega arith) floor low)

pub returns_zeros : (kept n t d ten zeros p q : ℕ) → Cut kept n t d ten → t < d → kept + (d - t) ≤ 18 → zeros ≡ 10 ^ (d - t) → (n + ten / 2) / ten * zeros < 10 ^ 18 → 0 < q → IsFloor n t p q → Some ((n + ten / 2) / ten * zeros * 10 ^ 18) ≡ round_size kept p q
returns_zeros kept n t d ten zeros p q cut h room is small some floor =
    let m : ℕ = (n + ten / 2) / ten in
    let z : ℕ = d - t + 18 in
    let value : m * zeros * 10 ^ 18 ≡ m * 10 ^ z =
    mul_assoc m zeros (10 ^ 18) ∙ ap (λ x. m * x) (ap (λ x. x * 10 ^ 18) is ∙ sym (ten_add (d - t) 18)) in
    ap Some value ∙ sym (drops_some kept z d t n m p q (drops_of kept n t d ten z p q cut (omega arith) (omega arith) some floor) (omega arith))

pub returns_zeros_none : (kept n t d ten zeros p q : ℕ) → Cut kept n t d ten → t < d → kept + (d - t) ≤ 18 → zeros ≡ 10 ^ (d - t) → 10 ^ 18 ≤ (n + ten / 2) / ten * zeros → 0 < q → IsFloor n t p q → None ≡ round_size kept p q
returns_zeros_none kept n t d ten zeros p q cut h room is large some floor =
    let m : ℕ = (n + ten / 2) / ten in
    let z : ℕ = d - t + 18 in
    let value : m * zeros * 10 ^ 18 ≡ m * 10 ^ z =
    mul_assoc m zeros (10 ^ 18) ∙ ap (λ x. m * x) (ap (λ x. x * 10 ^ 18) is ∙ sym (ten_add (d - t) 18)) in
    sym (drops_none kept z d t n m p q (drops_of kept n t d ten z p q cut (omega arith) (omega arith) some floor) (omega arith))

pub zeros_fit : (kept n t d ten zeros : ℕ) → Cut kept n t d ten → kept + (d - t) ≤ 18 → zeros ≡ 10 ^ (d - t) → (n + ten / 2) / ten * zeros ≤ 10 ^ 18
zeros_fit kept n t d ten zeros cut room is =
    let split : 10 ^ (kept + (d - t)) ≡ 10 ^ kept * zeros = ten_add kept (d - t) ∙ ap (λ x. 10 ^ kept * x) (sym is) in
    omega (arith, mul-le-mul_right zeros (quotient_most kept n t d ten cut), pow-le-pow_right {n = 10} (omega arith) {i = kept + (d - t)} {j = 18} room)

pub returns_padded : (kept n t d ten p q : ℕ) (r : Option Size) → Cut kept n t d ten → t < d → kept + (d - t) ≤ 18
    → MatchOption r (10 ^ 18 ≤ (n + ten / 2) / ten * 10 ^ (d - t)) (λ size. ((n + ten / 2) / ten * 10 ^ (d - t) < 10 ^ 18) × (size_units size ≡ (n + ten / 2) / ten * 10 ^ (d - t) * 10 ^ 18))
    → 0 < q → IsFloor n t p q → option_map size_units r ≡ round_size kept p q
returns_padded kept n t d ten p q None cut h room large some floor = returns_zeros_none kept n t d ten (10 ^ (d - t)) p q cut h room refl large some floor
returns_padded kept n t d ten p q (Some size) cut h room is some floor = ap Some is.1 ∙ returns_zeros kept n t d ten (10 ^ (d - t)) p q cut h room refl is.0 some floor

pub returns_exact : (kept n t p q : ℕ) → kept ≤ 18 → t ≤ 18 → n < 10 ^ kept → 0 < q → IsFine kept n t p q → Some (n * 10 ^ (18 - t)) ≡ round_size kept p q
returns_exact kept n t p q few near small some fine =
    let e : n * q ≡ p * 10 ^ t =
    ⊎_elim (λ (e : n * q ≡ p * 10 ^ t). e) (λ (w : (10 ^ kept ≤ n) ⊎ (18 < t)). ⊎_elim (λ (a : 10 ^ kept ≤ n). absurd (omega arith)) (λ (b : 18 < t). absurd (omega arith)) w) fine in
    sym (exact_some kept t n p q few near some small e)

pub exact_below : (kept n d : ℕ) → n < 10 ^ (kept + d) → kept ≤ 18 → d ≡ 0 → n < 10 ^ 18
exact_below kept n d h few none = omega (arith, pow-le-pow_right {n = 10} (omega arith) {i = kept + d} {j = 18} (omega arith))
