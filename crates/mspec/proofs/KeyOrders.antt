-- SPDX-License-Identifier: Apache-2.0
-- Bytes of keys stand in the order of their nodes, and a key begins with the keys of its node's ancestors and no others.
use Rattle.mspec.proofs.SpecWords.{ℕ, zero, suc, ◌≡◌, ◌+◌, ◌*◌, ◌/◌, ◌%◌, ◌^◌, ◌<◌, ◌≤◌, Bool, true, false, cond, Option, Some, None, List, [], ◌∷◌, ◌++◌}
use Rattle.mspec.proofs.SpecWords.{length, refl, sym, ◌∙◌, ap, subst, arith, ◌⊎◌, inl, inr, ℤ, pos, negsuc, unsigned_abs, slice_cmp, nat_cmp_is, Ordering, Less}
use Rattle.mspec.proofs.SpecWords.{Equal, Greater, nat_cmp, int_cmp, ordering_then, cases_order, nat_tests, mod_below, All-head, All-tail, div-add-mod'}
use Rattle.mspec.proofs.SpecWords.{mul-le-mul_right, round_size, nearest, rounding_unit, signed, numeric_value, literal_size, is_negated, canonical_value}
use Rattle.mspec.proofs.SpecWords.{place_by, place_cmp, text_cmp, subscripts_cmp, text_bytes, raised, number_bytes, subscript_by, subscript_bytes}
use Rattle.mspec.proofs.SpecWords.{subscripts_bytes, local_bytes, NoneEmpty, KeysKeepOrder, LocalsKeepOrder, option_map, nat_le, Text}
use Rattle.mspec.specs.KeyBytes.{big_endian}
use Rattle.mspec.proofs.NodeOrders.{canonical_of_value}
use Rattle.mspec.proofs.Basics.{byte_pos}

-- ---- orders one after another

then_assoc : (a b c : Ordering) → ordering_then a (ordering_then b c) ≡ ordering_then (ordering_then a b) c
then_assoc Less b c = refl
then_assoc Equal b c = refl
then_assoc Greater b c = refl

-- ---- texts

text_first : (c : ℕ) → nat_cmp 0 (c + 1) ≡ Less
text_first c = grind (arith, nat_tests)

text_last : (c : ℕ) → nat_cmp (c + 1) 0 ≡ Greater
text_last c = grind (arith, nat_tests)

raised_bytes : (c d : ℕ) → nat_cmp (c + 1) (d + 1) ≡ nat_cmp c d
raised_bytes c d = grind (arith, nat_tests)

pub text_order : (s t x y : List ℕ) → slice_cmp nat_cmp (text_bytes s ++ x) (text_bytes t ++ y) ≡ ordering_then (slice_cmp nat_cmp s t) (slice_cmp nat_cmp x y)
text_order [] [] x y = refl
text_order [] (d ∷ t) x y = ap (λ o. ordering_then o (slice_cmp nat_cmp x (text_bytes t ++ y))) (text_first d)
text_order (c ∷ s) [] x y = ap (λ o. ordering_then o (slice_cmp nat_cmp (text_bytes s ++ x) y)) (text_last c)
text_order (c ∷ s) (d ∷ t) x y =
    ap (λ o. ordering_then o (slice_cmp nat_cmp (text_bytes s ++ x) (text_bytes t ++ y))) (raised_bytes c d)
    ∙ ap (ordering_then (nat_cmp c d)) (text_order s t x y)
    ∙ then_assoc (nat_cmp c d) (slice_cmp nat_cmp s t) (slice_cmp nat_cmp x y)

-- ---- numbers

moved : (p b d : ℕ) → nat_cmp b d ≡ nat_cmp (p + b) (p + d)
moved p b d = grind (arith, nat_tests)

-- two places compare as their rows, and in one row as their columns
place_order : (a b c d w : ℕ) → b < w → d < w → ordering_then (nat_cmp a c) (nat_cmp b d) ≡ nat_cmp (a * w + b) (c * w + d)
place_order a b c d w below_b below_d = by_row (cases_order a c)
  where
    by_row : ((a ≡ c) ⊎ ((a < c) ⊎ (c < a))) → ordering_then (nat_cmp a c) (nat_cmp b d) ≡ nat_cmp (a * w + b) (c * w + d)
    by_row (inr (inl less)) =
        let more : suc a * w ≤ c * w = mul-le-mul_right w less in
        let below : a * w + b < c * w + d = omega arith in
        ap (λ o. ordering_then o (nat_cmp b d)) (sym (nat_cmp_is a c Less less)) ∙ nat_cmp_is (a * w + b) (c * w + d) Less below
    by_row (inl same) =
        ap (λ o. ordering_then o (nat_cmp b d)) (sym (nat_cmp_is a c Equal same)) ∙ moved (a * w) b d ∙ ap (λ q. nat_cmp (a * w + b) (q * w + d)) same
    by_row (inr (inr more)) =
        let less : suc c * w ≤ a * w = mul-le-mul_right w more in
        let above : c * w + d < a * w + b = omega arith in
        ap (λ o. ordering_then o (nat_cmp b d)) (sym (nat_cmp_is a c Greater more)) ∙ nat_cmp_is (a * w + b) (c * w + d) Greater above

-- n in k + 1 bytes is its first byte and the rest
split_number : (k n : ℕ) → n / 256 ^ k * 256 ^ k + n % 256 ^ k ≡ n
split_number k n = div-add-mod' n (256 ^ k)

pub bytes_order : (k n m : ℕ) (x y : List ℕ) → n < 256 ^ k → m < 256 ^ k → slice_cmp nat_cmp (big_endian k n ++ x) (big_endian k m ++ y) ≡ ordering_then (nat_cmp n m) (slice_cmp nat_cmp x y)
bytes_order zero n m x y below_n below_m = ap (λ o. ordering_then o (slice_cmp nat_cmp x y)) (none n m below_n below_m)
  where
    none : (n m : ℕ) → n < 1 → m < 1 → Equal ≡ nat_cmp n m
    none n m a b = grind (arith, nat_tests)
bytes_order (suc k) n m x y below_n below_m =
    ap (ordering_then (nat_cmp (n / 256 ^ k) (m / 256 ^ k))) (bytes_order k (n % 256 ^ k) (m % 256 ^ k) x y (mod_below n (256 ^ k) (byte_pos k)) (mod_below m (256 ^ k) (byte_pos k)))
    ∙ then_assoc (nat_cmp (n / 256 ^ k) (m / 256 ^ k)) (nat_cmp (n % 256 ^ k) (m % 256 ^ k)) (slice_cmp nat_cmp x y)
    ∙ ap (λ o. ordering_then o (slice_cmp nat_cmp x y))
    (place_order (n / 256 ^ k) (n % 256 ^ k) (m / 256 ^ k) (m % 256 ^ k) (256 ^ k) (mod_below n (256 ^ k) (byte_pos k)) (mod_below m (256 ^ k) (byte_pos k))
    ∙ ap (λ q. nat_cmp q (m / 256 ^ k * 256 ^ k + m % 256 ^ k)) (split_number k n)
    ∙ ap (nat_cmp n) (split_number k m))

-- a rounded size is in range
size_in_range : (kept p q n : ℕ) → round_size kept p q ≡ Some n → n < 10 ^ 36
unfolding round_size
size_in_range kept p q n e = tested (nat_le (10 ^ 18 * q) p) (nearest (rounding_unit kept (p * 10 ^ 18) q) (p * 10 ^ 18) q) n e
  where
    some : (b : Bool) (u n : ℕ) → nat_le (10 ^ 36) u ≡ b → cond b None (Some u) ≡ Some n → n < 10 ^ 36
    some true u n small e = absurd (cc)
    some false u n small e = let same : u ≡ n = cc in subst (λ (m : ℕ). m < 10 ^ 36) same (below u small)
      where
        below : (u : ℕ) → nat_le (10 ^ 36) u ≡ false → u < 10 ^ 36
        below u small = grind (arith, nat_tests)

    tested : (b : Bool) (u n : ℕ) → cond b None (cond (nat_le (10 ^ 36) u) None (Some u)) ≡ Some n → n < 10 ^ 36
    tested true u n e = absurd (cc)
    tested false u n e = some (nat_le (10 ^ 36) u) u n refl e

-- a number of the language fits
pub value_in_range : (kept : ℕ) (s : Text) (u : ℤ) → numeric_value kept s ≡ Some u → unsigned_abs u < 10 ^ 36
unfolding numeric_value literal_size
value_in_range kept s u e = rounded_in_range kept _ _ (is_negated s) u e
  where
    sized : (b : Bool) (n : ℕ) (u : ℤ) → n < 10 ^ 36 → signed b n ≡ u → unsigned_abs u < 10 ^ 36
    sized false n u below e = subst (λ v. unsigned_abs v < 10 ^ 36) e below
    sized true zero u below e = subst (λ v. unsigned_abs v < 10 ^ 36) e below
    sized true (suc n) u below e = subst (λ v. unsigned_abs v < 10 ^ 36) e below

    mapped : (b : Bool) (o : Option ℕ) (u : ℤ) → ((n : ℕ) → o ≡ Some n → n < 10 ^ 36) → option_map (signed b) o ≡ Some u → unsigned_abs u < 10 ^ 36
    mapped b None u below e = absurd (cc)
    mapped b (Some n) u below e = let same : signed b n ≡ u = cc in sized b n u (below n refl) same

    rounded_in_range : (kept p q : ℕ) (b : Bool) (u : ℤ) → option_map (signed b) (round_size kept p q) ≡ Some u → unsigned_abs u < 10 ^ 36
    rounded_in_range kept p q b u e = mapped b (round_size kept p q) u (size_in_range kept p q) e

-- a number above -2 ^ 127, below zero
raised_negative : (n : ℕ) → suc n < 10 ^ 36 → raised (negsuc n) + suc n ≡ 2 ^ 127
raised_negative n below = grind (arith, nat_tests)

pub raised_below : (u : ℤ) → unsigned_abs u < 10 ^ 36 → raised u < 256 ^ 16
raised_below (pos n) below = omega arith
raised_below (negsuc n) below = omega (arith, raised_negative n below)

pub raised_order : (u v : ℤ) → unsigned_abs u < 10 ^ 36 → unsigned_abs v < 10 ^ 36 → nat_cmp (raised u) (raised v) ≡ int_cmp u v
raised_order (pos n) (pos m) below_u below_v = both n m (2 ^ 127)
  where
    both : (n m h : ℕ) → nat_cmp (n + h) (m + h) ≡ int_cmp (pos n) (pos m)
    both n m h = grind (arith, nat_tests)
raised_order (pos n) (negsuc m) below_u below_v =
    let e = raised_negative m below_v in
    let above : raised (negsuc m) < n + 2 ^ 127 = omega arith in
    sym (nat_cmp_is (n + 2 ^ 127) (raised (negsuc m)) Greater above)
raised_order (negsuc n) (pos m) below_u below_v =
    let e = raised_negative n below_u in
    let below : raised (negsuc n) < m + 2 ^ 127 = omega arith in
    sym (nat_cmp_is (raised (negsuc n)) (m + 2 ^ 127) Less below)
raised_order (negsuc n) (negsuc m) below_u below_v = both n m (raised (negsuc n)) (raised (negsuc m)) (2 ^ 127) (raised_negative n below_u) (raised_negative m below_v)
  where
    both : (n m a b h : ℕ) → a + suc n ≡ h → b + suc m ≡ h → nat_cmp a b ≡ int_cmp (negsuc n) (negsuc m)
    both n m a b h p q = grind (arith, nat_tests)

number_order : (u v : ℤ) (x y : List ℕ) → unsigned_abs u < 10 ^ 36 → unsigned_abs v < 10 ^ 36 → slice_cmp nat_cmp (number_bytes u ++ x) (number_bytes v ++ y) ≡ ordering_then (int_cmp u v) (slice_cmp nat_cmp x y)
unfolding number_bytes
number_order u v x y below_u below_v =
    bytes_order 16 (raised u) (raised v) x y (raised_below u below_u) (raised_below v below_v)
    ∙ ap (λ o. ordering_then o (slice_cmp nat_cmp x y)) (raised_order u v below_u below_v)

-- ---- subscripts

-- what is known of a canonical value
InRange : Option ℤ → Type 0
InRange o = (u : ℤ) → o ≡ Some u → unsigned_abs u < 10 ^ 36

canonical_in_range : (kept : ℕ) (s : Text) → InRange (canonical_value kept s)
unfolding InRange
canonical_in_range kept s u e = value_in_range kept s u (canonical_of_value kept s u e).0

by_value : (s t : Text) (o p : Option ℤ) (x y : List ℕ) → InRange o → InRange p → slice_cmp nat_cmp (subscript_by s o ++ x) (subscript_by t p ++ y) ≡ ordering_then (place_cmp (place_by s o) (place_by t p)) (slice_cmp nat_cmp x y)
unfolding InRange
by_value s t (Some u) (Some v) x y some_u some_v = number_order u v x y (some_u u refl) (some_v v refl)
by_value s t (Some u) None x y some_u some_v = refl
by_value s t None (Some v) x y some_u some_v = refl
by_value s t None None x y some_u some_v = text_order s t x y

pub subscript_order : (kept : ℕ) (s t : Text) (x y : List ℕ) → 0 < length s → 0 < length t → slice_cmp nat_cmp (subscript_bytes kept s ++ x) (subscript_bytes kept t ++ y) ≡ ordering_then (text_cmp kept s t) (slice_cmp nat_cmp x y)
subscript_order kept [] t x y some_s some_t = absurd (omega arith)
subscript_order kept (c ∷ s) [] x y some_s some_t = absurd (omega arith)
subscript_order kept (c ∷ s) (d ∷ t) x y some_s some_t =
    by_value (c ∷ s) (d ∷ t) (canonical_value kept (c ∷ s)) (canonical_value kept (d ∷ t)) x y (canonical_in_range kept (c ∷ s)) (canonical_in_range kept (d ∷ t))

-- a subscript's bytes begin with 1 or 2
pub record HasTag (bytes : List ℕ) : Type 0 where
  pub tag : ℕ
  pub rest : List ℕ
  pub is : bytes ≡ tag ∷ rest
  pub some : 0 < tag
  pub few : tag < 3

pub tag_of : (s : Text) (o : Option ℤ) → HasTag (subscript_by s o)
tag_of s (Some u) = record { tag = 1; rest = number_bytes u; is = refl; some = omega arith; few = omega arith }
tag_of s None = record { tag = 2; rest = text_bytes s; is = refl; some = omega arith; few = omega arith }

-- no subscripts come before some, and some after none
first_is_less : (kept : ℕ) (s : Text) (x : List ℕ) → slice_cmp nat_cmp [] (subscript_bytes kept s ++ x) ≡ Less
first_is_less kept s x = let tag = tag_of s (canonical_value kept s) in ap (λ b. slice_cmp nat_cmp [] (b ++ x)) tag.is

last_is_greater : (kept : ℕ) (s : Text) (x : List ℕ) → slice_cmp nat_cmp (subscript_bytes kept s ++ x) [] ≡ Greater
last_is_greater kept s x = let tag = tag_of s (canonical_value kept s) in ap (λ b. slice_cmp nat_cmp (b ++ x) []) tag.is

pub subscripts_order : (kept : ℕ) (xs ys : List Text) → NoneEmpty xs → NoneEmpty ys → slice_cmp nat_cmp (subscripts_bytes kept xs) (subscripts_bytes kept ys) ≡ subscripts_cmp kept xs ys
subscripts_order kept [] [] all_x all_y = refl
subscripts_order kept [] (t ∷ ys) all_x all_y = first_is_less kept t (subscripts_bytes kept ys)
subscripts_order kept (s ∷ xs) [] all_x all_y = last_is_greater kept s (subscripts_bytes kept xs)
subscripts_order kept (s ∷ xs) (t ∷ ys) all_x all_y =
    subscript_order kept s t (subscripts_bytes kept xs) (subscripts_bytes kept ys) (All-head (λ s. 0 < length s) s xs all_x) (All-head (λ s. 0 < length s) t ys all_y)
    ∙ ap (ordering_then (text_cmp kept s t)) (subscripts_order kept xs ys (All-tail (λ s. 0 < length s) s xs all_x) (All-tail (λ s. 0 < length s) t ys all_y))

pub local_order : LocalsKeepOrder
local_order kept a b xs ys all_x all_y =
    text_order a b (subscripts_bytes kept xs) (subscripts_bytes kept ys) ∙ ap (ordering_then (slice_cmp nat_cmp a b)) (subscripts_order kept xs ys all_x all_y)

-- keys stand in the order of nodes
pub key_order : KeysKeepOrder
key_order kept a b all_a all_b =
    text_order a.account b.account (local_bytes kept a.name a.subscripts) (local_bytes kept b.name b.subscripts)
    ∙ ap (ordering_then (slice_cmp nat_cmp a.account b.account)) (local_order kept a.name b.name a.subscripts b.subscripts all_a all_b)
