-- SPDX-License-Identifier: Apache-2.0
-- The bytes of a machine's number, high byte first.
use Rattle.mkey.proofs.KeyWords.{ℕ, zero, suc, ◌≡◌, ◌+◌, ◌*◌, ◌/◌, ◌%◌, ◌^◌, ◌<◌, List, ◌∷◌, ◌++◌, take, drop, refl, sym, ◌∙◌, ap, ap₂, arith, append_assoc, ℤ}
use Rattle.mkey.proofs.KeyWords.{div-add-mod', pow-suc, div-one, mod-eq_of_lt, mod_below, div-mul-add, mod-mul-add, mul-add-lt, pow-add, take-append_seam}
use Rattle.mkey.proofs.KeyWords.{big_endian, raised, number_bytes, byte_pos}
use Rattle.std.specs.Int.{byte_at, bytes_high_first}

-- the first byte of n in one byte more than w holds, and the rest
record Cut (n w : ℕ) : Type 0 where
  first : n % (w * 256) / w ≡ n / w % 256
  rest : n % (w * 256) % w ≡ n % w

cut : (n w : ℕ) → 0 < w → Cut n w
cut n w some =
    let parts : n / w * w + n % w ≡ n = div-add-mod' n w in
    let places : n / w / 256 * 256 + n / w % 256 ≡ n / w = div-add-mod' (n / w) 256 in
    by_parts (n / w / 256) (n / w % 256) (n % w) (n / w) parts places (mod_below (n / w) 256 (omega arith)) (mod_below n w some)
  where
    by_parts : (a b r q : ℕ) → q * w + r ≡ n → a * 256 + b ≡ q → b < 256 → r < w → Cut n w
    by_parts a b r q parts places low below =
        let small : b * w + r < w * 256 = mul-add-lt b w r 256 low below in
        let whole : a * (w * 256) + (b * w + r) ≡ n = joined a b r q parts places in
        let left : n % (w * 256) ≡ b * w + r = ap (λ m. m % (w * 256)) (sym whole) ∙ mod-mul-add a (w * 256) (b * w + r) small in
        let quotient : n / w ≡ q = ap (λ m. m / w) (sym parts) ∙ div-mul-add q w r below in
        let rest : n % w ≡ r = ap (λ m. m % w) (sym parts) ∙ mod-mul-add q w r below in
        record {
          first = ap (λ m. m / w) left ∙ div-mul-add b w r below ∙ sym (mod-mul-add a 256 b low) ∙ ap (λ m. m % 256) (places ∙ sym quotient);
          rest = ap (λ m. m % w) left ∙ mod-mul-add b w r below ∙ sym rest;
        }
      where
        joined : (a b r q : ℕ) → q * w + r ≡ n → a * 256 + b ≡ q → a * (w * 256) + (b * w + r) ≡ n
        joined a b r q parts places =
            let spread : (a * 256 + b) * w + r ≡ n = ap (λ x. x * w + r) places ∙ parts in
            omega arith

byte_is : (k n : ℕ) → byte_at k n ≡ n / 256 ^ k % 256
byte_is zero n = ap (λ m. m % 256) (sym (div-one n))
byte_is (suc k) n = refl

more_bytes : (k : ℕ) → 256 ^ suc k ≡ 256 ^ k * 256
more_bytes k = pow-suc 256 k

-- the low bytes of n are those of what it leaves
low_bytes : (k n : ℕ) → bytes_high_first k n ≡ big_endian k (n % 256 ^ k)
low_bytes zero n = refl
low_bytes (suc k) n =
    let parts = cut n (256 ^ k) (byte_pos k) in
    let first : n % 256 ^ suc k / 256 ^ k ≡ n / 256 ^ k % 256 = ap (λ w. n % w / 256 ^ k) (more_bytes k) ∙ parts.first in
    let rest : n % 256 ^ suc k % 256 ^ k ≡ n % 256 ^ k = ap (λ w. n % w % 256 ^ k) (more_bytes k) ∙ parts.rest in
    ap₂ (λ b bytes. b ∷ bytes) (byte_is k n ∙ sym first) (low_bytes k n ∙ ap (big_endian k) (sym rest))

-- a number that fits is its bytes
pub bytes_of_fitting : (k n : ℕ) → n < 256 ^ k → bytes_high_first k n ≡ big_endian k n
bytes_of_fitting k n below = low_bytes k n ∙ ap (big_endian k) (mod-eq_of_lt below)

-- the bytes of a number of the language
pub bytes_of_number : (u : ℤ) (n : ℕ) → n ≡ raised u → n < 256 ^ 16 → bytes_high_first 16 n ≡ number_bytes u
unfolding number_bytes
bytes_of_number u n is below = bytes_of_fitting 16 n below ∙ ap (big_endian 16) is

-- the bytes of two numbers, one after the other
pub joined_bytes : (k j t n m : ℕ) → t ≡ k + j → n < 256 ^ k → m < 256 ^ j → big_endian t (n * 256 ^ j + m) ≡ big_endian k n ++ big_endian j m
joined_bytes zero j t n m e below low =
    let none : n ≡ 0 = omega arith in
    let same : t ≡ j = omega arith in
    ap₂ big_endian same (ap (λ x. x * 256 ^ j + m) none ∙ omega arith)
joined_bytes (suc k) j zero n m e below low = absurd (omega arith)
joined_bytes (suc k) j (suc t) n m e below low =
    let w : ℕ = 256 ^ k in
    let v : ℕ = 256 ^ j in
    let some : 0 < w = byte_pos k in
    let less : n % w < w = mod_below n w some in
    let fewer : t ≡ k + j = omega arith in
    let exponent : 256 ^ t ≡ v * w = ap (λ x. 256 ^ x) fewer ∙ pow-add 256 k j ∙ turned w v in
    let small : n % w * v + m < v * w = mul-add-lt (n % w) v m w less low in
    let whole : n / w * (v * w) + (n % w * v + m) ≡ n * v + m = around (n / w) (n % w) w n v m (div-add-mod' n w) in
    let first : (n * v + m) / 256 ^ t ≡ n / w = ap (λ x. (n * v + m) / x) exponent ∙ ap (λ x. x / (v * w)) (sym whole) ∙ div-mul-add (n / w) (v * w) (n % w * v + m) small in
    let rest : (n * v + m) % 256 ^ t ≡ n % w * v + m = ap (λ x. (n * v + m) % x) exponent ∙ ap (λ x. x % (v * w)) (sym whole) ∙ mod-mul-add (n / w) (v * w) (n % w * v + m) small in
    ap₂ (λ x bytes. x ∷ bytes) first (ap (big_endian t) rest ∙ joined_bytes k j t (n % w) m fewer less low)
  where
    turned : (a b : ℕ) → a * b ≡ b * a
    turned a b = omega arith

    around : (q r w n v m : ℕ) → q * w + r ≡ n → q * (v * w) + (r * v + m) ≡ n * v + m
    around q r w n v m e = let spread : (q * w + r) * v + m ≡ n * v + m = ap (λ x. x * v + m) e in omega arith

-- the first sixteen bytes, as two numbers of eight
pub word_pair : (bytes rest : List ℕ) (high low : ℕ) → high < 256 ^ 8 → low < 256 ^ 8 → bytes ≡ big_endian 8 high ++ rest → rest ≡ big_endian 8 low ++ drop 8 rest → big_endian 16 (high * 256 ^ 8 + low) ≡ take 16 bytes
word_pair bytes rest high low below_high below_low first second =
    let both : big_endian 16 (high * 256 ^ 8 + low) ≡ big_endian 8 high ++ big_endian 8 low = joined_bytes 8 8 16 high low refl below_high below_low in
    both
    ∙ sym (take-append_seam (big_endian 8 high ++ big_endian 8 low) (drop 8 rest))
    ∙ ap (take 16) (append_assoc (big_endian 8 high) (big_endian 8 low) (drop 8 rest) ∙ ap (λ b. big_endian 8 high ++ b) (sym second) ∙ sym first)
