-- SPDX-License-Identifier: Apache-2.0
-- The node of a node's key is the node.
use Rattle.mspec.proofs.SpecWords.{ℕ, zero, suc, ◌≡◌, ◌+◌, ◌*◌, ◌/◌, ◌%◌, ◌^◌, ◌<◌, ◌≤◌, Option, Some, None, List, [], ◌∷◌, ◌++◌, length, take, drop, refl, sym}
use Rattle.mspec.proofs.SpecWords.{◌∙◌, ap, ap₂, subst, arith, add-one, ℤ, pos, negsuc, unsigned_abs, div-add-mod', pow-suc, mod_below, Text, number_text}
use Rattle.mspec.proofs.SpecWords.{canonical_value, text_bytes, raised, number_bytes, subscript_by, subscript_bytes, subscripts_bytes, local_bytes, key_bytes}
use Rattle.mspec.proofs.SpecWords.{length-append}
use Rattle.std.specs.Slice.Scan.{big_endian}
use Rattle.mspec.specs.KeyBytes as Bytes
use Rattle.mspec.specs.KeyReading.{text_of, behind_text, lowered, text_of_number, subscripts_of, node_of, KeysAreRead}
use Rattle.mspec.proofs.NodeOrders.{canonical_of_value}
use Rattle.mspec.proofs.KeyOrders.{value_in_range, raised_below}
use Rattle.mspec.proofs.Basics.{byte_pos}

-- ---- texts

text_read : (s : Text) (rest : List ℕ) → text_of (text_bytes s ++ rest) ≡ s
text_read [] rest = refl
text_read (c ∷ s) rest = ap (λ b. text_of (b ∷ (text_bytes s ++ rest))) (add-one c) ∙ ap (λ t. c ∷ t) (text_read s rest)

text_passed : (s : Text) (rest : List ℕ) → behind_text (text_bytes s ++ rest) ≡ rest
text_passed [] rest = refl
text_passed (c ∷ s) rest = ap (λ b. behind_text (b ∷ (text_bytes s ++ rest))) (add-one c) ∙ text_passed s rest

-- ---- numbers

taken : (k n : ℕ) (rest : List ℕ) → take k (Bytes.big_endian k n ++ rest) ≡ Bytes.big_endian k n
taken zero n rest = refl
taken (suc k) n rest = ap (λ bytes. n / 256 ^ k ∷ bytes) (taken k (n % 256 ^ k) rest)

dropped : (k n : ℕ) (rest : List ℕ) → drop k (Bytes.big_endian k n ++ rest) ≡ rest
dropped zero n rest = refl
dropped (suc k) n rest = dropped k (n % 256 ^ k) rest

-- the bytes of n, after a number
spelled : (k a n : ℕ) → n < 256 ^ k → big_endian a (Bytes.big_endian k n) ≡ a * 256 ^ k + n
spelled zero a n below = omega arith
spelled (suc k) a n below =
    spelled k (a * 256 + n / 256 ^ k) (n % 256 ^ k) (mod_below n (256 ^ k) (byte_pos k))
    ∙ joined a (n / 256 ^ k) (n % 256 ^ k) (256 ^ k) (256 ^ suc k) (div-add-mod' n (256 ^ k)) (pow-suc 256 k)
  where
    joined : (a q r w v : ℕ) → q * w + r ≡ n → v ≡ w * 256 → (a * 256 + q) * w + r ≡ a * v + n
    joined a q r w v parts wide =
        let same : (a * 256 + q) * w + r ≡ a * (w * 256) + n = omega arith in
        subst (λ x. (a * 256 + q) * w + r ≡ a * x + n) (sym wide) same

none_before : (w n : ℕ) → 0 * w + n ≡ n
none_before w n = omega arith

lowered_raised : (u : ℤ) → unsigned_abs u < 10 ^ 36 → lowered (raised u) ≡ u
lowered_raised (pos n) below = grind (arith)
lowered_raised (negsuc n) below = grind (arith)

number_read : (u : ℤ) (rest : List ℕ) → unsigned_abs u < 10 ^ 36 → text_of_number (number_bytes u ++ rest) ≡ number_text u
unfolding text_of_number number_bytes
number_read u rest below =
    ap (λ bytes. number_text (lowered (big_endian 0 bytes))) (taken 16 (raised u) rest)
    ∙ ap (λ n. number_text (lowered n)) (spelled 16 0 (raised u) (raised_below u below) ∙ none_before (256 ^ 16) (raised u))
    ∙ ap number_text (lowered_raised u below)

number_passed : (u : ℤ) (rest : List ℕ) → drop 16 (number_bytes u ++ rest) ≡ rest
unfolding number_bytes
number_passed u rest = dropped 16 (raised u) rest

-- ---- subscripts

subscript_read : (kept most : ℕ) (s : Text) (rest : List ℕ) → subscripts_of (suc most) (subscript_bytes kept s ++ rest) ≡ s ∷ subscripts_of most rest
subscript_read kept most s rest = by_value (canonical_value kept s) refl
  where
    by_value : (o : Option ℤ) → canonical_value kept s ≡ o → subscripts_of (suc most) (subscript_by s o ++ rest) ≡ s ∷ subscripts_of most rest
    by_value None e = ap₂ (λ t bytes. t ∷ subscripts_of most bytes) (text_read s rest) (text_passed s rest)
    by_value (Some u) e =
        let told = canonical_of_value kept s u e in
        ap₂ (λ t bytes. t ∷ subscripts_of most bytes) (number_read u rest (value_in_range kept s u told.0) ∙ told.1) (number_passed u rest)

subscripts_read : (kept most : ℕ) (xs : List Text) → length xs ≤ most → subscripts_of most (subscripts_bytes kept xs) ≡ xs
subscripts_read kept zero [] few = refl
subscripts_read kept (suc most) [] few = refl
subscripts_read kept zero (s ∷ xs) few = absurd (omega arith)
subscripts_read kept (suc most) (s ∷ xs) few = subscript_read kept most s (subscripts_bytes kept xs) ∙ ap (λ ts. s ∷ ts) (subscripts_read kept most xs (omega arith))

-- each subscript has bytes
some_bytes : (s : Text) (o : Option ℤ) → 1 ≤ length (subscript_by s o)
some_bytes s (Some u) = omega arith
some_bytes s None = omega arith

as_many : (kept : ℕ) (xs : List Text) → length xs ≤ length (subscripts_bytes kept xs)
as_many kept [] = omega arith
as_many kept (s ∷ xs) =
    let first = some_bytes s (canonical_value kept s) in
    let rest = as_many kept xs in
    let whole = length-append (subscript_bytes kept s) (subscripts_bytes kept xs) in
    omega arith

-- ---- nodes

pub keys_are_read : KeysAreRead
unfolding node_of
keys_are_read kept n =
    let local : List ℕ = local_bytes kept n.name n.subscripts in
    let subscripts : List ℕ = subscripts_bytes kept n.subscripts in
    let behind : behind_text (key_bytes kept n) ≡ local = text_passed n.account local in
    let last : behind_text (behind_text (key_bytes kept n)) ≡ subscripts = ap behind_text behind ∙ text_passed n.name subscripts in
    let long = length-append (text_bytes n.account) local in
    let longer = length-append (text_bytes n.name) subscripts in
    let few = as_many kept n.subscripts in
    let account : text_of (key_bytes kept n) ≡ n.account = text_read n.account local in
    let name : text_of (behind_text (key_bytes kept n)) ≡ n.name = ap text_of behind ∙ text_read n.name subscripts in
    let read : subscripts_of (length (key_bytes kept n)) (behind_text (behind_text (key_bytes kept n))) ≡ n.subscripts =
    ap (subscripts_of (length (key_bytes kept n))) last ∙ subscripts_read kept (length (key_bytes kept n)) n.subscripts (omega arith) in
    λ i. record { account = account i; name = name i; subscripts = read i }
