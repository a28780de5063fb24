-- SPDX-License-Identifier: Apache-2.0
-- How long a key is at most.
use Rattle.mstore.proofs.Words.{arith, ◌≡◌, ◌≤◌, ℕ, ℤ, List, [], ◌∷◌, length, Option, Some, None, subst, All, All-head, All-tail, IsKey, key_bytes, Text}
use Rattle.mstore.proofs.Words.{significant_digits}
use Rattle.std.proofs.lemmas.List.{length-append}
use Rattle.std.specs.Prelude.{◌*◌}
use Rattle.mspec.specs.KeyBytes.{IsSubscript, text_bytes, number_bytes, raised, subscript_by, subscript_bytes, subscripts_bytes, local_bytes}
use Rattle.mspec.specs.NodeOrder.{canonical_value}
use Rattle.mkey.proofs.KeyWalks.{length-text_bytes}
use Rattle.mkey.proofs.SubscriptFronts.{length-big_endian}
use Rattle.mspec.specs.Names.{IsName}

length-number : (u : ℤ) → length (number_bytes u) ≡ 16
unfolding number_bytes
length-number u = length-big_endian 16 (raised u)

length-by : (s : Text) (value : Option ℤ) → length s ≤ 255 → length (subscript_by s value) ≤ 257
length-by s (Some u) short = omega (arith, length-number u)
length-by s None short = omega (arith, length-text_bytes s, short)

length-subscripts : (subscripts : List Text) → All IsSubscript subscripts → length (subscripts_bytes significant_digits subscripts) ≤ 257 * length subscripts
length-subscripts [] each = omega arith
length-subscripts (s ∷ more) each =
    let first = length-by s (canonical_value significant_digits s) (All-head IsSubscript s more each).few in
    let rest = length-subscripts more (All-tail IsSubscript s more each) in
    omega (arith, first, rest, length-append (subscript_bytes significant_digits s) (subscripts_bytes significant_digits more))

name_is_short : (name : Text) → IsName name → length name ≤ 31
name_is_short [] h = absurd h
name_is_short (c ∷ name) h = omega (arith, h.2)

pub key_is_short : (k : List ℕ) → IsKey k → length k ≤ 5000
key_is_short k key =
    let n = key.0 in
    let stored = key.1.0 in
    let local = local_bytes significant_digits n.name n.subscripts in
    let subs = length-subscripts n.subscripts stored.subscripts.each in
    let long : length (key_bytes significant_digits n) ≤ 5000 = omega (
      arith,
      subs,
      stored.subscripts.few,
      stored.account.few,
      name_is_short n.name stored.name,
      length-text_bytes n.account,
      length-text_bytes n.name,
      length-append (text_bytes n.account) local,
      length-append (text_bytes n.name) (subscripts_bytes significant_digits n.subscripts),
    ) in
    subst (λ b. length b ≤ 5000) key.1.1 long
