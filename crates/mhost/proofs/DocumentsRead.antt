-- SPDX-License-Identifier: Apache-2.0
-- A document whose first bytes were read.
use Rattle.std.proofs.Common.{◌≡◌, ◌<◌, ◌≤◌, ◌∙◌, Option, Some, None, length, take, arith, sym, ap}
use Rattle.std.specs.Prelude.{option_map}
use Rattle.std.proofs.lemmas.List.{length-take, take_all}
use Rattle.mspec.specs.Act.{Text}
use Rattle.mhost.specs.Faults.{IsUnreadable}

-- these were all
pub read_whole : (held : Option Text) (bytes : Text) → option_map (take 1000001) held ≡ Some bytes → length bytes ≤ 1000000 → held ≡ Some bytes
read_whole None bytes e short = cc
read_whole (Some text) bytes e short =
    let is : take 1000001 text ≡ bytes = cc in
    let many : length (take 1000001 text) ≤ 1000000 = rw is short in
    let count = length-take 1000001 text in
    ap Some (sym (take_all 1000001 text (omega (arith, many, count))) ∙ is)

-- there are more than there may be
pub read_too_much : (held : Option Text) (bytes : Text) → option_map (take 1000001) held ≡ Some bytes → 1000000 < length bytes → IsUnreadable held
read_too_much None bytes e long = tt
read_too_much (Some text) bytes e long =
    let is : take 1000001 text ≡ bytes = cc in
    let many : 1000000 < length (take 1000001 text) = rw is long in
    omega (arith, many, length-take 1000001 text)

pub nothing_read : (held : Option Text) → held ≡ None → IsUnreadable held
nothing_read None e = tt
nothing_read (Some text) e = absurd (cc)
