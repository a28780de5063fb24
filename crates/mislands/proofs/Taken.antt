-- SPDX-License-Identifier: Apache-2.0
-- Bytes that were read up to a bound.
use Rattle.mislands.proofs.IslandWords.{◌≡◌, ℕ, ◌+◌, ◌≤◌, List, length, take, Option, Some, None, ap, ◌∙◌, arith, option_map, IfSome, take_all, length-take}

-- fewer than the bound are all
pub all_taken : (left : Option (List ℕ)) (n : ℕ) (bytes : List ℕ) → IfSome (option_map (take (n + 1)) left) (λ xs. bytes ≡ xs) → IfSome left (λ all. length bytes ≤ n → bytes ≡ all)
all_taken None n bytes is = tt
all_taken (Some all) n bytes is = λ few.
    let count = ap length is ∙ length-take (n + 1) all in
    let within : length all ≤ n + 1 = omega (arith, count) in
    is ∙ take_all (n + 1) all within
