-- SPDX-License-Identifier: Apache-2.0
-- What holds of each element holds of each, the last one first.
use Rattle.mnum.proofs.NumWords.{All, List, ◌<◌, ◌-◌, length, arith}
use Rattle.std.proofs.lemmas.List.{get_or-reverse, length-reverse}
use Rattle.std.specs.Prelude.{reverse}

pub all_reversed : {X : Type 0} (P : X → Type 0) (xs : List X) → All P xs → All P (reverse xs)
all_reversed P xs all k d h =
    let less : k < length xs = omega (arith, length-reverse xs) in
    rw (get_or-reverse xs k d less) (all (length xs - 1 - k) d (omega arith))
