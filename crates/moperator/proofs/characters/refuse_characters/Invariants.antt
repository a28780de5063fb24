-- SPDX-License-Identifier: Apache-2.0
use Rattle.moperator.proofs.OperatorWords.{◌≡◌, ◌≤◌, List, [], length, drop, Result, list_any, flat_map, is_over_ascii, character_of, Yields, fault_of, Code}
use Rattle.std.proofs.Common.{ℤ}
use Rattle.mmeaning.specs.Functions as meaning
use Rattle.moperator.proofs.characters.refuse_characters.Given as goal

-- the codes so far, whether one is over 127, and how many characters they give
abbrev pub invariant-loop-argument : goal.invariant-loop-argument
invariant-loop-argument l =
    (ns : List ℤ)
    × ((r : Result (List ℤ) Code) → Yields fault_of (meaning.wholes ns (drop l.argument-index l.arguments)) (λ (w : List ℤ). w) r
    → Yields fault_of (meaning.wholes [] l.arguments) (λ (w : List ℤ). w) r)
    × (list_any is_over_ascii ns ≡ l.is_over)
    × (length (flat_map character_of ns) ≡ l.count)
    × (l.count ≤ l.argument-index)
