-- SPDX-License-Identifier: Apache-2.0
-- Which point begins a number.
use Rattle.std.specs.Prelude.{is_none}
use Rattle.mparse.proofs.ParseWords.{◌≡◌, ℕ, List, [], ◌∷◌, length, refl, sym, number_at, point_at, run_of, is_digit}
use Rattle.std.specs.Prelude.{◌==◌, true, false}
use Rattle.std.proofs.Common.{◌∙◌}
use Rattle.std.proofs.Math.Dec.{eqb-suc-zero}

-- one with no digit after it
pub no_digit : (cs : List ℕ) → run_of is_digit cs ≡ [] → is_none (number_at (46 ∷ cs)) ≡ true
unfolding number_at point_at
no_digit cs h = rw h refl

-- and one with digits after it
pub some_digit : (d : ℕ) (ds cs : List ℕ) → run_of is_digit cs ≡ d ∷ ds → is_none (number_at (46 ∷ cs)) ≡ false
unfolding number_at point_at
some_digit d ds cs h = rw h refl

-- whether there is none says which it is
pub by_digits : (cs ds : List ℕ) → run_of is_digit cs ≡ ds → (length ds == 0) ≡ is_none (number_at (46 ∷ cs))
by_digits cs [] h = sym (no_digit cs h)
by_digits cs (d ∷ ds) h = eqb-suc-zero (length ds) ∙ sym (some_digit d ds cs h)
