-- SPDX-License-Identifier: Apache-2.0
-- The characters of a run are below 128.
use Rattle.std.proofs.Common.{◌≡◌, ℕ, ◌<◌, Bool, true, false, cond, List, [], ◌∷◌, All, refl, arith}
use Rattle.std.proofs.lemmas.List.Elements.{All-from_recursion}
use Rattle.std.proofs.lemmas.Bool.Decides.{nat_tests}
use Rattle.std.specs.List.{AllByRecursion}
use Rattle.mscan.specs.declared.runs.Class.{Class}
use Rattle.mscan.specs.declared.runs.Class.TheVariants as class
use Rattle.mgrammar.specs.ReadingWords.{run_of}
use Rattle.mscan.specs.Classes.{in_class}

class_below : (k : Class) (c : ℕ) → in_class k c ≡ true → c < 128
class_below class.Digit c h = grind (arith, nat_tests)
class_below class.Letter c h = grind (arith, nat_tests)
class_below class.NameStart c h = grind (arith, nat_tests)
class_below class.NameRest c h = grind (arith, nat_tests)
class_below class.Space c h = grind (arith, nat_tests)
class_below class.Format c h = grind (arith, nat_tests)
class_below class.PatternLetter c h = grind (arith, nat_tests)
class_below class.DigitOrPoint c h = grind (arith, nat_tests)
class_below class.NumberPart c h = grind (arith, nat_tests)
class_below class.Any c h = grind (arith, nat_tests)

run_step : (k : Class) (c : ℕ) (rest : List ℕ) (b : Bool) → in_class k c ≡ b → AllByRecursion (λ x. x < 128) rest → AllByRecursion (λ x. x < 128) (cond b (c ∷ rest) [])
run_step k c rest true h others = (class_below k c h, others)
run_step k c rest false h others = tt

run_below : (k : Class) (cs : List ℕ) → AllByRecursion (λ x. x < 128) (run_of (in_class k) cs)
run_below k [] = tt
run_below k (c ∷ cs) = run_step k c (run_of (in_class k) cs) (in_class k c) refl (run_below k cs)

pub run_below_128 : (k : Class) (cs : List ℕ) → All (λ x. x < 128) (run_of (in_class k) cs)
run_below_128 k cs = All-from_recursion (λ x. x < 128) (run_of (in_class k) cs) (run_below k cs)
