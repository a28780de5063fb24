-- SPDX-License-Identifier: Apache-2.0
-- What is read as a name, as a part of the text.
use Rattle.std.proofs.Common.{◌≡◌, ℕ, suc, ◌+◌, ◌≤◌, true, List, ◌∷◌, ◌++◌, length, take, Some, refl, sym, ap, ◌∙◌, arith}
use Rattle.std.specs.Prelude.{◌&&◌, nat_le}
use Rattle.std.proofs.Math.Seq.{take-append_seam}
use Rattle.std.proofs.lemmas.Bool.Decides.{nat_tests}
use Rattle.mspec.specs.Names.{IsName, is_name_start, is_name_rest}
use Rattle.mgrammar.specs.ReadingWords.{run_of, after_run, name_at}
use Rattle.mgrammar.proofs.ReadingBasics.{run_parts, name_takes}

-- a first character, and the run after it
module _ {text more run : List ℕ} {c : ℕ} (begins : text ≡ c ∷ more) (runs : run ≡ run_of is_name_rest more) where
  -- they are what the text begins with
  pub name_front : take (1 + length run) text ≡ c ∷ run
  name_front =
      let whole : more ≡ run ++ after_run is_name_rest more = (run_parts is_name_rest more).0 ∙ ap (λ (y : List ℕ). y ++ after_run is_name_rest more) (sym runs) in
      let count : 1 + length run ≡ suc (length run) = omega arith in
      let front : take (length run) more ≡ run = ap (take (length run)) whole ∙ take-append_seam run (after_run is_name_rest more) in
      rw (begins, count) (ap (λ (y : List ℕ). c ∷ y) front)

  pub name_length : 1 + length run ≡ length (take (1 + length run) text)
  name_length = let count : 1 + length run ≡ suc (length run) = omega arith in count ∙ ap length (sym name_front)

  -- and are read as a name
  pub name_reads : is_name_start c ≡ true → length run ≤ 30 → name_at text ≡ Some (take (1 + length run) text, after_run is_name_rest more)
  unfolding name_at
  name_reads start short =
      let t : is_name_start c && nat_le (length run) 30 ≡ true = grind (arith, nat_tests, start, short) in
      rw name_front (rw (begins, ← runs, t) refl)

  pub name_is : is_name_start c ≡ true → length run ≤ 30 → IsName (take (1 + length run) text)
  name_is start short = (name_takes text (take (1 + length run) text, after_run is_name_rest more) (name_reads start short)).1
