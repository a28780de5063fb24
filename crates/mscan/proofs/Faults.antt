-- SPDX-License-Identifier: Apache-2.0
-- What fails when an item of a loop or of a list fails, fails alike.
use Rattle.std.proofs.Common.{◌≡◌, ℕ, ◌-◌, ◌<◌, List, Option, Some, refl}
use Rattle.mgrammar.specs.ReadingWords.{Read, with_front, past, many, after_comma, list_at}
use Rattle.mgrammar.proofs.ReadingLoops.{fails_none}
use Rattle.mscan.specs.Gives.{Fails}
use Rattle.mscan.specs.declared.fault.ParseFault.{ParseFault}
use Rattle.mscan.specs.declared.fault.ParseFault.TheVariants.{Syntax, Memory}

pub fails : {A : Type 0} (item : List ℕ → Option (Option (A × List ℕ))) (e : ParseFault) (front : List A) (count i : ℕ) (rest : List ℕ) (total : Read (List A)) → i < count → Fails e (item rest)
    → with_front front (many item (count - i) rest) ≡ total → Fails e total
fails item Memory front count i rest total lt h so_far = tt
fails item Syntax front count i rest total lt h so_far = fails_none item front count i rest total lt h so_far

module _ {A : Type 0} (item : List ℕ → Read A) where
  -- at the first item
  pub list_fails : (e : ParseFault) (cs : List ℕ) → Fails e (item cs) → Fails e (list_at item cs)
  unfolding list_at
  list_fails Memory cs h = tt
  list_fails Syntax cs h = rw h refl

  comma_none : (e : ParseFault) (cs behind : List ℕ) → past 44 cs ≡ Some behind → Fails e (item behind) → Fails e (after_comma item cs)
  comma_none Memory cs behind h k = tt
  comma_none Syntax cs behind h k = rw (h, k) refl

  -- at an item after a comma
  pub comma_fails : (e : ParseFault) (front : List A) (count i : ℕ) (rest behind : List ℕ) (total : Read (List A)) → i < count → past 44 rest ≡ Some behind → Fails e (item behind)
      → with_front front (many (after_comma item) (count - i) rest) ≡ total → Fails e total
  comma_fails e front count i rest behind total lt h k so_far = fails (after_comma item) e front count i rest total lt (comma_none e rest behind h k) so_far
