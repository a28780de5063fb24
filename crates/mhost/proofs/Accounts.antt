-- SPDX-License-Identifier: Apache-2.0
-- An account by its name.
use Rattle.std.proofs.Common.{◌≡◌, ◌<◌, ◌∙◌, ◌∷◌, ℕ, Bool, true, List, [], Some, length, zero, suc, arith, refl, sym, ap}
use Rattle.std.specs.Prelude.{slice_get, unwrap_or, option_map}
use Rattle.std.specs.Cmp.Lexicographic.{bytes_decides}
use Rattle.std.specs.List.{find}
use Rattle.mspec.specs.Act.{Text}
use Rattle.mspec.specs.Trees.{text_eq}
use Rattle.mspec.specs.Access.{Account, Settings, account_at, account_named, name_at}
use Rattle.mspec.proofs.Basics.{by_test}

place_there : (accounts : List Account) (place : ℕ) → place < length accounts → (account : Account) × (slice_get accounts place ≡ Some account)
place_there [] place within = absurd (omega arith)
place_there (a ∷ rest) zero within = (a, refl)
place_there (a ∷ rest) (suc n) within = place_there rest n (omega arith)

found_passes : (p : Account → Bool) (accounts : List Account) (a : Account) → find p accounts ≡ Some a → p a ≡ true
found_passes p [] a e = cc
found_passes p (x ∷ accounts) a e =
    by_test (p x)
    (λ h. let is : Some x ≡ Some a = rw h at e in let same : x ≡ a = cc in ap p (sym same) ∙ h)
    (λ h. let is : find p accounts ≡ Some a = rw h at e in found_passes p accounts a is)

module _ (settings : Settings) (name : Text) (place : ℕ) (same : account_at settings place ≡ account_named settings name) (within : place < length settings.accounts) where
  pub known : (account : Account) × (account_named settings name ≡ Some account)
  known = let there = place_there settings.accounts place within in (there.0, sym same ∙ there.1)

  pub its_name : name_at settings place ≡ name
  its_name =
      ap (λ o. unwrap_or (option_map (λ (a : Account). a.name) o) []) (same ∙ known.1)
      ∙ sym ((bytes_decides name known.0.name).0 (found_passes (λ (a : Account). text_eq name a.name) settings.accounts known.0 known.1))
