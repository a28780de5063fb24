-- SPDX-License-Identifier: Apache-2.0
-- Islands: accounts that no grant ties to others.
use Rattle.std.specs.Prelude.{◌≡◌, ℕ, Bool, IsTrue, List, length}
use Rattle.std.specs.List.{filter, range_with_len}
use Rattle.mspec.specs.Node.{Text}
use Rattle.mspec.specs.Access.{Settings, name_at}
use Rattle.mspec.specs.Flow.{IsIsland}

-- the least set closed in both directions that has an account
pub record IsIslandOf (settings : Settings) (a : Text) (s : Text → Bool) : Type 0 where
  pub has : IsTrue (s a)
  pub island : IsIsland settings s
  pub least : (other : Text → Bool) → IsIsland settings other → IsTrue (other a) → (x : Text) → IsTrue (s x) → IsTrue (other x)

-- the places of its accounts, in their order
pub record IsIslandAt (settings : Settings) (a : Text) (places : List ℕ) : Type 0 where
  pub members : Text → Bool
  pub least : IsIslandOf settings a members
  pub listed : places ≡ filter (λ p. members (name_at settings p)) (range_with_len 0 (length settings.accounts))
