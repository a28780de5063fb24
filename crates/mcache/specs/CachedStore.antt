-- SPDX-License-Identifier: Apache-2.0
-- What a contract sees of a `Cached`.
use Rattle.std.specs.Prelude.{ℕ, refl}
use Rattle.std.specs.Coded.{Coded, code_by, coded×, coded_ℕ}

-- the store beneath, and how many texts may be kept
pub record CachedStore (S : Type 0) : Type 0 where
  pub store : S
  pub entries : ℕ

module _ {S : Type 0} where
  abbrev pub cached_store : S → ℕ → CachedStore S
  cached_store s n = record { store = s; entries = n }

  abbrev pub cached_store_code : Coded S → Coded (CachedStore S)
  cached_store_code s = code_by (S × ℕ) (coded× s coded_ℕ) (λ c. (c.store, c.entries)) (λ p. cached_store p.0 p.1) (λ _. refl)
