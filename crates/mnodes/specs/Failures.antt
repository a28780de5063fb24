-- SPDX-License-Identifier: Apache-2.0
-- Which call of a store that fails once is the one.
use Rattle.std.specs.Prelude.{◌≡◌, ◌≢◌, ◌-◌, ℕ}
use Rattle.mnodes.specs.declared.failing.StoreCall.{StoreCall}

-- of the calls of this kind this many are left, up to the one that fails: it is this call
abbrev pub IsDue : StoreCall → ℕ → StoreCall → Type 0
IsDue kind left call = (call ≡ kind) × (left ≡ 1)

-- the call was counted if it is of this kind
pub record Counts (kind : StoreCall) (left after : ℕ) (call : StoreCall) : Type 0 where
  pub counted : call ≡ kind → after ≡ left - 1
  pub passed : call ≢ kind → after ≡ left
