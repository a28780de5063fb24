-- SPDX-License-Identifier: Apache-2.0
-- Names that are equal are hashed alike.
use Rattle.std.proofs.Common.{◌≡◌, ◌∷◌, List, ℕ, ap}
use Rattle.std.specs.Prelude.{IsTrue}
use Rattle.std.specs.Cmp.{Equal-is}
use Rattle.std.specs.Hash as fed
use Rattle.std.specs.Ordering.{eq_by_cmp}
use Rattle.mspec.specs.KeyBytes.{key_bytes}
use Rattle.mspec.specs.LockConflict.{LockName, lock_name_cmp}
use Rattle.mspec.specs.Number.{significant_digits}
use Rattle.mspec.proofs.LockOrders.{lock_name_cmp_exact}

abbrev written : LockName → List (List ℕ)
written n = key_bytes significant_digits n.node ∷ fed.bool n.global

pub alike : (a b : LockName) → IsTrue (eq_by_cmp lock_name_cmp a b) → written a ≡ written b
alike a b e = ap written (lock_name_cmp_exact a b ((Equal-is (lock_name_cmp a b)).0 e))
