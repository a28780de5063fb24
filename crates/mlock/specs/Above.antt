-- SPDX-License-Identifier: Apache-2.0
-- The names above a name, and who holds them.
use Rattle.std.specs.Prelude.{◌≡◌, ℕ, Bool, false, not, nat_eq, take, Option, Some, None}
use Rattle.mspec.specs.LockConflict.{LockName}
use Rattle.mkey.specs.Parent.{IsParent}
use Rattle.mlock.specs.declared.locks.Holding.{Holding}

-- the name with its first `i` subscripts
abbrev pub name_above : ℕ → LockName → LockName
name_above i n = record { global = n.global; node = record { account = n.node.account; name = n.node.name; subscripts = take i n.node.subscripts } }

-- the first name is next above the other
pub record IsAbove (above below : LockName) : Type 0 where
  pub kind : above.global ≡ below.global
  pub node : IsParent above.node below.node

-- another terminal holds it
abbrev pub is_other : ℕ → Option Holding → Bool
is_other t None = false
is_other t (Some h) = not (nat_eq t h.terminal)
