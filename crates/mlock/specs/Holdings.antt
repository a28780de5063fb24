-- SPDX-License-Identifier: Apache-2.0
-- The locks that a map by names holds: each name has one holder.
use Rattle.std.specs.Prelude.{◌≡◌, ◌<◌, ◌≤◌, ℕ, List, map, Option, Some, None, nat_eq, if◌then◌else◌}
use Rattle.std.specs.FinMap.{from_entries, get}
use Rattle.indexmap.specs.IndexMap.{IndexMap}
use base.Stored.{Coded, coded_ℕ, coded_bool, coded_list, coded×, coded_via}
use Rattle.mspec.specs.LockConflict.{LockName, Held, held, Locks, max_count}
use Rattle.mlock.specs.declared.locks.Holding.{Holding}

-- a name with its holding
abbrev pub Entry : Type 0
Entry = LockName × Holding

-- a code of what is held, by which a proof tells locks apart
abbrev pub coded_held : Coded Held
coded_held =
    coded_via (coded× coded_ℕ (coded× coded_bool (coded× (coded_list coded_ℕ) (coded× (coded_list coded_ℕ) (coded_list (coded_list coded_ℕ))))))
    (λ (h : Held). (h.terminal, (h.name.global, (h.name.node.account, (h.name.node.name, h.name.node.subscripts)))))
    (λ m n e i. record { terminal = (e i).0; name = record { global = (e i).1.0; node = record { account = (e i).1.1.0; name = (e i).1.1.1.0; subscripts = (e i).1.1.1.1 } } })

abbrev pub lock_of : LockName × Holding → Held × ℕ
lock_of e = (held e.1.terminal e.0, e.1.count)

abbrev pub locks_in : List (LockName × Holding) → Locks
locks_in es = from_entries (map lock_of es)

abbrev pub locks_of : {S : Type 0} → IndexMap LockName Holding S → Locks
locks_of m = locks_in m.entries

-- what a terminal has of a name, by its holder
abbrev pub own_count : ℕ → Option Holding → Option ℕ
own_count t None = None
own_count t (Some h) = if nat_eq h.terminal t then Some h.count else None

-- no other terminal holds the name
abbrev pub IsFree : Locks → ℕ → LockName → Type 0
IsFree locks t n = (u : ℕ) → (u ≡ t → ⊥) → get locks (held u n) ≡ None

-- what is held is held 1 to 1,000,000 times
abbrev pub AreCounts : Locks → Type 0
AreCounts locks = (q : Held) (c : ℕ) → get locks q ≡ Some c → (0 < c) × (c ≤ max_count)
