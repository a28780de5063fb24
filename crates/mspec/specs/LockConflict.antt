-- SPDX-License-Identifier: Apache-2.0
-- Locks: how often each terminal holds a name, which names exclude each other, and what taking and giving back do.
--
-- Restates what "LOCK" of ISO/IEC 11756:1999 says of names: a process that holds one excludes the others from it, from what
-- is below it and from what is above it. That a take never waits, and the maximum count of a name, are mserve's own.
use Rattle.std.specs.Prelude.{◌≡◌, ℕ, ◌+◌, ◌-◌, Bool, true, not, ◌&&◌, ◌||◌, nat_eq, nat_lt, List, [], ◌∷◌, Option, Some, None, unwrap_or, if◌then◌else◌}
use Rattle.std.specs.FinMap.{FinMap, get, insert, remove, keys, retain_keys}
use Rattle.std.specs.List.{list_any}
use Rattle.std.specs.Ordering.{nat_cmp, bool_cmp, on, then_cmp}
use Rattle.std.specs.declared.cmp.Ordering.{Ordering}
use mathlib.Core.Bool.{beq}
use Rattle.mspec.specs.Globals.{is_node_within}
pub use Rattle.mspec.specs.Limits.{max_count}
use Rattle.mspec.specs.Node.{Node}
use Rattle.mspec.specs.NodeOrder.{node_cmp}
use Rattle.mspec.specs.Number.{significant_digits}

-- the name of a lock: with or without `^`, and its account, name and subscripts as those of a node
pub record LockName : Type 0 where
  pub global : Bool
  pub node : Node

-- a name that a terminal holds, or asks for
pub record Held : Type 0 where
  pub terminal : ℕ
  pub name : LockName

-- by name, and then by terminal
abbrev pub lock_name_cmp : LockName → LockName → Ordering
lock_name_cmp = then_cmp (on (λ n. n.global) bool_cmp) (on (λ n. n.node) (node_cmp significant_digits))

abbrev pub held_cmp : Held → Held → Ordering
held_cmp = then_cmp (on (λ h. h.name) lock_name_cmp) (on (λ h. h.terminal) nat_cmp)

-- how often each is held. In the program's locks each count is from 1 to 1,000,000, which their type says and this one does not.
abbrev pub Locks : Type 0
Locks = FinMap held_cmp ℕ

-- b is a, or is below it: it has the same kind, account and name, and its subscripts begin with those of a
abbrev pub is_within : LockName → LockName → Bool
is_within a b = beq a.global b.global && is_node_within a.node b.node

-- names of different terminals that exclude each other
abbrev pub is_conflict : Held → Held → Bool
is_conflict a b = not (nat_eq a.terminal b.terminal) && (is_within a.name b.name || is_within b.name a.name)

abbrev pub Conflict : Held → Held → Type 0
Conflict a b = is_conflict a b ≡ true

abbrev pub held : ℕ → LockName → Held
held t n = record { terminal = t; name = n }

abbrev pub count : Locks → Held → ℕ
count locks h = unwrap_or (get locks h) 0

-- ---- taking

abbrev pub has_conflict : Locks → Held → Bool
has_conflict locks h = list_any (is_conflict h) (keys locks)

abbrev pub one_more : Locks → Held → Locks
one_more locks h = insert locks h (count locks h + 1)

-- one more count for each name, as often as it occurs there; none if a count would pass the maximum
abbrev pub counted : Locks → ℕ → List LockName → Option Locks
counted locks t [] = Some locks
counted locks t (n ∷ names) =
    if nat_lt (count locks (held t n)) max_count then counted (one_more locks (held t n)) t names else None

-- all names are taken, or none
abbrev pub taken : Locks → ℕ → List LockName → Option Locks
taken locks t names = if list_any (λ n. has_conflict locks (held t n)) names then None else counted locks t names

-- ---- giving back

-- one count less, and nothing if the name is not held
abbrev pub given_back : Locks → ℕ → LockName → Locks
given_back locks t n =
    if nat_lt 1 (count locks (held t n)) then insert locks (held t n) (count locks (held t n) - 1) else remove locks (held t n)

-- all that a terminal holds
abbrev pub released : Locks → ℕ → Locks
released locks t = retain_keys locks (λ h. not (nat_eq h.terminal t))
