-- SPDX-License-Identifier: Apache-2.0
-- What the lines of all terminals share, and what the operations do there.
use Rattle.std.specs.Prelude.{ℕ, Bool, true, false, [], Option, Some, None, cond}
use Rattle.std.specs.List.{list_all}
use Rattle.std.specs.FinMap.{get, insert}
use Rattle.mspec.specs.Node.{Text, Node}
use Rattle.mspec.specs.Trees.{text_eq}
use Rattle.mspec.specs.Globals.{Globals, status, order_at, following_at, lines_of, routines_of, without_subtree}
use Rattle.mspec.specs.LockConflict.{LockName, Locks, taken, given_back, released}
use Rattle.mspec.specs.Access.{Settings, Read, Write, may}
use Rattle.mspec.specs.Plan.{May, Value, Status, Neighbour, Following, Routine, Put, Kill, Take, Give_back, Release, Ops}

pub record Shared : Type 0 where
  pub globals : Globals
  pub locks : Locks

-- ---- who may do what

abbrev pub may_read : Settings → Text → Node → Bool
may_read settings me n = may settings me n.account n.name Read

abbrev pub may_write : Settings → Text → Node → Bool
may_write settings me n = may settings me n.account n.name Write

-- the routines of an owner, by who may read the global that holds them
abbrev pub may_call : Settings → (me owner : Text) → Bool
may_call settings me owner = may_read settings me (routines_of owner)

-- a global's name by who may write it, another by its own account
abbrev pub may_lock : Settings → Text → LockName → Bool
may_lock settings me n = cond n.global (may_write settings me n.node) (text_eq n.node.account me)

abbrev pub guarded : {A W : Type 0} → Bool → A → W → A × W → A × W
guarded true a w r = r
guarded false a w r = (a, w)

-- ---- operations

abbrev pub took : Shared → Option Locks → Bool × Shared
took w None = (false, w)
took w (Some locks) = (true, record w { locks = locks })

-- What is done for a terminal of the account `me`. An operation that the account may not do does nothing, so that no plan tells
-- or changes more than the settings allow. Those without a guard touch only what is the terminal's or its account's own: a routine
-- of the account, counts of the terminal.
abbrev pub act : Settings → ℕ → Text → Ops Shared
act settings terminal me (May owner name mode) w = (may settings me owner name mode, w)
act settings terminal me (Value n) w = guarded (may_read settings me n) None w (get w.globals n, w)
act settings terminal me (Status n) w = guarded (may_read settings me n) (false, false) w (status w.globals n, w)
act settings terminal me (Neighbour direction n) w = guarded (may_read settings me n) None w (order_at w.globals direction n, w)
act settings terminal me (Following direction n) w = guarded (may_read settings me n) None w (following_at w.globals direction n, w)
act settings terminal me (Routine None name) w = (lines_of w.globals me name, w)
act settings terminal me (Routine (Some owner) name) w = guarded (may_call settings me owner) [] w (lines_of w.globals owner name, w)
act settings terminal me (Put n t) w = guarded (may_write settings me n) tt w (tt, record w { globals = insert w.globals n t })
act settings terminal me (Kill n) w = guarded (may_write settings me n) tt w (tt, record w { globals = without_subtree w.globals n })
act settings terminal me (Take names) w = guarded (list_all (may_lock settings me) names) false w (took w (taken w.locks terminal names))
act settings terminal me (Give_back n) w = (tt, record w { locks = given_back w.locks terminal n })
act settings terminal me Release w = (tt, record w { locks = released w.locks terminal })
