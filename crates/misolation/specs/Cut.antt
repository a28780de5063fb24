-- SPDX-License-Identifier: Apache-2.0
-- The cut to a set of accounts: what is left of settings, of what terminals share, of worlds and of lines if there is nothing but the set.
use Rattle.std.specs.Prelude.{◌≡◌, ℕ, Bool, false, IsTrue, ◌&&◌, List, Option, Some, None}
use Rattle.std.specs.FinMap.{get, retain_keys}
use Rattle.std.specs.List.{filter}
use Rattle.mspec.specs.LockConflict.{LockName, Held, Locks}
use Rattle.mspec.specs.Access.{Account, Grant, Settings}
use Rattle.mmeaning.specs.Shared.{Shared, may_lock}
use Rattle.mmeaning.specs.Transition.{World, Event, Reply}
use Rattle.misolation.specs.Reach.{Accounts}

-- ---- terminals

abbrev pub is_member : Accounts → Option Account → Bool
is_member s None = false
is_member s (Some account) = s account.name

-- the terminal is one of a member's
abbrev pub is_inside : Accounts → Settings → ℕ → Bool
is_inside s settings terminal = is_member s (get settings.terminals terminal)

-- ---- the cuts

-- a grant from a member to a member
abbrev pub is_between : Accounts → Grant → Bool
is_between s g = s g.from && s g.to

-- the members with their steps, languages and terminals, and the grants between them
abbrev pub cut_settings : Accounts → Settings → Settings
cut_settings s settings = record {
  accounts = filter (λ a. s a.name) settings.accounts;
  terminals = retain_keys settings.terminals (is_inside s settings);
  grants = filter (is_between s) settings.grants;
}

-- the locks of their terminals
abbrev pub cut_locks : Accounts → Settings → Locks → Locks
cut_locks s settings locks = retain_keys locks (λ h. is_inside s settings h.terminal)

-- their globals and locks
abbrev pub cut_shared : Accounts → Settings → Shared → Shared
cut_shared s settings w = record {
  globals = retain_keys w.globals (λ n. s n.account);
  locks = cut_locks s settings w.locks;
}

-- and the sessions of their terminals
abbrev pub cut_world : Accounts → Settings → World → World
cut_world s settings world = record {
  shared = cut_shared s settings world.shared;
  sessions = retain_keys world.sessions (is_inside s settings);
}

-- the lines at the members' terminals
abbrev pub cut_events : Accounts → Settings → List Event → List Event
cut_events s settings events = filter (λ e. is_inside s settings e.terminal) events

-- these lines with their replies
abbrev pub part : Accounts → Settings → List (Event × Reply) → List (Event × Reply)
part s settings es = filter (λ e. is_inside s settings e.0.terminal) es

-- ---- worlds with fitting locks

abbrev pub holds_by : Settings → Option Account → LockName → Bool
holds_by settings None n = false
holds_by settings (Some account) n = may_lock settings account.name n

-- the terminal's account may hold the name
abbrev pub may_hold : Settings → Held → Bool
may_hold settings h = holds_by settings (get settings.terminals h.terminal) h.name

-- Each lock is on a name that its terminal's account may hold: one without `^` of its own, or a global that it may write. This
-- holds if no lock is held, and each transition keeps it true.
abbrev pub AreFit : Settings → Locks → Type 0
AreFit settings locks = (h : Held) (n : ℕ) → get locks h ≡ Some n → IsTrue (may_hold settings h)

abbrev pub IsFit : Settings → Shared → Type 0
IsFit settings w = AreFit settings w.locks
