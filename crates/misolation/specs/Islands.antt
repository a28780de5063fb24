-- SPDX-License-Identifier: Apache-2.0
-- Islands (`IsIsland` of mspec): accounts that no grant ties to others. Each may be kept on a machine of its own.
use Rattle.std.specs.Prelude.{◌≡◌, ℕ, nat_eq, [], List, ◌∷◌, Some, None}
use Rattle.std.specs.FinMap.{get, retain_keys}
use Rattle.mspec.specs.Code.{Zterm, Own}
use Rattle.mspec.specs.Node.{Text, Node}
use Rattle.mspec.specs.Globals.{Globals}
use Rattle.mspec.specs.LockConflict.{LockName, held}
use Rattle.mspec.specs.Access.{Account, Settings}
use Rattle.mspec.specs.Flow.{Flows}
use Rattle.mmeaning.specs.Transition.{World, Event, Reply, Faulted}
use Rattle.mmeaning.specs.History.{History}
use Rattle.misolation.specs.Reach.{Accounts}
use Rattle.misolation.specs.Cut.{cut_settings, cut_world, part}

-- the members' globals
abbrev pub globals_of : Accounts → Globals → Globals
globals_of s globals = retain_keys globals (λ n. s n.account)

-- ---- machines

-- the machine that each account is on
abbrev pub Placement : Type 0
Placement = Text → ℕ

-- the accounts on a machine
abbrev pub on : Placement → ℕ → Accounts
on place m x = nat_eq (place x) m

-- accounts of which one flows to another are on one machine
abbrev pub KeepsTies : Settings → Placement → Type 0
KeepsTies settings place = (x y : Text) → Flows settings x y → place x ≡ place y

-- the answer to a line at a terminal of no account, which is on no machine
abbrev pub refusal : Reply
refusal = record { out = []; ending = Faulted (Own Zterm) }

abbrev pub StrangersRefused : Settings → List (Event × Reply) → Type 0
StrangersRefused settings [] = Unit {0}
StrangersRefused settings (e ∷ es) = (get settings.terminals e.0.terminal ≡ None → e.1 ≡ refusal) × StrangersRefused settings es

-- Each machine by itself: its part of the lines is a history over its own settings, globals, sessions and locks, and leaves it a world.
pub record RunsApart (place : Placement) (settings : Settings) (world : World) (es : List (Event × Reply)) (left : ℕ → World) : Type 0 where
  pub machines : (m : ℕ) → History (cut_settings (on place m) settings) (cut_world (on place m) settings world) (part (on place m) settings es) (left m)
  pub strangers : StrangersRefused settings es

-- The machines' worlds laid together: each is its part of the whole, and for each account the whole has what the account's machine has.
pub record LaidTogether (place : Placement) (settings : Settings) (left : ℕ → World) (whole : World) : Type 0 where
  pub parts : (m : ℕ) → cut_world (on place m) settings whole ≡ left m
  pub globals : (n : Node) → get whole.shared.globals n ≡ get (left (place n.account)).shared.globals n
  pub sessions : (t : ℕ) (a : Account) → get settings.terminals t ≡ Some a → get whole.sessions t ≡ get (left (place a.name)).sessions t
  pub locks : (t : ℕ) (a : Account) → get settings.terminals t ≡ Some a → (n : LockName) → get whole.shared.locks (held t n) ≡ get (left (place a.name)).shared.locks (held t n)
