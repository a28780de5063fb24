-- SPDX-License-Identifier: Apache-2.0
-- What a line cannot tell apart: settings that allow the same, and worlds whose sessions differ only in whether there is none or a new one.
use Rattle.std.specs.Prelude.{◌≡◌, ℕ, IsTrue, List}
use Rattle.std.specs.List.{list_all, list_any}
use Rattle.std.specs.FinMap.{get}
use Rattle.mspec.specs.Node.{Text}
use Rattle.mspec.specs.Access.{Mode, Grant, Settings, lets, may}
use Rattle.mmeaning.specs.Transition.{World, Reply, session_or_new}

-- The same accounts at the same terminals with the same steps and languages, and who may do what is the same.
pub record AlikeSettings (one two : Settings) : Type 0 where
  pub terminals : (t : ℕ) → get one.terminals t ≡ get two.terminals t
  pub allowed : (me owner name : Text) (mode : Mode) → may one me owner name mode ≡ may two me owner name mode

-- The same globals and locks, and the same sessions, where one that is as new counts as none.
pub record AlikeWorlds (one two : World) : Type 0 where
  pub shared : one.shared ≡ two.shared
  pub sessions : (t : ℕ) → session_or_new (get one.sessions t) ≡ session_or_new (get two.sessions t)

-- the same reply, and worlds left alike
pub record AlikeTransitions (one two : Reply × World) : Type 0 where
  pub reply : one.0 ≡ two.0
  pub world : AlikeWorlds one.1 two.1

-- ---- settings of the same entries

-- what the one list of grants lets an account do, the other lets it do
abbrev pub AllowsAll : List Grant → List Grant → Type 0
AllowsAll gs hs = IsTrue (list_all (λ g. list_any (lets g.to g.from g.global g.mode) hs) gs)

-- The same accounts at the same terminals with the same steps and languages, and the same grants: in whatever order, however often each is
-- listed, and with or without one to read beside one to write. The order of the accounts does not matter.
pub record SameEntries (one two : Settings) : Type 0 where
  pub terminals : (t : ℕ) → get one.terminals t ≡ get two.terminals t
  pub there : AllowsAll one.grants two.grants
  pub back : AllowsAll two.grants one.grants
