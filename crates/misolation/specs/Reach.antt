-- SPDX-License-Identifier: Apache-2.0
-- Closed sets of accounts, and the least one that has an account: all accounts whose doings can show at it.
use Rattle.std.specs.Prelude.{Bool, IsTrue, ◌&&◌, ◌||◌, List, [], ◌∷◌}
use Rattle.std.specs.List.{flat_map}
use Rattle.mspec.specs.Node.{Text}
use Rattle.mspec.specs.Trees.{text_eq}
use Rattle.mspec.specs.Access.{Mode, Read, Write, Grant, Settings}
use Rattle.mspec.specs.Flow.{Flows}

-- a set of accounts
abbrev pub Accounts : Type 0
Accounts = Text → Bool

-- each account that flows to a member is a member
abbrev pub IsClosed : Settings → Accounts → Type 0
IsClosed settings s = (x y : Text) → Flows settings x y → IsTrue (s y) → IsTrue (s x)

-- ---- the least closed set

-- one account flows to another
pub record Link : Type 0 where
  pub from : Text
  pub to : Text

abbrev pub link : Text → Text → Link
link from to = record { from = from; to = to }

-- what a grant's giver has shows at its taker, and for a grant to write, the taker's doings show at the giver
abbrev pub links_by : Mode → Text → Text → List Link
links_by Read giver taker = link giver taker ∷ []
links_by Write giver taker = link giver taker ∷ link taker giver ∷ []

abbrev pub links : List Grant → List Link
links grants = flat_map (λ g. links_by g.mode g.from g.to) grants

-- whether a chain of the links leads from x to y: one that does without the first link, or one through it
abbrev pub leads : List Link → Text → Text → Bool
leads [] x y = text_eq x y
leads (l ∷ ls) x y = leads ls x y || (leads ls x l.from && leads ls l.to y)

-- The accounts that reach `a`, as a set: `reachers settings a x` says that x reaches a. `Reaches settings x a` has the two in the order in
-- which the chain leads.
abbrev pub reachers : Settings → Text → Accounts
reachers settings a x = leads (links settings.grants) x a
