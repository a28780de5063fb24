-- SPDX-License-Identifier: Apache-2.0
-- The laws of reach, as statements. The functions of src/ named after them carry them.
use Rattle.std.specs.Prelude.{◌≡◌, IsTrue, ◌↔◌}
use Rattle.mspec.specs.Node.{Text}
use Rattle.mspec.specs.Access.{Settings}
use Rattle.mspec.specs.Flow.{Reaches}
use Rattle.misolation.specs.Reach.{Accounts, IsClosed, reachers}
use Rattle.misolation.specs.Cut.{cut_settings}

-- what is computed is the least closed set that has the account
pub record IsLeastClosed (settings : Settings) (a : Text) (s : Accounts) : Type 0 where
  pub has : IsTrue (s a)
  pub closed : IsClosed settings s
  pub least : (other : Accounts) → IsClosed settings other → IsTrue (other a) → (x : Text) → IsTrue (s x) → IsTrue (other x)

abbrev pub ReachIsLeastClosed : Type 0
ReachIsLeastClosed = (settings : Settings) (a : Text) → IsLeastClosed settings a (reachers settings a)

-- a chain of flows leads to the account exactly from the members
abbrev pub ReachIsChains : Type 0
ReachIsChains = (settings : Settings) (a x : Text) → IsTrue (reachers settings a x) ↔ Reaches settings x a

-- over the cut to a closed set that has the account, the same accounts reach it
abbrev pub ReachIsKept : Type 0
ReachIsKept = (s : Accounts) (settings : Settings) (a : Text) → IsClosed settings s → IsTrue (s a) → (x : Text) → reachers (cut_settings s settings) a x ≡ reachers settings a x
