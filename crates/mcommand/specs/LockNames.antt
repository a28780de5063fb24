-- SPDX-License-Identifier: Apache-2.0
-- Names that an account may lock, and what LOCK does with them.
use Rattle.std.specs.Prelude.{◌≡◌, true, List, Option}
use Rattle.std.specs.List.{list_all}
use Rattle.mspec.specs.LockConflict.{LockName}
use Rattle.mmeaning.specs.Shared.{may_lock}
use Rattle.mmeaning.specs.Calls.{Standing}
use Rattle.mspec.specs.Act.{Act, ◌>>=◌}
use Rattle.mgrammar.specs.Grammar.{ExprTree, LockKindTree}
use Rattle.mmeaning.specs.Expression.{Inside, optional_value}
use Rattle.mmeaning.specs.Locking.{carried, told}

-- the line's account may lock each of them
abbrev pub MayTake : Standing → List LockName → Type 0
MayTake b names = list_all (may_lock b.settings b.account) names ≡ true

-- after the names: the timeout, and then what an argument of this kind does with them
abbrev pub locking_names : Inside → LockKindTree → Option ExprTree → List LockName → Act (Unit {0})
locking_names i k timeout ns = do
  t ← optional_value i timeout
  b ← carried k ns
  told t b
