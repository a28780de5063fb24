-- SPDX-License-Identifier: Apache-2.0
-- What LOCK does.
--
-- Restates "LOCK" of ISO/IEC 11756:1999: an argument without a sign gives up all that the process holds and then takes its names, one with
-- a `+` takes them besides, and one with a `-` gives each back once; a list is taken whole or not at all. A LOCK never waits, which is
-- mserve's own: with a timeout $TEST says at once whether the names were taken, and without one a conflict is an error.
use Rattle.std.specs.Prelude.{Bool, true, List, [], ◌∷◌, ◌++◌, Option, Some, None}
use Rattle.mspec.specs.LockConflict.{LockName}
use Rattle.mspec.specs.Code.{Zlocked}
use Rattle.mspec.specs.Plan.{Take, Give_back, Release}
use Rattle.mspec.specs.Act.{Text, Act, ◌>>=◌, ◌>>◌, give, unless, ask, set_test}
use Rattle.mgrammar.specs.Grammar.{ExprTree, ReferenceTree, LockKindTree, anew, adding, giving_back, LockedTree, lock_one, lock_several}
use Rattle.mmeaning.specs.Variables.{named_lock}
use Rattle.mmeaning.specs.Expression.{Inside, evaluated, optional_value}

abbrev pub names_of : LockedTree → List ReferenceTree
names_of (lock_one r) = r ∷ []
names_of (lock_several rs) = rs

-- the locks of some references, appended to those before them: each is evaluated and checked before the next
abbrev pub lock_names : Inside → List LockName → List ReferenceTree → Act (List LockName)
lock_names i ns [] = give ns
lock_names i ns (r ∷ rs) = do
  v ← evaluated i r
  n ← named_lock i.account v
  lock_names i (ns ++ n ∷ []) rs

-- a name that is not held stays so
abbrev pub given_back_all : List LockName → Act (Unit {0})
given_back_all [] = give tt
given_back_all (n ∷ ns) = ask (Give_back n) >> given_back_all ns

-- whether it could be done
abbrev pub carried : LockKindTree → List LockName → Act Bool
carried anew ns = ask Release >> ask (Take ns)
carried adding ns = ask (Take ns)
carried giving_back ns = given_back_all ns >> give true

-- the value of a timeout plays no part
abbrev pub told : Option Text → Bool → Act (Unit {0})
told None b = unless Zlocked b
told (Some timeout) b = set_test b

-- nothing is given up or taken before all is evaluated and checked
abbrev pub locking : Inside → LockKindTree → LockedTree → Option ExprTree → Act (Unit {0})
locking i k names timeout = do
  ns ← lock_names i [] (names_of names)
  t ← optional_value i timeout
  b ← carried k ns
  told t b
