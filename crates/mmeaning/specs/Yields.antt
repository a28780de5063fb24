-- SPDX-License-Identifier: Apache-2.0
-- What a function over values says of an act: its result is the act's outcome, and the act looks at no state, changes none and asks
-- nothing of the world.
--
-- `E` is the code's type of codes and `fault_of` what each stands for; `f` says what the call's value stands for. Running out of memory
-- says nothing of the act, and no such function needs the store.
use Rattle.std.specs.Prelude.{◌≡◌, Result, Ok, Err}
use Rattle.mspec.specs.Code.{Fault, Own, Lost, Memory, Store}
use Rattle.mspec.specs.Plan.{Done}
use Rattle.mspec.specs.Act.{State, Gives, Fails, Act}

abbrev pub YieldsFault : {A : Type 0} → Act A → Fault → Type 0
YieldsFault p (Own c) = (s : State) → p s ≡ Done (Fails c s)
YieldsFault p (Lost Memory) = Unit {0}
YieldsFault p (Lost Store) = ⊥

abbrev pub YieldsAs : {A X E : Type 0} → (E → Fault) → Act A → (X → A) → Result X E → Type 0
YieldsAs fault_of p f (Ok x) = (s : State) → p s ≡ Done (Gives (f x) s)
YieldsAs fault_of p f (Err e) = YieldsFault p (fault_of e)

pub record Yields {A X E : Type 0} (fault_of : E → Fault) (p : Act A) (f : X → A) (r : Result X E) : Type 0 where
  pub ends : YieldsAs fault_of p f r
