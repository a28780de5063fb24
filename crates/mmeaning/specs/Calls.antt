-- SPDX-License-Identifier: Apache-2.0
-- What a call of the code says of an act: its result is the act's outcome, and it leaves the state and the world that the act
-- leaves.
--
-- `E` is the code's type of codes and `fault_of` what each stands for; `f` says what the call's value stands for.
use Rattle.std.specs.Prelude.{◌≡◌, ◌≤◌, ℕ, Bool, Option, Result, Ok, Err}
use Rattle.mspec.specs.Code.{Fault, Own, Lost, Memory, Store}
use Rattle.mspec.specs.Plan.{Ops, perform, cut_short}
use Rattle.mspec.specs.Act.{Text, Node, Locals, Given, State, Gives, Fails, Act}
use Rattle.mspec.specs.Cursor.{Cursor}
use Rattle.mmeaning.specs.Transition.{Settings, Shared, act}

-- what stays the same while a line runs
pub record Standing : Type 0 where
  pub settings : Settings
  pub terminal : ℕ
  pub account : Text
  pub given : Given

abbrev pub ops_of : Standing → Ops Shared
ops_of b = act b.settings b.terminal b.account

-- a session's state in a world
abbrev pub Here : Type 0
Here = State × Shared

-- the same by its parts
abbrev pub point : Locals → Option Node → Bool → Cursor → Text → ℕ → Given → Shared → Here
point locals naked test cursor out steps given w = (record { locals = locals; naked = naked; test = test; cursor = cursor; out = out; steps = steps; given = given }, w)

abbrev pub Gave : {A : Type 0} → Standing → Act A → Here → A → Here → Type 0
Gave b p h a h' = perform (ops_of b) (p h.0) h.1 ≡ (Gives a h'.0, h'.1)

-- the act was cut short, and its state is lost
abbrev pub IsCut : {A : Type 0} → Standing → Act A → Here → Here → Type 0
IsCut b p h h' = (n : ℕ) × (cut_short (ops_of b) n (p h.0) h.1 ≡ h'.1)

-- The act fails with a code of its own, or memory or the store did not suffice for it. Over a steady store it is never the store.
abbrev pub FailedBy : {A : Type 0} → Standing → (steady : Type 0) → Act A → Here → Fault → Here → Type 0
FailedBy b steady p h (Own c) h' = perform (ops_of b) (p h.0) h.1 ≡ (Fails c h'.0, h'.1)
FailedBy b steady p h (Lost Memory) h' = IsCut b p h h'
FailedBy b steady p h (Lost Store) h' = (steady → ⊥) × IsCut b p h h'

abbrev pub Ends : {A X E : Type 0} → Standing → (steady : Type 0) → (E → Fault) → Act A → (X → A) → Here → Result X E → Here → Type 0
Ends b steady fault_of p f h (Ok x) h' = Gave b p h (f x) h'
Ends b steady fault_of p f h (Err e) h' = FailedBy b steady p h (fault_of e) h'

-- A call does an act, with any fuel that is at least the steps left, and adds no steps. `steady` says that the store after it is
-- steady and has room: as a field of the standing it would lift that to a greater universe.
pub record Did {A X E : Type 0} (b : Standing) (steady : Type 0) (fault_of : E → Fault) (p : ℕ → Act A) (f : X → A) (h : Here) (r : Result X E) (h' : Here) : Type 0 where
  pub at : (n : ℕ) → h.0.steps ≤ n → Ends b steady fault_of (p n) f h r h'
  pub fewer : h'.0.steps ≤ h.0.steps

-- which losses there can be
abbrev pub MayLose : (steady : Type 0) → Fault → Type 0
MayLose steady (Own c) = ⊥
MayLose steady (Lost Memory) = Unit {0}
MayLose steady (Lost Store) = steady → ⊥

-- q from `h'` is what is left of p from `h`
pub record Follows {A : Type 0} (b : Standing) (p : Act A) (h : Here) (q : Act A) (h' : Here) : Type 0 where
  pub whole : perform (ops_of b) (p h.0) h.1 ≡ perform (ops_of b) (q h'.0) h'.1
  pub short : (k : ℕ) → (m : ℕ) × (cut_short (ops_of b) m (p h.0) h.1 ≡ cut_short (ops_of b) k (q h'.0) h'.1)
