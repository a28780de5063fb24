-- SPDX-License-Identifier: Apache-2.0
-- The laws of operations and of plans, as statements. The functions of src/ named after them carry them.
--
-- A plan is whatever a line does: which commands there are does not matter to these laws.
use Rattle.std.specs.Prelude.{◌≡◌, ℕ, false, IsTrue, List, [], ◌∷◌, Some}
use Rattle.std.specs.FinMap.{get}
use Rattle.mspec.specs.Access.{Account, Settings}
use Rattle.mspec.specs.Act.{Outcome}
use Rattle.mspec.specs.Plan.{Op, Answer, Plan, Done, Ask, Ops, perform, cut_short}
use Rattle.mmeaning.specs.LineMeaning.{Completion}
use Rattle.mmeaning.specs.Shared.{Shared, act}
use Rattle.misolation.specs.Reach.{Accounts, IsClosed}
use Rattle.misolation.specs.Cut.{cut_settings, cut_shared, IsFit}

-- an operation and what it answered
pub record Exchange : Type 0 where
  pub op : Op
  pub answer : Answer op

-- the operations of a plan that is carried out, in order: the writes are among them
abbrev pub exchanges : {W A : Type 0} → Ops W → Plan A → W → List Exchange
exchanges ops (Done a) w = []
exchanges ops (Ask op k) w = record { op = op; answer = (ops op w).0 } ∷ exchanges ops (k (ops op w).0) (ops op w).1

-- who does something: a terminal of an account, under some settings
pub record Actor : Type 0 where
  pub settings : Settings
  pub terminal : ℕ
  pub account : Account
  pub known : get settings.terminals terminal ≡ Some account

abbrev pub ops_of : Actor → Ops Shared
ops_of b = act b.settings b.terminal b.account.name

-- the same over the cut
abbrev pub cut_ops : Accounts → Actor → Ops Shared
cut_ops s b = act (cut_settings s b.settings) b.terminal b.account.name

-- ---- the inside law: over the cut alone it is the same

pub record InsideOperation (s : Accounts) (b : Actor) (op : Op) (w : Shared) : Type 0 where
  pub answer : (cut_ops s b op (cut_shared s b.settings w)).0 ≡ (ops_of b op w).0
  pub shared : (cut_ops s b op (cut_shared s b.settings w)).1 ≡ cut_shared s b.settings (ops_of b op w).1

abbrev pub InsideOperations : Type 0
InsideOperations =
    (s : Accounts) (b : Actor) (op : Op) (w : Shared) → IsClosed b.settings s → IsTrue (s b.account.name) → IsFit b.settings w → InsideOperation s b op w

-- what the plan gives, all that it does and is answered, and what is left, whole or cut short
pub record InsidePlan (s : Accounts) (b : Actor) {A : Type 0} (p : Plan A) (w : Shared) : Type 0 where
  pub outcome : (perform (cut_ops s b) p (cut_shared s b.settings w)).0 ≡ (perform (ops_of b) p w).0
  pub exchanges : exchanges (cut_ops s b) p (cut_shared s b.settings w) ≡ exchanges (ops_of b) p w
  pub shared : (perform (cut_ops s b) p (cut_shared s b.settings w)).1 ≡ cut_shared s b.settings (perform (ops_of b) p w).1
  pub short : (n : ℕ) → cut_short (cut_ops s b) n p (cut_shared s b.settings w) ≡ cut_shared s b.settings (cut_short (ops_of b) n p w)

abbrev pub InsidePlans : Type 0
InsidePlans =
    (s : Accounts) (b : Actor) (p : Plan (Outcome Completion)) (w : Shared) → IsClosed b.settings s → IsTrue (s b.account.name) → IsFit b.settings w →
    InsidePlan s b p w

-- ---- the outside law: the cut is left as it was

abbrev pub OutsideOperations : Type 0
OutsideOperations =
    (s : Accounts) (b : Actor) (op : Op) (w : Shared) → IsClosed b.settings s → s b.account.name ≡ false →
    cut_shared s b.settings (ops_of b op w).1 ≡ cut_shared s b.settings w

pub record OutsidePlan (s : Accounts) (b : Actor) {A : Type 0} (p : Plan A) (w : Shared) : Type 0 where
  pub shared : cut_shared s b.settings (perform (ops_of b) p w).1 ≡ cut_shared s b.settings w
  pub short : (n : ℕ) → cut_shared s b.settings (cut_short (ops_of b) n p w) ≡ cut_shared s b.settings w

abbrev pub OutsidePlans : Type 0
OutsidePlans =
    (s : Accounts) (b : Actor) (p : Plan (Outcome Completion)) (w : Shared) → IsClosed b.settings s → s b.account.name ≡ false → OutsidePlan s b p w

-- ---- fitting locks are kept

pub record KeepsFit (b : Actor) {A : Type 0} (p : Plan A) (w : Shared) : Type 0 where
  pub whole : IsFit b.settings (perform (ops_of b) p w).1
  pub short : (n : ℕ) → IsFit b.settings (cut_short (ops_of b) n p w)

abbrev pub PlansKeepFit : Type 0
PlansKeepFit = (b : Actor) (p : Plan (Outcome Completion)) (w : Shared) → IsFit b.settings w → KeepsFit b p w

-- and the cut has fitting locks, under its own settings
abbrev pub CutIsFit : Type 0
CutIsFit = (s : Accounts) (settings : Settings) (w : Shared) → IsClosed settings s → IsFit settings w → IsFit (cut_settings s settings) (cut_shared s settings w)
