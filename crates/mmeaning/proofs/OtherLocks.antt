-- SPDX-License-Identifier: Apache-2.0
-- No operation changes the locks of another terminal.
use Rattle.mmeaning.proofs.MeaningWords.{◌≡◌, ℕ, Bool, true, false, List, Option, Some, None, refl, ◌∙◌, LockName, Locks, taken, released, Completion, list_all}
use Rattle.mmeaning.proofs.MeaningWords.{Op, May, Value, Status, Neighbour, Following, Routine, Put, Kill, Take, Give_back, Release, Plan, Text, Outcome, keeps}
use Rattle.mmeaning.proofs.MeaningWords.{keeps_short, Settings, Shared, act, guarded, may_call, may_read, may_write, may_lock, took, PlanKeepsOthersLocks}
use Rattle.mspec.specs.LockLaws as laws
use Rattle.mspec.proofs.LockFacts.{others_keep_locks}

module _ (settings : Settings) (terminal : ℕ) (me : Text) where
  abbrev IsKept : Shared → Shared → Type 0
  IsKept w v = released v.locks terminal ≡ released w.locks terminal

  by_guard : {A : Type 0} (b : Bool) (a : A) (w : Shared) (r : A × Shared) → IsKept w r.1 → IsKept w (guarded b a w r).1
  by_guard true a w r h = h
  by_guard false a w r h = refl

  by_take : (names : List LockName) (w : Shared) (o : Option Locks) → taken w.locks terminal names ≡ o → IsKept w (took w o).1
  by_take names w None e = refl
  by_take names w (Some locks) e = let law : laws.OthersKeepLocks w.locks terminal = others_keep_locks w.locks terminal in law.taken names locks e

  by_operation : (op : Op) (w : Shared) → IsKept w (act settings terminal me op w).1
  by_operation (May owner name mode) w = refl
  by_operation (Value n) w = by_guard (may_read settings me n) _ w _ refl
  by_operation (Status n) w = by_guard (may_read settings me n) _ w _ refl
  by_operation (Neighbour direction n) w = by_guard (may_read settings me n) _ w _ refl
  by_operation (Following direction n) w = by_guard (may_read settings me n) _ w _ refl
  by_operation (Routine None name) w = refl
  by_operation (Routine (Some owner) name) w = by_guard (may_call settings me owner) _ w _ refl
  by_operation (Put n t) w = by_guard (may_write settings me n) _ w _ refl
  by_operation (Kill n) w = by_guard (may_write settings me n) _ w _ refl
  by_operation (Take names) w = by_guard (list_all (may_lock settings me) names) _ w _ (by_take names w (taken w.locks terminal names) refl)
  by_operation (Give_back n) w = let law : laws.OthersKeepLocks w.locks terminal = others_keep_locks w.locks terminal in law.given_back n
  by_operation Release w = let law : laws.OthersKeepLocks w.locks terminal = others_keep_locks w.locks terminal in law.released

  pub others_kept : (p : Plan (Outcome Completion)) (w : Shared) → PlanKeepsOthersLocks settings terminal me p w
  others_kept p w = record {
    whole = keeps (IsKept w) (act settings terminal me) (λ op v h. by_operation op v ∙ h) p w refl;
    short = λ n. keeps_short (IsKept w) (act settings terminal me) (λ op v h. by_operation op v ∙ h) n p w refl;
  }
