-- SPDX-License-Identifier: Apache-2.0
-- A store of version 1 whose rows were read.
use Rattle.mstore.proofs.Words.{arith, ◌∙◌, Result, OnErr, List, ap, subst, sym, HoldBy, globals_in, Row, column, Database, Held, state, State, IsLive, Ghosts}
use Rattle.mstore.proofs.Words.{old_digits, AreRows, IsInFormBy, IsTrue, IsDatabase, AreNumbered, OnlyGives, IsIdle, IsCalm, IsUntouched, IsMigrated}
use Rattle.mstore.proofs.Words.{HasVersion, old_version, Stays, ShowsAll, ShowsNodesBy, IsOldCalm, IsOldStore}
use Rattle.mstore.proofs.Adopts.{nodes_from}
use Rattle.mstore.proofs.States.{stays_calm}

pub old_store : {S : Type 0} (g : Ghosts S) (old mid : Held S) → IsTrue (state g old).is_open → IsOldCalm (state g old) → Stays (state g old) (state g mid) → AreNumbered ((state g old).now.trees 0) → ShowsNodesBy old_digits (state g old).now → IsOldStore (state g mid)
old_store g old mid is_open was stays numbered nodes = record {
  calm = stays_calm (state g old) (state g mid) was.calm stays;
  version = subst (λ (d : Database). HasVersion d old_version) (sym stays.same) was.version;
  only = subst (λ (d : Database). OnlyGives d old_version) (sym stays.same) was.only;
  rows = subst (λ (d : Database). AreRows (IsInFormBy old_digits) (d.trees 0)) (sym stays.same)
      (nodes_from g old (was.live is_open).0 was.calm.schema_is numbered (λ r has.
      let it = nodes r has in
      (it.1, it.2, ap (λ (x : Row). column x 1) it.3, ap (λ (x : Row). column x 2) it.3, it.4)));
}

pub shown_still : (old mid : State) (rows : List Row) → Stays old mid → ShowsAll old rows → ShowsAll mid rows
shown_still old mid rows stays all = grind arith

pub migrated_from : (old mid new : State) → Stays old mid → IsMigrated mid new → IsMigrated old new
migrated_from old mid new stays m = record {
  schema_is = ap (λ (d : Database). d.schema) (sym stays.same) ∙ m.schema_is;
  was = subst (λ (d : Database). HasVersion d old_version) stays.same m.was;
  is = m.is;
  same = subst (λ (d : Database). HoldBy old_digits (d.trees 0) (globals_in new)) stays.same m.same;
}

pub untouched_from : (old mid new : State) → IsIdle old → Stays old mid → IsUntouched mid new → IsUntouched old new
untouched_from old mid new idle stays n = grind arith

pub old_calm : {S : Type 0} (g : Ghosts S) (old mid : Held S) → IsTrue (state g old).is_open → IsLive (state g old) → IsCalm (state g old) → Stays (state g old) (state g mid) → HasVersion (state g old).now old_version → OnlyGives (state g old).now old_version → IsOldCalm (state g mid)
old_calm g old mid is_open live calm stays has only = record {
  calm = stays_calm (state g old) (state g mid) calm stays;
  live = λ _. (subst IsDatabase (sym stays.same) (live is_open).0, subst IsDatabase (sym stays.same ∙ stays.idle.settled) (live is_open).0);
  version = subst (λ (d : Database). HasVersion d old_version) (sym stays.same) has;
  only = subst (λ (d : Database). OnlyGives d old_version) (sym stays.same) only;
}

pub on_err_as : {A E : Type 0} (P Q : Type 0) (r : Result A E) → (P → Q) → OnErr r P → OnErr r Q
on_err_as P Q r h e = grind arith
