-- SPDX-License-Identifier: Apache-2.0
-- Rows that are read one at a time.
use Rattle.mstore.proofs.Words.{◌≡◌, ◌⊎◌, ℕ, ℤ, List, [], ◌∷◌, ◌++◌, Option, Some, None, IsTrue, refl, sym, subst, inl, append-nil, AllByRecursion, Int, Null}
use Rattle.mstore.proofs.Words.{Row, column, col, State, IsUnchanged, IsCalm, IsIdle, Stays, ShowsAll, ShowsNodesBy, AreNumbered, RiseFrom, IsAbove}
use Rattle.mstore.proofs.Words.{ShowsNodeBy, HasOtherBy, Shown, Each, sql, Has, has_left, has_right, all_has, shown_of, schema, Error, Ghosts, Held, IsNotRun}
use Rattle.mstore.proofs.Words.{IsPlain, inr, state, understood}
use Rattle.mstore.proofs.Doubting.{shown_open}
use Rattle.std.proofs.lemmas.List.{append_assoc}
use Rattle.sqlite.proofs.Callers.{begins_as, begun_plain, given_begin, unchanged_then}
use Rattle.sqlite.specs.Given.{HasBegun, HasGiven}
use Rattle.sqlite.specs.State.{Begins, Fails}
use Rattle.sqlite.specs.Effect.{Database}
use Rattle.sqlite_trees.proofs.ListLemmas.{all-append}
use Rattle.mstore.proofs.Texts.{all_is, all_command}
use Rattle.mstore.proofs.Answer.{rows_from}
use Rattle.mstore.proofs.States.{not_run_stays, stays_calm, stays_on, unchanged_stays}
use Rattle.mstore.proofs.Adopts.{all_shown, numbered_from}

-- the rows that were read are nodes', and their rowids rise up to the last
pub record SoFar (kept : ℕ) (given : List Row) (last : Option ℤ) : Type 0 where
  pub nodes : AllByRecursion (ShowsNodeBy kept) given
  pub rise : (more : List Row) → RiseFrom last more → RiseFrom None (given ++ more)

pub none_yet : (kept : ℕ) → SoFar kept [] None
none_yet kept = record { nodes = tt; rise = λ more h. h }

pub one_further : (kept : ℕ) (given : List Row) (last : Option ℤ) (row : Row) (n : ℤ) → SoFar kept given last → column row 0 ≡ Int n → IsAbove last n
    → ShowsNodeBy kept row
    → SoFar kept (given ++ row ∷ []) (Some n)
one_further kept given last row n so is above node = record {
  nodes = all-append _ given (row ∷ []) so.nodes (node, tt);
  rise = λ more h. subst (RiseFrom None) (sym (append_assoc given (row ∷ []) more)) (so.rise (row ∷ more) (n, is, above, h));
}

module _ (kept : ℕ) (old mid : State) (calm : IsCalm old) (same : IsUnchanged old mid) where
  mid_calm : IsCalm mid
  mid_calm = stays_calm old mid calm (unchanged_stays old mid calm.idle same.0.is_open same)

  -- the rows that were read are all
  module _ (new : State) (given : List Row) (last : Option ℤ) (so : SoFar kept given last) (shown : Shown (sql Each) [] mid new given) where
    all : ShowsAll old given
    all =
        let it = all_shown mid new given mid_calm.schema_is shown in
        record {
          each = λ r has. it.each r (subst (λ (d : Database). Has (d.trees 0) r) (sym same.0.now_is) has);
          only = λ row among. let found = it.only row among in (found.0, subst (λ (d : Database). Has (d.trees 0) found.0) same.0.now_is found.1, found.2);
        }

    pub read_numbered : AreNumbered (old.now.trees 0)
    read_numbered = numbered_from old given all (subst (RiseFrom None) (append-nil given) (so.rise [] tt))

    pub read_nodes : ShowsNodesBy kept old.now
    read_nodes = λ r has. all_has (ShowsNodeBy kept) given (shown_of r) so.nodes (all.each r has)

  -- one that was read is no node
  pub read_other : (given : List Row) (row : Row) → Begins (sql Each) [] mid (given ++ row ∷ []) → (ShowsNodeBy kept row → ⊥)
      → HasOtherBy kept (old.now.trees 0)
  read_other given row begins other =
      let got = (begins_as (sql Each) [] mid mid schema mid_calm.schema_is all_command all_is.0 all_is.1 all_is.2 (given ++ row ∷ []) begins).1 in
      let has : Has ((given ++ row ∷ []) ++ got.0) row = has_left (given ++ row ∷ []) got.0 row (has_right given (row ∷ []) row (inl refl)) in
      let it = rows_from [] [] (col 1 0 ∷ col 1 1 ∷ col 1 2 ∷ []) [] mid.now.trees 0 refl ((given ++ row ∷ []) ++ got.0) (got.1 Null) row has in
      subst (λ (d : Database). HasOtherBy kept (d.trees 0)) same.0.now_is (it.0, it.1, λ shows. other (subst (ShowsNodeBy kept) (sym it.3) shows))

-- ---- a query that is begun, and read on

pub begun_open : {S : Type 0} (g : Ghosts S) (sql : List ℕ) (params : Row) (old new : Held S) → HasBegun g sql params old new → IsTrue (state g new).is_open
    → IsTrue (state g old).is_open
begun_open g sql params old new (inl h) is_open = h.1.0.was_open
begun_open g sql params old new (inr h) is_open = (shown_open (state g old) (state g new) sql params _ h.1).0

pub all_begun : {S : Type 0} (g : Ghosts S) (old new : Held S) → IsCalm (state g old) → HasBegun g (sql Each) [] old new
    → HasGiven g (sql Each) [] new [] × IsUnchanged (state g old) (state g new)
all_begun g old new calm begun = begun_plain g (sql Each) [] old new (subst (λ s. IsPlain (understood s (sql Each))) (sym calm.schema_is) all_is.1) begun

pub kept_open : (old new : State) (e : Error) → Fails old new ⊥ e ⊎ IsUnchanged old new → IsTrue new.is_open → IsTrue old.is_open
kept_open old new e (inl h) is_open = h.3.was_open is_open
kept_open old new e (inr h) is_open = h.0.was_open

kept_on : (old new : State) (e : Error) → IsIdle old → IsTrue new.is_open → Fails old new ⊥ e ⊎ IsUnchanged old new → Stays old new
unfolding IsNotRun
kept_on old new e idle is_open (inl h) = not_run_stays old new idle is_open (sql Each) [] e (inr h)
kept_on old new e idle is_open (inr h) = unchanged_stays old new idle is_open h

pub kept_stays : (old mid new : State) (e : Error) → IsCalm old → IsUnchanged old mid → IsTrue new.is_open → Fails mid new ⊥ e ⊎ IsUnchanged mid new
    → Stays old new
kept_stays old mid new e calm same is_open h =
    let one = unchanged_stays old mid calm.idle same.0.is_open same in
    stays_on old mid new one (kept_on mid new e one.idle is_open h)

pub twice_stays : (old mid new : State) → IsCalm old → IsUnchanged old mid → IsUnchanged mid new → Stays old new
twice_stays old mid new calm same more = let both = unchanged_then old mid new same more in unchanged_stays old new calm.idle both.0.is_open both

-- one that was given is no node
pub given_other : {S : Type 0} (g : Ghosts S) (kept : ℕ) (old : State) (mid : Held S) (given : List Row) (row : Row) → IsCalm old
    → IsUnchanged old (state g mid)
    → HasGiven g (sql Each) [] mid (given ++ row ∷ []) → (ShowsNodeBy kept row → ⊥) → HasOtherBy kept (old.now.trees 0)
given_other g kept old mid given row calm same has other =
    read_other kept old (state g mid) calm same given row (given_begin g (sql Each) [] mid (given ++ row ∷ []) has) other
