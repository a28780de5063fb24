-- SPDX-License-Identifier: Apache-2.0
-- What is known of a table over a store without faults, if it has room after a call.
use Rattle.mstore.proofs.Words.{◌≡◌, Bool, true, sym, None, List, [], ◌∷◌, ℕ, Some, IsTrue, and_parts, Row, Blob, Ghosts, Held, state, IsStore, IsValue}
use Rattle.mstore.proofs.Words.{ShowsValue, doubt_of, holds, subst, State, inl, inr}
use Rattle.mstore.specs.Database.{IsOpenedFrom, node_rows}
use Rattle.std.specs.Prelude.{◌+◌, ◌&&◌, nat_lt}
use Rattle.mstore.specs.Room.{AreCounted, AreUpTo, IsFaultless, is_full, last_number}
use Rattle.mstore.proofs.Numbers.{not_full_up}
use Rattle.mstore.proofs.Doubting.{memory_is_sure}
use Rattle.mstore.proofs.Maps.{lookup_some}

-- a store is one whatever its limit on steps
pub unlimited_store : {S : Type 0} (g : Ghosts S) (old new : Held S) → new ≡ record old { step_limit = None } → (doubt_of g old ≡ 0 → IsStore (state g old))
    → doubt_of g new ≡ 0 → IsStore (state g new)
unlimited_store g old new is was = subst (λ h. doubt_of g h ≡ 0 → IsStore (state g h)) (sym is) (λ sure.
    let store = was sure in
    record { calm = record { idle = record { autocommit = store.calm.idle.autocommit; settled = store.calm.idle.settled }; schema_is = store.calm.schema_is }; version = store.version; nodes = store.nodes })

-- and it was opened as it was
pub unlimited_opened : {S : Type 0} (g : Ghosts S) (was : State) (old new : Held S) → new ≡ record old { step_limit = None }
    → (doubt_of g old ≡ 0 → IsOpenedFrom was (state g old)) → doubt_of g new ≡ 0 → IsOpenedFrom was (state g new)
unlimited_opened g was old new is opened = subst (λ h. doubt_of g h ≡ 0 → IsOpenedFrom was (state g h)) (sym is) (λ sure. elim (opened sure) [
  | inl made ↦ inl made
  | inr (inl same) ↦ inr (inl same)
  | inr (inr moved) ↦ inr (inr (record { schema_is = moved.schema_is; was = moved.was; is = moved.is; same = moved.same }))
])

-- what it is to have room
pub room_parts : (is_alone has_more : Bool) → IsTrue (is_alone && has_more) → IsTrue is_alone × IsTrue has_more
room_parts is_alone has_more room = and_parts is_alone has_more room

module _ {S : Type 0} (g : Ghosts S) (beneath : IsFaultless g) (old new : Held S) (is_alone : Bool) {numbers : ℕ}
    (was : (IsTrue is_alone → doubt_of g old ≡ 0 → IsStore (state g old)) × (old.step_limit ≡ None) × (IsTrue is_alone → doubt_of g old ≡ 0 → AreCounted numbers (node_rows g old)))
    (alone : IsTrue is_alone) where
  pub store_is : IsStore (state g old)
  store_is = was.0 alone (memory_is_sure g old beneath.memory)

  -- after a put, whose row has the next number at most
  pub not_full : (numbers' : ℕ) → IsTrue (nat_lt numbers' last_number)
      → (IsTrue (nat_lt numbers' last_number) → IsTrue (nat_lt numbers last_number) × (numbers' ≡ numbers + 1))
      → ((n : ℕ) → AreUpTo n (node_rows g old) → AreUpTo (n + 1) (node_rows g new)) → is_full (node_rows g new) ≡ true → ⊥
  not_full numbers' less more up =
      let it = more less in
      not_full_up (node_rows g new) numbers' less (subst (λ n. AreUpTo n (node_rows g new)) (sym it.1) (up numbers (was.2 alone (memory_is_sure g old beneath.memory) it.0)))

  -- what a row shows of a store is in form
  pub value_is : (k : List ℕ) (row : Row) → ShowsValue (holds g old k) (Some row) → (v : List ℕ) × (row ≡ Blob v ∷ []) × IsValue v
  value_is k row shows =
      let it = lookup_some _ k shows.0 shows.2 in
      (shows.0, shows.1, subst IsValue it.3 (store_is.nodes.in_form it.0 it.1).1)
