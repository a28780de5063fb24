-- SPDX-License-Identifier: Apache-2.0
-- What a call says of a table, from what its statement says of the connection.
use Rattle.std.specs.Prelude.{◌&&◌, nat_lt, if◌then◌else◌}
use Rattle.mstore.specs.Database.{IsKept, node_rows}
use Rattle.mstore.specs.Room.{AreCounted, AreUpTo, has_room, last_number}
use Rattle.mstore.proofs.Words.{arith, ◌≡◌, ◌≤◌, ℕ, Bool, false, IsTrue, subst, sym, ◌∙◌, ap, AreHeld, Doubts, DoubtsStore, Ghosts, Held, state, stored}
use Rattle.mstore.proofs.Words.{IsMemory, IsStore, TableOver, doubt_of, holds, lookup, table_doubt}
use Rattle.mstore.specs.Stretch.{Agrees, DoubtsReading}
use Rattle.mstore.specs.declared.stretch.Stretch.{Stretch}
use Rattle.mstore.proofs.Doubting.{reading_doubts, sure_table, table_doubts}
use Rattle.mstore.proofs.Holding.{table_held}

-- one read after another
pub kept_then : {S : Type 0} (g : Ghosts S) (old mid new : Held S) → doubt_of g mid ≤ doubt_of g new → IsKept g old mid → IsKept g mid new → IsKept g old new
kept_then g old mid new order first second was sure =
    let a = first was (omega (arith, order, sure)) in
    let b = second a.0 sure in (b.0, b.1 ∙ a.1, b.2 ∙ a.2)

-- after a later step that failed
pub doubts_failed : {sound : Type 0} {old new : ℕ} {had_room has_room was_done is_done : Bool} → Doubts sound old new had_room has_room was_done
    → is_done ≡ false → Doubts sound old new had_room has_room is_done
doubts_failed d fails = record { order = d.order; failed = λ e f. fails; stays = d.stays; room = d.room }

module _ {S : Type 0} (g : Ghosts S) (old new : Held S) (is_alone : Bool) (was : IsTrue is_alone → doubt_of g old ≡ 0 → IsStore (state g old)) where
  abbrev pub doubt_after : ℕ
  doubt_after = if is_alone then doubt_of g new else 2

  store_before : doubt_of g old ≤ doubt_of g new → IsTrue is_alone → doubt_of g new ≡ 0 → IsStore (state g old)
  store_before order alone sure = was alone (omega (arith, order, sure))

  -- where the table is sure after the call, it was one before
  pub known : doubt_of g old ≤ doubt_of g new → doubt_after ≡ 0 → IsStore (state g old) × (doubt_of g new ≡ 0)
  known order sure = let it = sure_table g (record { conn = new; is_alone = is_alone; numbers = 0 }) sure in (store_before order it.0 it.1, it.1)

  pub still_store : doubt_of g old ≤ doubt_of g new → (IsStore (state g old) → doubt_of g new ≡ 0 → IsStore (state g new)) → IsTrue is_alone
      → doubt_of g new ≡ 0 → IsStore (state g new)
  still_store order stays alone sure = stays (store_before order alone sure) sure

  -- its rows are counted, if a bound of them stays one
  pub still_counted : {numbers numbers' : ℕ} → doubt_of g old ≤ doubt_of g new → (IsTrue is_alone → doubt_of g old ≡ 0 → AreCounted numbers (node_rows g old))
      → (IsStore (state g old) → doubt_of g new ≡ 0 → IsTrue (nat_lt numbers' last_number) → IsTrue (nat_lt numbers last_number) × (AreUpTo numbers (node_rows g old) → AreUpTo numbers' (node_rows g new)))
      → IsTrue is_alone → doubt_of g new ≡ 0 → AreCounted numbers' (node_rows g new)
  still_counted order counted goes alone sure less =
      let it = goes (store_before order alone sure) sure less in
      it.1 (counted alone (omega (arith, order, sure)) it.0)

  -- and if they stay the same
  pub kept_counted : {numbers : ℕ} → doubt_of g old ≤ doubt_of g new → (IsTrue is_alone → doubt_of g old ≡ 0 → AreCounted numbers (node_rows g old))
      → IsKept g old new
      → IsTrue is_alone → doubt_of g new ≡ 0 → AreCounted numbers (node_rows g new)
  kept_counted {numbers = numbers} order counted kept = still_counted order counted (λ was sure less. (less, subst (AreUpTo numbers) (sym (kept was sure).2)))

  -- what was read ahead agrees with the rows, if it stays so
  pub still_agrees : (s s' : Stretch) → doubt_of g old ≤ doubt_of g new → (IsTrue is_alone → doubt_of g old ≡ 0 → Agrees (holds g old) s)
      → (IsStore (state g old) → doubt_of g new ≡ 0 → Agrees (holds g old) s → Agrees (holds g new) s') → IsTrue is_alone → doubt_of g new ≡ 0 → Agrees (holds g new) s'
  still_agrees s s' order agreed goes alone sure = goes (store_before order alone sure) sure (agreed alone (omega (arith, order, sure)))

  -- and so it does if the rows are as they were
  pub kept_agrees : (s s' : Stretch) → doubt_of g old ≤ doubt_of g new → (IsTrue is_alone → doubt_of g old ≡ 0 → Agrees (holds g old) s) → IsKept g old new
      → (IsStore (state g old) → doubt_of g new ≡ 0 → Agrees (holds g old) s → Agrees (holds g old) s') → IsTrue is_alone → doubt_of g new ≡ 0 → Agrees (holds g new) s'
  kept_agrees s s' order agreed kept goes =
      still_agrees s s' order agreed (λ was sure agree. subst (λ rows. Agrees (lookup rows) s') (sym (kept was sure).2) (goes was sure agree))

  -- where the table is sure after the call, it agreed before it
  pub agreed_before : (s : Stretch) → doubt_of g old ≤ doubt_of g new → (IsTrue is_alone → doubt_of g old ≡ 0 → Agrees (holds g old) s) → doubt_after ≡ 0
      → Agrees (holds g old) s
  agreed_before s order agreed sure =
      let it = sure_table g (record { conn = new; is_alone = is_alone; numbers = 0 }) sure in agreed it.0 (omega (arith, order, it.1))

  -- the table as it is seen before the call
  module _ {numbers : ℕ} (t : TableOver S) (is : ◌≡◌ {A = TableOver S} (record { conn = old; is_alone = is_alone; numbers = numbers }) t) where
    pub doubts_counted : (numbers' : ℕ) (is_done : Bool) → DoubtsStore g old new is_done
        → (IsTrue (nat_lt numbers' last_number) → IsTrue (nat_lt numbers last_number))
        → Doubts (IsMemory g) (table_doubt g t) doubt_after (has_room g t) (is_alone && nat_lt numbers' last_number) is_done
    doubts_counted numbers' is_done d fewer =
        subst (λ t. Doubts (IsMemory g) (table_doubt g t) doubt_after (has_room g t) (is_alone && nat_lt numbers' last_number) is_done) is
        (table_doubts g old new is_alone (nat_lt numbers last_number) (nat_lt numbers' last_number) is_done was d fewer)

    pub doubts_seen : (is_done : Bool) → DoubtsStore g old new is_done
        → Doubts (IsMemory g) (table_doubt g t) doubt_after (has_room g t) (is_alone && nat_lt numbers last_number) is_done
    doubts_seen is_done d = doubts_counted numbers is_done d (λ less. less)

    -- also if it may have read ahead
    pub reading_seen : (is_done : Bool) → DoubtsReading g old new is_done
        → Doubts (IsMemory g) (table_doubt g t) doubt_after (has_room g t) (is_alone && nat_lt numbers last_number) is_done
    reading_seen is_done d =
        subst (λ t. Doubts (IsMemory g) (table_doubt g t) doubt_after (has_room g t) (is_alone && nat_lt numbers last_number) is_done) is
        (reading_doubts g old new is_alone (nat_lt numbers last_number) is_done was d)

    pub count_seen : numbers ≡ t.numbers
    count_seen = ap (λ (t : TableOver S). t.numbers) is

    pub same_seen : doubt_of g old ≤ doubt_of g new → IsKept g old new → doubt_after ≡ 0 → stored g new ≡ stored g t.conn
    same_seen order kept sure = let it = known order sure in (kept it.0 it.1).1 ∙ ap (λ (t : TableOver S). stored g t.conn) is

    pub held_seen : doubt_of g old ≤ doubt_of g new → doubt_after ≡ 0 → AreHeld (stored g t.conn)
    held_seen order sure = subst (λ t. AreHeld (stored g t.conn)) is (table_held g old (known order sure).0)
