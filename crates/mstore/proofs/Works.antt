-- SPDX-License-Identifier: Apache-2.0
-- What the statements do inside the transaction of a migration.
use Rattle.mstore.proofs.Words.{arith, ◌≡◌, ◌⊎◌, ℕ, ℤ, pos, true, false, List, [], ◌∷◌, codes, drop, map, None, Ok, refl, sym, ap, subst, ◌∙◌, Value, Null, Row}
use Rattle.mstore.proofs.Words.{column, col, lit, Query, IsAnswer, Command, Update, overlay, cast, cast_row, Written, Task, Updates, Tally, Does, Database}
use Rattle.mstore.proofs.Words.{State, mode_of, ExecutesInside, runs_as, one_step, statement_of, Enforced, Given, Has, without_all, are_fresh, ids_of}
use Rattle.mstore.proofs.Words.{put_all_adds, given, rowid, last_term, inl, inr, and_parts, id_in, has_rowid, put_all_has, Int, understood, everything, schema}
use Rattle.mstore.proofs.Words.{PutsAt, RemovesWithin, Kill, Put, Set, content, this_version, GivesVersion, IsOneVersion, OnlyGives, true≢false, version_name}
use Rattle.mstore.proofs.Words.{IsAny, IsWorking, sql, MovesKey, RanInside, ◌++◌, ◌≢◌, Trees, edit_of, put_all}
use Rattle.sqlite.specs.Kind.TheVariants.{Text as KindText}
use Rattle.mstore.proofs.Answer.{rows_from, rows_to, has_mapped, mapped_has}
use Rattle.mstore.proofs.Edits.{left_nodes, left_from, has_own}
use Rattle.mstore.proofs.Kills.{kills, kill_map}
use Rattle.mstore.proofs.Makes.{apart, meta_table}
use Rattle.mstore.proofs.Puts.{puts, put_nodes, put_map}
use Rattle.mstore.proofs.Casts.{cast_int}
use Rattle.mstore.proofs.Ranges.{key_moved}
use Rattle.mstore.proofs.Texts.{Compiles, table_query, program, at_name}
use Rattle.mstore.proofs.Versions.{equal_text, text_equal}
use Rattle.mstore.proofs.Writes.{went, same_value}

module _ (old new : State) (was : IsWorking old) where
  -- the rows are still a map, and the version's table is as it was
  abbrev pub Works : Type 0
  Works = IsWorking new × (new.now.trees 2 ≡ old.now.trees 2)

  pub kills_inside : (low high : List ℕ) → RanInside (sql Kill) low high old new → Works × RemovesWithin (content old) (content new) low high
  kills_inside low high (count, h) =
      let it = kills old was.schema_is was.rows low high new count h.0 in (
        (record { inside = h.1.mode; schema_is = it.0; rows = left_nodes _ _ _ was.rows it.2 }, it.3),
        kill_map _ _ low high was.rows it.2,
      )

  puts_inside : (k v : List ℕ) → RanInside (sql Put) k v old new → Works × PutsAt (content old) (content new) k v
  puts_inside k v (count, h) =
      let it = puts old was.schema_is was.rows k v new count h.0 in (
        (record { inside = h.1.mode; schema_is = it.0; rows = put_nodes {F = IsAny} _ _ k v tt was.rows it.2 }, it.3),
        put_map {F = IsAny} _ _ k v tt was.rows it.2,
      )

-- one after the other
pub moves_inside : (old mid new : State) (was : IsWorking old) (from to v next : List ℕ) → from ≢ to → next ≡ from ++ 0 ∷ [] → RanInside (sql Kill) from next old mid → RanInside (sql Put) to v mid new
    → IsWorking new × MovesKey (content old) (content new) from to v × (new.now.trees 2 ≡ old.now.trees 2)
moves_inside old mid new was from to v next apart is gone put =
    let removed = kills_inside old mid was from next gone in
    let there = puts_inside mid new removed.0.0 to v put in
    (there.0.0, key_moved (content old) (content mid) (content new) from to v next apart is removed.1 there.1, there.0.1 ∙ removed.0.1)

-- ---- the version

abbrev set_query : Query
set_query = table_query 2 at_name (col 1 0 ∷ col 1 0 ∷ col 1 1 ∷ lit this_version ∷ []) []

abbrev set_command : Command
set_command = Update 1 (program set_query)

pub set_is : Compiles Set set_command
unfolding understood everything
set_is = (refl, (refl, refl))

abbrev meta_task : State → Task
meta_task s = record { limit = s.step_limit; keys = Enforced; schema = schema; table = meta_table; params = [] }

module _ (old new : State) (was : IsWorking old) (count : ℕ) (h : ExecutesInside 0 (sql Set) [] old new (Ok count)) where
  abbrev rows : List Row
  rows = old.now.trees 2

  updated : (one : Written) × Updates (meta_task old) (program set_query) [] old.now.trees (Ok one) × (new.now ≡ record { schema = schema; trees = one.trees })
  updated =
      let w = runs_as (sql Set) [] old new schema was.schema_is set_command set_is.0 set_is.1 count h.0 in
      let text = statement_of (sql Set) (understood schema (sql Set)) in
      let done = went (subst (λ s. Does old.step_limit (mode_of old) [] (record old.now { schema = s }) text None set_command (Ok (w.tally, new.now))) was.schema_is w.changed) in
      (done.0, done.1, ap (λ (p : Tally × Database). p.1) (same_value (went (went done.2).2).2))

  abbrev cast_of : Row → Row
  cast_of s = cast_row meta_table (drop 1 s)

  -- the rows that are shown are put in the place of those that have their rowids
  asked : (asked : List Row) × IsAnswer set_query (overlay old.now.trees []) [] asked × (new.now.trees 0 ≡ old.now.trees 0)
      × ((x : Row) → Has (map cast_of asked) x → Has (new.now.trees 2) x)
      × ((x : Row) → Has (new.now.trees 2) x → Has (map cast_of asked) x ⊎ (Has rows x × ((id : ℤ) → Has (ids_of asked) id → has_rowid id x ≡ false)))
  asked =
      let done = updated in
      let shown = went done.1 in
      let made = went shown.2 in
      let ids = ids_of shown.0 in
      let edit = edit_of old.now.trees meta_table ids Given 1 shown.0 in
      let step = one_step schema Enforced old.now.trees made.0 edit refl made.1 in
      let left = without_all rows ids in
      let news : edit.news ≡ map cast_of shown.0 = given left (map cast_of shown.0) in
      let trees : done.0.trees ≡ made.0 = ap (λ (it : Written). it.trees) (same_value made.2) in
      let now : new.now.trees ≡ made.0 = ap (λ (d : Database). d.trees) done.2 ∙ trees in
      let is : new.now.trees 2 ≡ put_all left (map cast_of shown.0) = ap (λ (t : Trees). t 2) now ∙ step.rows ∙ ap (put_all left) news in (
        shown.0,
        shown.1.answer Null,
        ap (λ (t : Trees). t 0) now ∙ step.tables.0 apart,
        λ x here. subst (λ l. Has l x) (sym is) (put_all_adds (map cast_of shown.0) left x (subst (λ l. are_fresh left l ≡ true) news step.fresh) here),
        λ x here. elim (put_all_has (map cast_of shown.0) left x (subst (λ l. Has l x) is here)) [ inl put ↦ inl put | inr stays ↦ inr (left_from ids rows x stays) ],
      )

  pub sets_inside : IsWorking new × (new.now.trees 0 ≡ old.now.trees 0)
  sets_inside = grind (arith, asked.2, updated.2)

  abbrev full : Row → Row
  full r = rowid r ∷ rowid r ∷ column r 1 ∷ this_version ∷ []

  pub version_set : (v : Value) → GivesVersion old.now v → GivesVersion new.now this_version
  version_set v has =
      let r = has.0 in
      let shown : Has asked.0 (full r) =
      rows_to at_name [] (col 1 0 ∷ col 1 0 ∷ col 1 1 ∷ lit this_version ∷ []) [] old.now.trees 2 refl asked.0 asked.1 r has.1 (last_term (text_equal (column r 1) (codes "version") has.2)) in
      let put : Has (new.now.trees 2) (cast_of (full r)) = asked.3 (cast_of (full r)) (mapped_has cast_of asked.0 (full r) shown) in
      (cast_of (full r), put, ap (cast KindText) has.2, cast_int (pos 2))

  -- only the row that had a version has one
  module _ (v : Value) (has : GivesVersion old.now v) (one : IsOneVersion old.now) (only : OnlyGives old.now v) where
    abbrev named : Row
    named = has.0

    put_only : (x : Row) → Has (map cast_of asked.0) x → x ≡ cast_of (full named)
    put_only x h =
        let made = has_mapped cast_of asked.0 x h in
        let it = rows_from at_name [] (col 1 0 ∷ col 1 0 ∷ col 1 1 ∷ lit this_version ∷ []) [] old.now.trees 2 refl asked.0 asked.1 made.0 made.1 in
        let same : it.0 ≡ named = one it.0 named it.1 has.1 (equal_text (column it.0 1) (codes "version") (and_parts _ _ it.2).0) has.2 in
        made.2 ∙ ap cast_of (it.3 ∙ ap full same)

    not_left : (x : Row) → Has rows x → column x 1 ≡ version_name → ((id : ℤ) → Has (ids_of asked.0) id → has_rowid id x ≡ false) → ⊥
    not_left x h first free =
        let same : x ≡ named = one x named h has.1 first has.2 in
        let id : rowid x ≡ Int only.0 = (only.1 x h first).0 in
        let shown : Has asked.0 (full x) =
        rows_to at_name [] (col 1 0 ∷ col 1 0 ∷ col 1 1 ∷ lit this_version ∷ []) [] old.now.trees 2 refl asked.0 asked.1 x h (last_term (text_equal (column x 1) (codes "version") first)) in
        let among : Has (ids_of asked.0) (id_in (rowid x)) = mapped_has (λ r. id_in (rowid r)) asked.0 (full x) shown in
        true≢false (sym (has_own x (id_in (rowid x)) (id ∙ ap Int (sym (ap id_in id)))) ∙ free (id_in (rowid x)) among)

    the_put : (x : Row) → Has (new.now.trees 2) x → column x 1 ≡ version_name → x ≡ cast_of (full named)
    the_put x h first = elim (asked.4 x h) [ inl put ↦ put_only x put | inr left ↦ absurd (not_left x left.0 first left.1) ]

    pub one_set : IsOneVersion new.now
    one_set r s a b first second = the_put r a first ∙ sym (the_put s b second)
