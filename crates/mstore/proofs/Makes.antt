-- SPDX-License-Identifier: Apache-2.0
-- How the tables are made.
use Rattle.mstore.proofs.Words.{◌≡◌, ℕ, pos, true, false, List, [], ◌∷◌, codes, None, Ok, refl, sym, ap, ap₂, subst, ◌∙◌, inl, inr, arith, Null, Int, Row, lit}
use Rattle.mstore.proofs.Words.{Source, CreateTable, Insert, Enforced, Chosen, Tally, Does, lacks_sequence, Written, Database, State, mode_of, Opens, Writes}
use Rattle.mstore.proofs.Words.{Executes, IsPlain, command_of, statement_of, runs_as, one_step, put_all_adds, put_all_has, Has, Values, over_memory, everything}
use Rattle.mstore.proofs.Words.{understood, node, meta, schema, no_schema, version_name, this_version, IsBare, IsBlank, IsMemory, IsOneVersion, GivesVersion}
use Rattle.mstore.proofs.Words.{key_of, value_of, globals_by, empty, no_doubt, NodeTable, MetaTable, Version, sql, Trees}
use Rattle.sqlite.specs.declared.types.Value.TheVariants.{Text}
use Rattle.sqlite.specs.Table.{Table}
use Rattle.sqlite.specs.Edit.{edit_of, numbered, next_rowid, put_all}
use Rattle.sqlite.specs.Change.{created, next_tree}
use Rattle.mmemory.specs.Memory.{memory_is_ordered, memory_is_listed}
use Rattle.mstore.specs.Room.{IsFaultless}
use Rattle.mstore.proofs.Texts.{node_is, meta_is}
use Rattle.mstore.proofs.Casts.{cast_null, cast_int}
use Rattle.mstore.proofs.Writes.{went, same_value}

abbrev version_source : Source
version_source = Values (lit Null ∷ lit (Text (codes "version")) ∷ lit (Int (pos 2)) ∷ []) 3

make_node : (command_of (understood no_schema (sql NodeTable)) ≡ CreateTable) × (statement_of (sql NodeTable) (understood no_schema (sql NodeTable)) ≡ (sql NodeTable)) × IsPlain (understood no_schema (sql NodeTable))
unfolding understood everything
make_node = (refl, refl, (refl, refl))

make_meta : (command_of (understood (created no_schema node) (sql MetaTable)) ≡ CreateTable) × (statement_of (sql MetaTable) (understood (created no_schema node) (sql MetaTable)) ≡ (sql MetaTable))
    × IsPlain (understood (created no_schema node) (sql MetaTable))
unfolding understood everything
make_meta = (refl, refl, (refl, refl))

version_is : (command_of (understood schema (sql Version)) ≡ Insert 1 version_source) × IsPlain (understood schema (sql Version))
unfolding understood everything
version_is = (refl, (refl, refl))

-- both tables are there, and no node
pub record HasTables (db : Database) : Type 0 where
  pub schema_is : db.schema ≡ schema
  pub empty : db.trees 0 ≡ []
  pub unnamed : db.trees 2 ≡ []

pub makes_node : (old new : State) (count : ℕ) → old.now.schema ≡ no_schema → Executes (sql NodeTable) [] old new (Ok count) → (new.now.schema ≡ created no_schema node) × (new.now.trees 0 ≡ [])
makes_node old new count has h =
    let w = subst (λ t. Writes old new None CreateTable t [] count) make_node.1 (runs_as (sql NodeTable) [] old new no_schema has CreateTable make_node.0 make_node.2 count h) in
    let all = went w.changed in
    let first = went all.1 in
    let made = first.1 in
    let both : Ok made.table ≡ Ok node = sym made.defined ∙ node_is in
    let same : made.table ≡ node = cc in
    let made_is : first.0.schema ≡ created no_schema node = made.is ∙ ap (λ s. created s made.table) has ∙ ap (created no_schema) same in
    let plain : lacks_sequence first.0.schema ≡ false = ap lacks_sequence made_is in
    let now : new.now ≡ first.0 = ap (λ (p : Tally × Database). p.1) (same_value all.2) ∙ same_value (rw plain at first.2) in
    (ap (λ (d : Database). d.schema) now ∙ made_is, ap (λ (d : Database). d.trees 0) now ∙ subst (λ s. first.0.trees (next_tree s) ≡ []) has made.empty)

pub makes_meta : (old new : State) (count : ℕ) → old.now.schema ≡ created no_schema node → old.now.trees 0 ≡ [] → Executes (sql MetaTable) [] old new (Ok count) → HasTables new.now
makes_meta old new count has none h =
    let w = subst (λ t. Writes old new None CreateTable t [] count) make_meta.1 (runs_as (sql MetaTable) [] old new (created no_schema node) has CreateTable make_meta.0 make_meta.2 count h) in
    let all = went (subst (λ s. Does old.step_limit (mode_of old) [] (record old.now { schema = s }) (sql MetaTable) None CreateTable (Ok (w.tally, new.now))) has w.changed) in
    let first = went all.1 in
    let made = first.1 in
    let both : Ok made.table ≡ Ok meta = sym made.defined ∙ meta_is in
    let same : made.table ≡ meta = cc in
    let made_is : first.0.schema ≡ schema = made.is ∙ ap (created (created no_schema node)) same in
    let plain : lacks_sequence first.0.schema ≡ false = ap lacks_sequence made_is in
    let now : new.now ≡ first.0 = ap (λ (p : Tally × Database). p.1) (same_value all.2) ∙ same_value (rw plain at first.2) in
    record { schema_is = ap (λ (d : Database). d.schema) now ∙ made_is; empty = ap (λ (d : Database). d.trees 0) now ∙ made.others.0 ∙ none; unnamed = ap (λ (d : Database). d.trees 2) now ∙ made.empty }

pub apart : ◌≡◌ {A = ℕ} 0 2 → ⊥
apart e = absurd (omega (arith, e))

abbrev version_row : List Row → Row
version_row rows = Int (next_rowid rows) ∷ version_name ∷ this_version ∷ []

abbrev pub meta_table : Table
meta_table = record meta { tree = 2 }

news_is : (db : Trees) (given : List Row) → given ≡ (Null ∷ version_name ∷ this_version ∷ []) ∷ [] → (edit_of db meta_table [] Chosen 0 given).news ≡ version_row (db 2) ∷ []
news_is db given is = ap (λ l. (edit_of db meta_table [] Chosen 0 l).news) is ∙ ap₂ (λ a b. numbered Chosen (db 2) ((a ∷ version_name ∷ b ∷ []) ∷ [])) cast_null (cast_int (pos 2))

-- with the version, which a row gives
pub record HasVersionRow (db : Database) : Type 0 where
  pub schema_is : db.schema ≡ schema
  pub empty : db.trees 0 ≡ []
  pub gives : GivesVersion db this_version
  pub one : IsOneVersion db

one_row : (rows news : List Row) (v x : Row) → rows ≡ [] → news ≡ v ∷ [] → Has (put_all rows news) x → x ≡ v
one_row rows news v x none is h = elim (put_all_has news rows x h) [
  | inl new ↦ elim (subst (λ l. Has l x) is new) [ inl same ↦ same | inr other ↦ absurd other ]
  | inr old ↦ absurd (let there : Has [] x = subst (λ l. Has l x) none old in there)
]

pub adds_version : (old new : State) (count : ℕ) → HasTables old.now → Executes (sql Version) [] old new (Ok count) → HasVersionRow new.now
adds_version old new count bare h =
    let db = old.now.trees in
    let w = runs_as (sql Version) [] old new schema bare.schema_is (Insert 1 version_source) version_is.0 version_is.1 count h in
    let text = statement_of (sql Version) (understood schema (sql Version)) in
    let done = went (subst (λ s. Does old.step_limit (mode_of old) [] (record old.now { schema = s }) text None (Insert 1 version_source) (Ok (w.tally, new.now))) bare.schema_is w.changed) in
    let now = ap (λ (p : Tally × Database). p.1) (same_value (went (went done.2).2).2) in
    let given = went done.1 in
    let written = went (went given.2).2 in
    let counted = went written.2 in
    let trees : done.0.trees ≡ written.0 = ap (λ (it : Written). it.trees) (same_value counted.2) ∙ same_value counted.1 in
    let edit = edit_of db meta_table [] Chosen 0 given.0 in
    let step = one_step schema Enforced db written.0 edit refl written.1 in
    let kept : written.0 0 ≡ db 0 = step.tables.0 apart in
    let news : edit.news ≡ version_row (db 2) ∷ [] = news_is db given.0 given.1.1 in
    let added = put_all_adds edit.news (db 2) (version_row (db 2)) step.fresh (subst (λ l. Has l (version_row (db 2))) (sym news) (inl refl)) in
    let rows : new.now.trees 2 ≡ put_all (db 2) edit.news = ap (λ (d : Database). d.trees 2) now ∙ ap (λ (t : Trees). t 2) trees ∙ step.rows in
    let only : (x : Row) → Has (new.now.trees 2) x → x ≡ version_row (db 2) = λ x h. one_row (db 2) edit.news (version_row (db 2)) x bare.unnamed news (subst (λ l. Has l x) rows h) in
    record {
      schema_is = ap (λ (d : Database). d.schema) now;
      empty = ap (λ (d : Database). d.trees 0) now ∙ ap (λ (t : Trees). t 0) trees ∙ kept ∙ bare.empty;
      gives = (version_row (db 2), subst (λ l. Has l (version_row (db 2))) (sym rows) added, refl, refl);
      one = λ r s a b first second. only r a ∙ sym (only s b);
    }

pub blank_from : (s : State) → Opens s → s.now.schema ≡ no_schema → IsBlank s
blank_from s opens none = record { idle = record { autocommit = opens.autocommit; settled = opens.clean }; schema_is = none }

pub memory_is : IsMemory over_memory
memory_is = record { clean = λ s. no_doubt true refl; is_open = λ s. refl }

pub memory_is_faultless : IsFaultless over_memory
memory_is_faultless = record { memory = memory_is; faultless = λ s. refl; ordered = memory_is_ordered; listed = memory_is_listed }

pub bare_is_empty : (s : State) → IsBare s.now → globals_by key_of value_of (s.now.trees 0) ≡ empty
bare_is_empty s bare = ap (globals_by key_of value_of) bare.empty
