-- SPDX-License-Identifier: Apache-2.0
-- The statements are accepted: each is one, takes the parameters that it is given, and is well typed.
use Rattle.mstore.proofs.Words.{◌≡◌, ℕ, Bool, true, false, List, [], ◌∷◌, refl, inl, inr, Blob, Row, Query, Key, everything, understood, schema, Add, Ahead, Get}
use Rattle.mstore.proofs.Words.{Int, Kill, Replace, Step, pos, sql, Term, Trees}
use Rattle.sqlite_schema.specs.Program.{lets_of}
use Rattle.sqlite_sql.specs.Program.{ProgramOverflows}
use Rattle.sqlite_typing.specs.Types.{accepts_program, accepts_terms}
use Rattle.sqlite_rules.proofs.ListLemmas.{any_has}
use Rattle.mstore.proofs.Texts.{ahead_query, program, table_query, replace_query, kill_query, step_query, at_key}
use Rattle.mstore.proofs.Causes.{Takes, IsChange}
use Rattle.sqlite.specs.Term.{col, lit}
use Rattle.sqlite.specs.declared.types.Value.TheVariants.{Null}

pub get_takes : (k : List ℕ) → Takes (sql Get) (Blob k ∷ []) (understood schema (sql Get))
unfolding understood everything
get_takes k = (refl, refl, refl)

pub add_takes : (k v : List ℕ) → Takes (sql Add) (Blob k ∷ Blob v ∷ []) (understood schema (sql Add))
unfolding understood everything
add_takes k v = (refl, refl, refl)

pub replace_takes : (k v : List ℕ) → Takes (sql Replace) (Blob k ∷ Blob v ∷ []) (understood schema (sql Replace))
unfolding understood everything
replace_takes k v = (refl, refl, refl)

pub kill_takes : (low high : List ℕ) → Takes (sql Kill) (Blob low ∷ Blob high ∷ []) (understood schema (sql Kill))
unfolding understood everything
kill_takes low high = (refl, refl, refl)

pub step_takes : (down : Bool) (low high : List ℕ) → Takes (sql (Step down)) (Blob low ∷ Blob high ∷ []) (understood schema (sql (Step down)))
unfolding understood everything
step_takes true low high = (refl, refl, refl)
step_takes false low high = (refl, refl, refl)

pub ahead_takes : (low high : List ℕ) (most : ℕ) → Takes (sql Ahead) (Blob low ∷ Blob high ∷ Int (pos most) ∷ []) (understood schema (sql Ahead))
unfolding understood everything
ahead_takes low high most = (refl, refl, refl)

pub add_changes : IsChange (understood schema (sql Add))
unfolding understood everything
add_changes = refl

pub replace_changes : IsChange (understood schema (sql Replace))
unfolding understood everything
replace_changes = refl

pub kill_changes : IsChange (understood schema (sql Kill))
unfolding understood everything
kill_changes = refl

abbrev pub get_query : Query
get_query = table_query 0 at_key (col 1 2 ∷ []) []

abbrev pub IsTyped : Query → Row → Type 0
IsTyped q params = accepts_program schema (lets_of (program q)) q params ≡ true

pub get_typed : (k : List ℕ) → IsTyped get_query (Blob k ∷ [])
get_typed k = refl

pub kill_typed : (low high : List ℕ) → IsTyped kill_query (Blob low ∷ Blob high ∷ [])
kill_typed low high = refl

pub step_typed : (down : Bool) (low high : List ℕ) → IsTyped (step_query down) (Blob low ∷ Blob high ∷ [])
step_typed true low high = refl
step_typed false low high = refl

pub ahead_typed : (low high : List ℕ) (most : ℕ) → IsTyped ahead_query (Blob low ∷ Blob high ∷ Int (pos most) ∷ [])
ahead_typed low high most = refl

pub replace_typed : (k v : List ℕ) → IsTyped replace_query (Blob k ∷ Blob v ∷ [])
replace_typed k v = refl

pub put_terms : (k v : List ℕ) → accepts_terms (lit Null ∷ col 0 0 ∷ col 0 1 ∷ []) (Blob k ∷ Blob v ∷ []) ≡ true
put_terms k v = refl

-- a query of one table has no sum
pub no_overflow : (tree : ℕ) (tests project : List Term) (order : List (Term × Key)) (db : Trees) (params : Row)
    → ProgramOverflows db params [] (lets_of (program (table_query tree tests project order))) (table_query tree tests project order) → ⊥
no_overflow tree tests project order db params (inl h) = h
no_overflow tree tests project order db params (inr h) = (any_has _ _ h).2

pub ahead_fits : (db : Trees) (params : Row) → ProgramOverflows db params [] (lets_of (program ahead_query)) ahead_query → ⊥
ahead_fits db params (inl h) = h
ahead_fits db params (inr h) = (any_has _ _ h).2
