-- SPDX-License-Identifier: Apache-2.0
-- No two rows give a version, where each that does shows the same.
use Rattle.mstore.proofs.Words.{◌≡◌, ℕ, ℤ, true, List, [], ◌∷◌, arith, drop, None, sym, ◌∙◌, inl, inr, refl, subst, IsTrue, and_parts, Int, Row, column, Ghosts}
use Rattle.mstore.proofs.Words.{Has, IsDatabase, Held, state, schema, IsLive, OnlyGives, GivesVersion, HasVersion, IsOneVersion, version_name}
use Rattle.sqlite.specs.declared.types.Value.TheVariants.{Text}
use Rattle.sqlite_schema.specs.declared.schema.Constraint.TheVariants.{Datatype}
use Rattle.sqlite_schema.specs.Rules.{are_typed}
use Rattle.sqlite_rules.proofs.RuleLemmas.{keeps_at}
use Rattle.sqlite_catalog.specs.Listing.{IsSound}
use Rattle.mstore.proofs.Makes.{meta_table}

meta_shape : (r : Row) (t : List ℕ) (n : ℤ) → are_typed None 0 meta_table.columns (drop 1 r) ≡ true → column r 1 ≡ Text t → column r 2 ≡ Int n → r ≡ column r 0 ∷ Text t ∷ Int n ∷ []
meta_shape r t n h e f = grind arith

module _ {S : Type 0} (g : Ghosts S) (h : Held S) (n : ℤ) (db : IsDatabase (state g h).now) (has : h.schema ≡ schema) (only : OnlyGives (state g h).now (Int n)) where
  sound : IsSound schema (g.view h.store).trees
  sound = subst (λ s. IsSound s (g.view h.store).trees) has db

  -- the one row that gives it
  the_row : (r : Row) → Has ((g.view h.store).trees 2) r → column r 1 ≡ version_name → r ≡ Int only.0 ∷ version_name ∷ Int n ∷ []
  the_row r here named =
      let typed = keeps_at Datatype schema (g.view h.store).trees meta_table r (sound.obeys.rules Datatype) (inr (inl refl)) here in
      let it = only.1 r here named in
      meta_shape r _ n (and_parts _ _ typed).0 named it.1 ∙ (λ i. it.0 i ∷ version_name ∷ Int n ∷ [])

  pub one_version : IsOneVersion (state g h).now
  one_version r s a b first second = the_row r a first ∙ sym (the_row s b second)

-- of a database that was read
pub live_version : {S : Type 0} (g : Ghosts S) (h : Held S) (n : ℤ) → IsTrue (state g h).is_open → IsLive (state g h) → h.schema ≡ schema → OnlyGives (state g h).now (Int n) → GivesVersion (state g h).now (Int n) → HasVersion (state g h).now (Int n)
live_version g h n is_open live has only gives = (gives, one_version g h n (live is_open).0 has only)
