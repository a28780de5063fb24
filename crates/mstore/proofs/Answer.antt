-- SPDX-License-Identifier: Apache-2.0
-- What a query of one table answers: the rows that pass its tests.
use Rattle.mstore.proofs.Words.{arith, ◌≡◌, ℕ, Bool, true, cond, List, [], ◌∷◌, map, flat_map, refl, sym, ap, subst, ◌∙◌, inl, inr, IsPermutation, list_all}
use Rattle.mstore.proofs.Words.{IsPermutation-sym, Contains-permutation, Null, Row, Key, Query, IsAnswer, output, Output, overlay, Has, has_either, has_left}
use Rattle.mstore.proofs.Words.{has_right, has_contained, contains_had}
use Rattle.sqlite_trees.specs.Tree.{Trees}
use Rattle.sqlite_sql.specs.Term.{Term, Env, eval_all, holds}
use Rattle.sqlite_sql.specs.Query.{matches_as}
use Rattle.mstore.proofs.Texts.{table_query}

pub has_mapped : {X Y : Type 0} (f : X → Y) (xs : List X) (y : Y) → Has (map f xs) y → (x : X) × Has xs x × (y ≡ f x)
has_mapped f [] y h = absurd h
has_mapped f (x ∷ xs) y (inl same) = (x, inl refl, same)
has_mapped f (x ∷ xs) y (inr later) = let found = has_mapped f xs y later in (found.0, inr found.1, found.2)

pub mapped_has : {X Y : Type 0} (f : X → Y) (xs : List X) (x : X) → Has xs x → Has (map f xs) (f x)
mapped_has f [] x h = absurd h
mapped_has f (y ∷ xs) x (inl same) = inl (ap f same)
mapped_has f (y ∷ xs) x (inr later) = inr (mapped_has f xs x later)

pub has_shuffled : {X : Type 0} (xs ys : List X) (x : X) → IsPermutation xs ys → Has xs x → Has ys x
has_shuffled xs ys x same h = has_contained ys x (Contains-permutation xs ys x same (contains_had xs x h))

module _ (tests : List Term) (params : Row) where
  abbrev pub passes : Row → Bool
  passes r = list_all (holds (params ∷ r ∷ [])) tests

  abbrev pub one : Row → List Env
  one r = cond (passes r) ((params ∷ r ∷ []) ∷ []) []

  one_has : (r : Row) (x : Env) → Has (one r) x → (passes r ≡ true) × (x ≡ params ∷ r ∷ [])
  one_has r x h = grind arith

  has_one : (r : Row) → passes r ≡ true → Has (one r) (params ∷ r ∷ [])
  has_one r e = subst (λ b. Has (cond b ((params ∷ r ∷ []) ∷ []) []) (params ∷ r ∷ [])) (sym e) (inl refl)

  match_has : (rows : List Row) (x : Env) → Has (flat_map one rows) x → (r : Row) × Has rows r × (passes r ≡ true) × (x ≡ params ∷ r ∷ [])
  match_has [] x h = absurd h
  match_has (r ∷ rows) x h = elim (has_either (one r) (flat_map one rows) x h) [
    | inl here ↦ let it = one_has r x here in (r, inl refl, it.0, it.1)
    | inr later ↦ let it = match_has rows x later in (it.0, inr it.1, it.2, it.3)
  ]

  has_match : (rows : List Row) (r : Row) → Has rows r → passes r ≡ true → Has (flat_map one rows) (params ∷ r ∷ [])
  has_match [] r h pass = absurd h
  has_match (s ∷ rows) r (inl same) pass = has_left (one s) _ _ (subst (λ t. Has (one t) (params ∷ r ∷ [])) same (has_one r pass))
  has_match (s ∷ rows) r (inr later) pass = has_right (one s) _ _ (has_match rows r later pass)

  module _ (project : List Term) (order : List (Term × Key)) (db : Trees) (tree : ℕ) (plain : overlay db [] tree ≡ db tree) where
    abbrev pub query : Query
    query = table_query tree tests project order

    abbrev pub shown : Row → Row
    shown r = eval_all project (params ∷ r ∷ [])

    found : matches_as Null (overlay db []) query.filter query.from (params ∷ []) ≡ flat_map one (db tree)
    found = ap (flat_map one) plain

    -- each output is that of a row which passes
    pub outputs_from : (rows : List Row) (a : IsAnswer query (overlay db []) params rows) (o : Output) → Has a.ordered o
        → (r : Row) × Has (db tree) r × (passes r ≡ true) × (o ≡ output query (params ∷ r ∷ []))
    outputs_from rows a o h =
        let kept : Has a.kept o = has_shuffled a.ordered a.kept o (IsPermutation-sym a.kept a.ordered a.same) h in
        let made = has_mapped (output query) (flat_map one (db tree)) o (subst (λ l. Has l o) (a.distinct ∙ ap (map (output query)) (a.grouped ∙ found)) kept) in
        let it = match_has (db tree) made.0 made.1 in
        (it.0, it.1, it.2, made.2 ∙ ap (output query) it.3)

    pub outputs_to : (rows : List Row) (a : IsAnswer query (overlay db []) params rows) (r : Row) → Has (db tree) r → passes r ≡ true → Has a.ordered (output query (params ∷ r ∷ []))
    outputs_to rows a r h pass =
        let matched = mapped_has (output query) (flat_map one (db tree)) (params ∷ r ∷ []) (has_match (db tree) r h pass) in
        has_shuffled a.kept a.ordered _ a.same (subst (λ l. Has l (output query (params ∷ r ∷ []))) (sym (a.distinct ∙ ap (map (output query)) (a.grouped ∙ found))) matched)

    pub rows_from : (rows : List Row) → IsAnswer query (overlay db []) params rows → (x : Row) → Has rows x → (r : Row) × Has (db tree) r × (passes r ≡ true) × (x ≡ shown r)
    rows_from rows a x h =
        let out = has_mapped (λ (o : Output). o.1) a.ordered x (subst (λ l. Has l x) a.shown h) in
        let it = outputs_from rows a out.0 out.1 in
        (it.0, it.1, it.2, out.2 ∙ ap (λ (o : Output). o.1) it.3)

    pub rows_to : (rows : List Row) → IsAnswer query (overlay db []) params rows → (r : Row) → Has (db tree) r → passes r ≡ true → Has rows (shown r)
    rows_to rows a r h pass = subst (λ l. Has l (shown r)) (sym a.shown) (mapped_has (λ (o : Output). o.1) a.ordered _ (outputs_to rows a r h pass))
