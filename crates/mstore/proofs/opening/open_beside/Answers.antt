-- SPDX-License-Identifier: Apache-2.0
use Rattle.mstore.proofs.Words.{◌≡◌, true, false, refl, sym, subst, ◌∙◌, inl, inr, codes, true≢false, schema}
use Rattle.sqlite.specs.Schema.{Schema}
use Rattle.sqlite_schema.specs.Names.{same_name}
use Rattle.mstore.specs.Beside.{has_table, HasNeither}
use Rattle.mstore.proofs.opening.open_beside.Goals as goal

-- ours has a table of nodes
not_neither : (s : Schema) → s ≡ schema → HasNeither s → ⊥
unfolding same_name
not_neither s is none =
    let there : has_table schema (codes "node") ≡ true = refl in
    true≢false (sym there ∙ subst (λ t. has_table t (codes "node") ≡ false) is none.0)

pub returns-then-has_neither-clause-alone : goal.returns-then-has_neither-clause-alone
returns-then-has_neither-clause-alone g c (inl none) = c.is_blank-alone.ensures.1 (c.schema-schema.ensures.value ∙ none)
returns-then-has_neither-clause-alone g c (inr ours) = absurd (not_neither _ (c.schema-schema.ensures.value ∙ ours) (c.has_neither.ensures.0 c.if-has_neither.true))
