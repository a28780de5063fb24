-- SPDX-License-Identifier: Apache-2.0
-- What rows hold are nodes of a store, with texts that they may have.
use Rattle.mstore.proofs.Words.{◌≡◌, List, [], ◌∷◌, length, All, refl, sym, ◌∙◌, subst, inl, inr, arith, entries, empty, entries-insert, len-entries, len-empty}
use Rattle.mstore.proofs.Words.{node_of, Node, node_cmp, significant_digits, IsStored, node_cmp_total, Row, Has, Ghosts, Held, state, stored, IsHeld, AreHeld}
use Rattle.mstore.proofs.Words.{globals_by, IsInForm, key_of, value_of, Text, IsStore}
use Rattle.mnodes.proofs.Holding.{put_held}
use Rattle.mstore.proofs.KeyedRows.{node_at}

-- ---- the rows of a table

of_none : (es : List (Node × Text)) → length es ≡ 0 → All IsHeld es
of_none es h = grind arith

pub rows_held : (rows : List Row) → ((r : Row) → Has rows r → IsInForm (key_of r) (value_of r)) → AreHeld (globals_by key_of value_of rows)
rows_held [] in_form = of_none (entries empty) (sym (len-entries empty) ∙ len-empty (node_cmp significant_digits) Text)
rows_held (r ∷ rows) in_form =
    let form = in_form r (inl refl) in
    let node : IsStored (node_of (key_of r)) = subst IsStored (sym (node_at (key_of r) form.0)) form.0.1.0 in
    subst (All IsHeld) (sym (entries-insert (node_cmp_total significant_digits) (globals_by key_of value_of rows) (node_of (key_of r)) (value_of r)))
    (put_held (node_of (key_of r)) (value_of r) (record { node = node; text = form.1.0 }) (entries (globals_by key_of value_of rows)) (rows_held rows (λ s has. in_form s (inr has))))

pub table_held : {S : Type 0} (g : Ghosts S) (h : Held S) → IsStore (state g h) → AreHeld (stored g h)
table_held g h store = rows_held ((state g h).now.trees 0) store.nodes.in_form
