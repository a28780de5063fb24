-- SPDX-License-Identifier: Apache-2.0
-- Copies of routines, after writes to the store.
use Rattle.mglobal.proofs.GlobalWords.{arith, ◌≡◌, Bool, true, false, ◌||◌, List, All, slice_index_or, Result, OnOk, OnErr, sym, subst, ◌∙◌, insert, Globals}
use Rattle.mglobal.proofs.GlobalWords.{is_node_within, without_subtree, Text, Node, AreCopiesIn, IsApart, routine_at}
use Rattle.mglobal.specs.declared.copies.RoutineCopy.{RoutineCopy}
use Rattle.mglobal.proofs.LinesKept.{lines_put, lines_killed}

apart_of : (k : Node) (copy : RoutineCopy) → copy.key ≡ routine_at copy.account copy.name → IsApart k copy → (is_node_within k (routine_at copy.account copy.name) || is_node_within (routine_at copy.account copy.name) k) ≡ false
apart_of k copy key apart = subst (λ n. (is_node_within k n || is_node_within n k) ≡ false) key apart

pub copies_put : (g : Globals) (k : Node) (text : Text) (copies : List RoutineCopy) → All (IsApart k) copies → AreCopiesIn g copies → AreCopiesIn (insert g k text) copies
copies_put g k text copies apart are i d inside =
    let copy = slice_index_or copies i d in
    let c = are i d inside in
    record { key = c.key; lines = c.lines ∙ sym (lines_put copy.account copy.name k (apart_of k copy c.key (apart i d inside)) g text) }

pub copies_killed : (g : Globals) (k : Node) (copies : List RoutineCopy) → All (IsApart k) copies → AreCopiesIn g copies → AreCopiesIn (without_subtree g k) copies
copies_killed g k copies apart are i d inside =
    let copy = slice_index_or copies i d in
    let c = are i d inside in
    record { key = c.key; lines = c.lines ∙ sym (lines_killed copy.account copy.name k (apart_of k copy c.key (apart i d inside)) g) }

-- if a store that was written to has what it was to have, or failed and has what it had
pub copies_after : {A E : Type 0} (r : Result A E) (old written new : Globals) (copies : List RoutineCopy) → OnOk r (new ≡ written) → OnErr r (new ≡ old) → AreCopiesIn old copies → AreCopiesIn written copies → AreCopiesIn new copies
copies_after r old written new copies h e f k = grind arith

-- ---- whether a key begins with another

-- one of two tests, asked one after the other
pub either_first : (r a b : Bool) → r ≡ a → r ≡ true → r ≡ (a || b)
either_first r a b h e = grind arith

pub either_second : (r s a b : Bool) → r ≡ a → r ≡ false → s ≡ b → s ≡ (a || b)
either_second r s a b h e f = grind arith
