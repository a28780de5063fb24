-- SPDX-License-Identifier: Apache-2.0
-- What the statements do, of the globals that the rows are.
use Rattle.mstore.proofs.Words.{arith, ◌≡◌, ℕ, Bool, List, [], ◌∷◌, Some, None, Result, Ok, Err, OnOk, sym, ap, subst, ◌∙◌, get, Value, Blob, Row, column}
use Rattle.mstore.proofs.Words.{Ghosts, all_from, Held, state, Node, significant_digits, key_bytes, subtree_end, IsStored, without_subtree, IsKey, none_empty}
use Rattle.mstore.proofs.Words.{AreKeyed, PutsAt, RemovesWithin, IsNearest, ShowsValue, ShowsKey, key_of, value_of, stored, step_key, insert, IsStore, holds}
use Rattle.mstore.proofs.Maps.{lookup_some}
use Rattle.mstore.proofs.Words.{Content, IfOk, IsValue, Option, ShowsBytes, false, is_ok, lookup, true}
use Rattle.mnodes.specs.declared.store.StoreFault.{StoreFault}
use Rattle.mstore.specs.Putting.{PutsIf}
use Rattle.mstore.specs.Stretch.{AgreeBut, AgreeOutside}
use Rattle.mstore.proofs.KeyedRows as keyed_rows
use Rattle.mstore.proofs.KeyedOrder as keyed_order

abbrev rows : {S : Type 0} → Ghosts S → Held S → List Row
rows g h = (state g h).now.trees 0

are_keyed : {S : Type 0} (g : Ghosts S) (h : Held S) → IsStore (state g h) → AreKeyed key_of (rows g h)
are_keyed g h store = all_from (λ r. IsKey (key_of r)) (rows g h) (λ r has. (store.nodes.in_form r has).0)

same_bytes : (a b : List ℕ) → ◌≡◌ {A = Value} (Blob a) (Blob b) → a ≡ b
same_bytes a b e = cc

-- the row shows its first column
shown_bytes : (row : Row) (a b : List ℕ) → row ≡ Blob a ∷ [] → column row 0 ≡ Blob b → a ≡ b
shown_bytes row a b is shows = same_bytes a b (sym (ap (λ (r : Row). column r 0) is) ∙ shows)

-- a text that a row shows
pub value_told : (found : Option (List ℕ)) (row : Row) (text : List ℕ) → ShowsValue found (Some row) → column row 0 ≡ Blob text → Some text ≡ found
value_told found row text shows column_is = ap Some (sym (shown_bytes row shows.0 text shows.1 column_is)) ∙ sym shows.2

module _ {S : Type 0} (g : Ghosts S) (h : Held S) (store : IsStore (state g h)) where
  -- is one that a node may hold
  pub value_in_form : (k : List ℕ) (row : Row) → ShowsValue (holds g h k) (Some row) → (v : List ℕ) × (row ≡ Blob v ∷ []) × IsValue v
  value_in_form k row shows =
      let it = lookup_some _ k shows.0 shows.2 in
      (shows.0, shows.1, subst IsValue it.3 (store.nodes.in_form it.0 it.1).1)

  -- and so are those that the rows hold
  pub values_in_form : (k v : List ℕ) → holds g h k ≡ Some v → IsValue v
  values_in_form k v is = let it = lookup_some _ k v is in subst IsValue it.3 (store.nodes.in_form it.0 it.1).1

  abbrev here : List Row
  here = rows g h

  abbrev keyed : AreKeyed key_of here
  keyed = are_keyed g h store

  got : (n : Node) → IsStored n → get (stored g h) n ≡ holds g h (key_bytes significant_digits n)
  got n is = keyed_rows.gets key_of value_of here keyed n (none_empty n is)

  pub gets_none : (n : Node) → IsStored n → ShowsValue (holds g h (key_bytes significant_digits n)) None → None ≡ get (stored g h) n
  gets_none n is none = sym (got n is ∙ none)

  pub gets_text : (n : Node) (row : Row) (text : List ℕ) → IsStored n → ShowsValue (holds g h (key_bytes significant_digits n)) (Some row)
      → column row 0 ≡ Blob text → Some text ≡ get (stored g h) n
  gets_text n row text is shows column_is = ap Some (sym (shown_bytes row shows.0 text shows.1 column_is)) ∙ sym (got n is ∙ shows.2)

  pub text_told : (n : Node) → IsStored n → (r : Result (Option (List ℕ)) StoreFault) → IfOk r (λ text. text ≡ holds g h (key_bytes significant_digits n))
      → IfOk r (λ text. text ≡ get (stored g h) n)
  text_told n is (Ok text) e = e ∙ sym (got n is)
  text_told n is (Err fault) e = tt

  -- what the rows tell, told of the globals that they are
  pub step_told : (down : Bool) (low high : List ℕ) (q : Option (List ℕ)) → ShowsBytes down (holds g h) low high q → q ≡ step_key down (stored g h) low high
  step_told down low high q shows = keyed_order.steps key_of value_of here keyed down low high q shows

  pub step_none : (down : Bool) (low high : List ℕ) → ShowsKey down (holds g h) low high None → None ≡ step_key down (stored g h) low high
  step_none down low high none = keyed_order.steps key_of value_of here keyed down low high None none

  pub step_some : (down : Bool) (low high : List ℕ) (row : Row) (k : List ℕ) → ShowsKey down (holds g h) low high (Some row) → column row 0 ≡ Blob k
      → Some k ≡ step_key down (stored g h) low high
  step_some down low high row k shows column_is =
      keyed_order.steps key_of value_of here keyed down low high (Some k) (subst (IsNearest down (holds g h) low high) (shown_bytes row shows.0 k shows.1 column_is) shows.2)

module _ {S : Type 0} (g : Ghosts S) (old new : Held S) (was : IsStore (state g old)) (is : IsStore (state g new)) where
  pub put_is : (n : Node) (text : List ℕ) → IsStored n → PutsAt (holds g old) (holds g new) (key_bytes significant_digits n) text
      → stored g new ≡ insert (stored g old) n text
  put_is n text stored_n put =
      keyed_rows.puts key_of value_of (rows g old) (rows g new) (are_keyed g old was) (are_keyed g new is) n text (none_empty n stored_n) put

  pub kill_is : (n : Node) → IsStored n
      → RemovesWithin (holds g old) (holds g new) (key_bytes significant_digits n) (subtree_end (key_bytes significant_digits n))
      → stored g new ≡ without_subtree (stored g old) n
  kill_is n stored_n gone = keyed_rows.kills key_of value_of (rows g old) (rows g new) (are_keyed g old was) (are_keyed g new is) n (none_empty n stored_n) gone

pub on_ok : {A E P Q : Type 0} (r : Result A E) → (P → Q) → OnOk r P → OnOk r Q
on_ok r h e = grind arith

pub both_ok : {A E : Type 0} (P Q : Type 0) (r : Result A E) → OnOk r P → OnOk r Q → OnOk r (P × Q)
both_ok P Q (Ok a) p q = (p, q)
both_ok P Q (Err e) p q = p

-- ---- what a put and a kill leave as it was

pub put_but : {S : Type 0} (g : Ghosts S) (old new : Held S) (k v : List ℕ) (puts : Bool) → PutsIf g old new k v puts → AgreeBut (holds g old) (holds g new) k
put_but g old new k v true put = put.others
put_but g old new k v false same = λ q other. ap (λ rows. lookup rows q) same

pub kill_agrees : {U F A : Type 0} (m next : Content) (low high : List ℕ) (r : Result U F) (done : Bool) → done ≡ is_ok r
    → OnOk r (RemovesWithin m next low high) → (AgreeOutside m next low high → A) → (done ≡ false → A) → A
kill_agrees m next low high (Ok u) done is gone kept failed = kept gone.others
kill_agrees m next low high (Err e) done is gone kept failed = failed is
