-- SPDX-License-Identifier: Apache-2.0
-- The rows of a database whose columns are blobs are a map.
use Rattle.mstore.proofs.Words.{◌≡◌, ℕ, ℤ, true, false, not, ◌&&◌, List, [], ◌∷◌, drop, Option, Some, None, int_lt, refl, sym, ap, ap₂, subst, ◌∙◌, inl, inr}
use Rattle.mstore.proofs.Words.{arith, int_eq, IsTrue, and_parts, not-true, false_from_ne_true, ints, Int, Blob, Null, Row, column, Binary, Key}
use Rattle.mstore.proofs.Words.{first_key-plain, is_true, Compare, Eq, Ne, Ghosts, rowid, Has, id_in, some_from, at_ints, at_blobs, last_term, bytes_eq_refl}
use Rattle.mstore.proofs.Words.{Database, IsDatabase, Held, state, col, State, IsLive, IsPlain, reads_as, bytes, plain, binary, node, schema, IsCalm}
use Rattle.mstore.proofs.Words.{AreNumbered, RiseFrom, Value, IsStore, Stays, ShowsAll, ShowsNodes, AreNodes, AreRows, IsNode, ShowsNodeBy, HasOtherBy, key_of}
use Rattle.mstore.proofs.Words.{value_of, shown_of, Shown, understood, Each, sql, is_eq, true≢false, HasVersion, this_version}
use Rattle.sqlite_schema.specs.declared.schema.Constraint.TheVariants.{Datatype, Unique}
use Rattle.sqlite_schema.specs.Rules.{are_typed, clashes, agree, differ}
use Rattle.sqlite_trees.specs.View.{is_int}
use Rattle.sqlite_rules.proofs.RuleLemmas.{keeps_at}
use Rattle.sqlite_catalog.specs.Listing.{IsSound}
use Rattle.mstore.proofs.Texts.{all_is, all_command}
use Rattle.mstore.proofs.Answer.{rows_from, rows_to}
use Rattle.mstore.proofs.States.{shown_stays, stays_calm}
use Rattle.mstore.proofs.RowTests.{key_column}

node_shape : (r : Row) (k v : List ℕ) → is_int (rowid r) ≡ true → are_typed None 0 node.columns (drop 1 r) ≡ true → column r 1 ≡ Blob k → column r 2 ≡ Blob v → IsNode r
node_shape r k v h e f u = grind arith

pub int_same : (m n : ℤ) → not (int_eq m n) ≡ false → m ≡ n
int_same m n h = grind (arith, ints)

module _ {S : Type 0} (g : Ghosts S) (h : Held S) (db : IsDatabase (state g h).now) (has : h.schema ≡ schema) (numbered : AreNumbered ((g.view h.store).trees 0)) where
  abbrev rows : List Row
  rows = (g.view h.store).trees 0

  sound : IsSound schema (g.view h.store).trees
  sound = subst (λ s. IsSound s (g.view h.store).trees) has db

  module _ {F : List ℕ → List ℕ → Type 0} (blobs : (r : Row) → Has rows r → (k : List ℕ) × (v : List ℕ) × (column r 1 ≡ Blob k) × (column r 2 ≡ Blob v) × F k v) where
    node_each : (r : Row) → Has rows r → IsNode r
    node_each r here =
        let it = blobs r here in
        let typed = keeps_at Datatype schema (g.view h.store).trees node r (sound.obeys.rules Datatype) (inl refl) here in
        node_shape r it.0 it.1 (ap is_int (numbered.each r here).1) (and_parts _ _ typed).0 it.2 it.3

    node_in_form : (r : Row) → Has rows r → F (key_of r) (value_of r)
    node_in_form r here =
        let it = blobs r here in
        subst (λ a. F (bytes a) (value_of r)) (sym it.2) (subst (λ b. F it.0 (bytes b)) (sym it.3) it.4)

    node_ids : (r s : Row) → Has rows r → Has rows s → rowid r ≡ rowid s → r ≡ s
    node_ids r s a b same =
        let shown = numbered.single r s a b same in
        let first = ap (λ (x : Row). id_in (column x 0)) shown in
        let key = ap (λ (x : Row). bytes (column x 1)) shown in
        let value = ap (λ (x : Row). bytes (column x 2)) shown in
        node_each r a ∙ (λ i. Int (first i) ∷ Blob (key i) ∷ Blob (value i) ∷ []) ∙ sym (node_each s b)

    agrees : (r s : Row) → Has rows r → Has rows s → key_of r ≡ key_of s → agree plain (1 ∷ []) s (1 ∷ []) r ≡ true
    agrees r s a b same =
        ap (λ (f : Key). is_true (binary (Compare Eq f.collation) (column s 1) (column r 1)) && true) first_key-plain
        ∙ last_term (ap₂ (λ x y. is_true (binary (Compare Eq Binary) x y)) (key_column s (node_each s b)) (key_column r (node_each r a)) ∙ at_blobs false Eq (key_of s) (key_of r)
        ∙ subst (λ k. is_eq (Rattle.std.specs.Cmp.Lexicographic.slice_cmp Rattle.std.proofs.Common.nat_cmp (key_of s) k) ≡ true) (sym same) (bytes_eq_refl (key_of s)))

    node_keys : (r s : Row) → Has rows r → Has rows s → key_of r ≡ key_of s → r ≡ s
    node_keys r s a b same =
        let unique = keeps_at Unique schema (g.view h.store).trees node r (sound.obeys.rules Unique) (inl refl) a in
        let alone : clashes plain (1 ∷ []) rows r ≡ false = not-true _ (and_parts _ _ unique).0 in
        let ids : differ (rowid s) (rowid r) ≡ false = false_from_ne_true (differ (rowid s) (rowid r)) (λ other.
        true≢false (sym (some_from _ rows s b (Rattle.std.proofs.lemmas.Bool.and_from _ _ (agrees r s a b same) other)) ∙ alone)) in
        let number = λ (t : Row) (here : Has rows t). ap (λ u. rowid u) (node_each t here) in
        let one = int_same (id_in (rowid s)) (id_in (rowid r)) (sym (ap₂ (λ x y. is_true (binary (Compare Ne Binary) x y)) (number s b) (number r a) ∙ at_ints false Ne (id_in (rowid s)) (id_in (rowid r))) ∙ ids) in
        node_ids r s a b (number r a ∙ ap Int (sym one) ∙ sym (number s b))

    pub nodes_from : AreRows F rows
    nodes_from = record { each = node_each; in_form = node_in_form; ids = node_ids; keys = node_keys }

-- ---- rows whose rowids rise

shown_int : (last : Option ℤ) (shown : List Row) → RiseFrom last shown → (r : Row) → Has shown r → (n : ℤ) × (column r 0 ≡ Int n)
shown_int last [] rise r h = absurd h
shown_int last (x ∷ shown) rise r (inl same) = (rise.0, ap (λ (y : Row). column y 0) same ∙ rise.1)
shown_int last (x ∷ shown) rise r (inr later) = shown_int (Some rise.0) shown rise.3 r later

lower : (a b c : ℤ) → int_lt a b ≡ true → int_lt b c ≡ true → int_lt a c ≡ true
lower a b c h e = grind (arith, ints)

not_itself : (a : ℤ) → int_lt a a ≡ true → ⊥
not_itself a h = grind (arith, ints)

above : (m : ℤ) (shown : List Row) → RiseFrom (Some m) shown → (r : Row) → Has shown r → (n : ℤ) × (column r 0 ≡ Int n) × (int_lt m n ≡ true)
above m [] rise r h = absurd h
above m (x ∷ shown) rise r (inl same) = (rise.0, ap (λ (y : Row). column y 0) same ∙ rise.1, rise.2)
above m (x ∷ shown) rise r (inr later) = let it = above rise.0 shown rise.3 r later in (it.0, it.1, lower m rise.0 it.0 rise.2 it.2)

same_int : (m n : ℤ) → ◌≡◌ {A = Value} (Int m) (Int n) → m ≡ n
same_int m n e = cc

-- a row and a later one have two rowids
never_again : (x : Row) (m : ℤ) (shown : List Row) → column x 0 ≡ Int m → RiseFrom (Some m) shown → (r s : Row) → r ≡ x → Has shown s → column r 0 ≡ column s 0 → ⊥
never_again x m shown is rise r s first later same =
    let it = above m shown rise s later in
    let one : m ≡ it.0 = same_int m it.0 (sym is ∙ ap (λ (y : Row). column y 0) (sym first) ∙ same ∙ it.1) in
    not_itself m (subst (λ n. int_lt m n ≡ true) (sym one) it.2)

one_shown : (last : Option ℤ) (shown : List Row) → RiseFrom last shown → (r s : Row) → Has shown r → Has shown s → column r 0 ≡ column s 0 → r ≡ s
one_shown last [] rise r s a b same = absurd a
one_shown last (x ∷ shown) rise r s (inl a) (inl b) same = a ∙ sym b
one_shown last (x ∷ shown) rise r s (inl a) (inr b) same = absurd (never_again x rise.0 shown rise.1 rise.3 r s a b same)
one_shown last (x ∷ shown) rise r s (inr a) (inl b) same = absurd (never_again x rise.0 shown rise.1 rise.3 s r b a (sym same))
one_shown last (x ∷ shown) rise r s (inr a) (inr b) same = one_shown (Some rise.0) shown rise.3 r s a b same

pub numbered_from : (s : State) (shown : List Row) → ShowsAll s shown → RiseFrom None shown → AreNumbered (s.now.trees 0)
numbered_from s shown all rise = record {
  each = λ r h. shown_int None shown rise (shown_of r) (all.each r h);
  single = λ r t a b same. one_shown None shown rise (shown_of r) (shown_of t) (all.each r a) (all.each t b) same;
}

pub all_shown : (old new : State) (shown : List Row) → old.now.schema ≡ schema → Shown (sql Each) [] old new shown → ShowsAll old shown
all_shown old new shown has h =
    let a = (reads_as (sql Each) [] old new schema has all_command all_is.0 all_is.1 all_is.2 shown h).answer Null in
    record {
      each = λ r here. rows_to [] [] (col 1 0 ∷ col 1 1 ∷ col 1 2 ∷ []) [] old.now.trees 0 refl shown a r here refl;
      only = λ row among. let it = rows_from [] [] (col 1 0 ∷ col 1 1 ∷ col 1 2 ∷ []) [] old.now.trees 0 refl shown a row among in (it.0, it.1, it.3);
    }

pub all_stays : (old new : State) (shown : List Row) → IsCalm old → IsTrue new.is_open → Shown (sql Each) [] old new shown → Stays old new
all_stays old new shown calm is_open h = shown_stays old new calm.idle is_open (sql Each) [] shown (subst (λ s. IsPlain (understood s (sql Each))) (sym calm.schema_is) all_is.1) h

-- what is taken is a store
pub taken : {S : Type 0} (g : Ghosts S) (h : Held S) → IsTrue (state g h).is_open → IsLive (state g h) → IsCalm (state g h) → HasVersion (state g h).now this_version → AreNumbered ((state g h).now.trees 0) → ShowsNodes (state g h).now → IsStore (state g h)
taken g h is_open live calm version numbered nodes = record {
  calm = calm;
  version = version;
  nodes = nodes_from g h (live is_open).0 calm.schema_is numbered (λ r has.
      let it = nodes r has in
      (it.1, it.2, ap (λ (x : Row). column x 1) it.3, ap (λ (x : Row). column x 2) it.3, it.4));
}

-- a store of this version whose rows were read
pub store_after : {S : Type 0} (g : Ghosts S) (old new : Held S) → IsTrue (state g old).is_open → IsLive (state g old) → IsCalm (state g old) → HasVersion (state g old).now this_version → Stays (state g old) (state g new) → AreNumbered ((state g old).now.trees 0) → ShowsNodes (state g old).now → IsStore (state g new)
store_after g old new is_open live calm version stays numbered nodes = record {
  calm = stays_calm (state g old) (state g new) calm stays;
  version = subst (λ (d : Database). HasVersion d this_version) (sym stays.same) version;
  nodes = subst (λ (d : Database). AreNodes (d.trees 0)) (sym stays.same) (taken g old is_open live calm version numbered nodes).nodes;
}

-- a row that is shown and is no node is in the table
pub other_row : (kept : ℕ) (s : State) (shown : List Row) → ShowsAll s shown → ((row : Row) × Has shown row × (ShowsNodeBy kept row → ⊥)) → HasOtherBy kept (s.now.trees 0)
other_row kept s shown all found = grind arith
