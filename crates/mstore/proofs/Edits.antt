-- SPDX-License-Identifier: Apache-2.0
-- What an edit leaves of the rows, as a map.
use Rattle.mstore.proofs.Words.{◌≡◌, ℕ, ℤ, Bool, true, false, not, List, [], ◌∷◌, Option, Some, None, refl, sym, ap, subst, ◌∙◌, inl, inr, int_cmp, arith, ints}
use Rattle.mstore.proofs.Words.{not-true, false_from_ne_true, tied_itself, Int, Row, value_cmp_total, value_cmp-Int, rowid, has_rowid, without_rowid, Has}
use Rattle.mstore.proofs.Words.{id_in, without_all, is_taken, has_filtered, has_kept, some_from, value_cmp, IsNode, AreRows, lookup, key_of, value_of, is_eq}
use Rattle.mstore.proofs.Words.{true≢false}
use Rattle.mstore.proofs.Maps.{lookup_some, lookup_has, lookup_none}

-- the rows that are left are those that do not pass
pub record IsLeft (rows next : List Row) (gone : Row → Bool) : Type 0 where
  pub was : (r : Row) → Has next r → Has rows r × (gone r ≡ false)
  pub stays : (r : Row) → Has rows r → gone r ≡ false → Has next r

pub left_nodes : {F : List ℕ → List ℕ → Type 0} (rows next : List Row) (gone : Row → Bool) → AreRows F rows → IsLeft rows next gone → AreRows F next
left_nodes rows next gone nodes left = record {
  each = λ r h. nodes.each r (left.was r h).0;
  in_form = λ r h. nodes.in_form r (left.was r h).0;
  ids = λ r s h k. nodes.ids r s (left.was r h).0 (left.was s k).0;
  keys = λ r s h k. nodes.keys r s (left.was r h).0 (left.was s k).0;
}

pub left_from : (ids : List ℤ) (rows : List Row) (x : Row) → Has (without_all rows ids) x → Has rows x × ((id : ℤ) → Has ids id → has_rowid id x ≡ false)
left_from [] rows x h = (h, λ id none. absurd none)
left_from (d ∷ ids) rows x h =
    let rest = left_from ids (without_rowid d rows) x h in
    let first = has_filtered _ rows x rest.0 in
    (first.0, λ id among. elim among [ inl same ↦ rw same (not-true _ first.1) | inr later ↦ rest.1 id later ])

pub left_to : (ids : List ℤ) (rows : List Row) (x : Row) → Has rows x → ((id : ℤ) → Has ids id → has_rowid id x ≡ false) → Has (without_all rows ids) x
left_to [] rows x h other = h
left_to (d ∷ ids) rows x h other = left_to ids (without_rowid d rows) x (has_kept _ rows x h (ap not (other d (inl refl)))) (λ id among. other id (inr among))

-- a row has the rowid that it has
pub has_own : (r : Row) (id : ℤ) → rowid r ≡ Int id → has_rowid id r ≡ true
has_own r id same = subst (λ v. is_eq (value_cmp v (Int id)) ≡ true) (sym same) (ap is_eq (tied_itself value_cmp_total (Int id)))

pub taken_own : (rows : List Row) (r new : Row) → Has rows r → rowid r ≡ rowid new → is_taken rows new ≡ true
taken_own rows r new h same = some_from _ rows r h (subst (λ v. is_eq (value_cmp v (rowid new)) ≡ true) (sym same) (ap is_eq (tied_itself value_cmp_total (rowid new))))

int_same : (m n : ℤ) → is_eq (int_cmp m n) ≡ true → m ≡ n
int_same m n h = grind (arith, ints)

own_id : (r : Row) → IsNode r → rowid r ≡ Int (id_in (rowid r))
own_id r node = ap (λ s. rowid s) node

-- two rows with one rowid
pub same_id : (r : Row) (id : ℤ) → IsNode r → has_rowid id r ≡ true → rowid r ≡ Int id
same_id r id node h =
    let own = own_id r node in
    let same = int_same (id_in (rowid r)) id (ap is_eq (sym (value_cmp-Int (id_in (rowid r)) id)) ∙ subst (λ v. is_eq (value_cmp v (Int id)) ≡ true) own h) in
    own ∙ ap Int same

-- the rows are taken out by the rowids of those that pass a test
module _ {F : List ℕ → List ℕ → Type 0} (rows : List Row) (nodes : AreRows F rows) (ids : List ℤ) (gone : Row → Bool) (from : (id : ℤ) → Has ids id → (s : Row) × Has rows s × (gone s ≡ true) × (id ≡ id_in (rowid s)))
    (to : (r : Row) → Has rows r → gone r ≡ true → Has ids (id_in (rowid r))) where
  pub left_is : IsLeft rows (without_all rows ids) gone
  left_is = record {
    was = λ r h.
        let it = left_from ids rows r h in
        (it.0, false_from_ne_true (gone r) (λ passes. true≢false (sym (has_own r (id_in (rowid r)) (own_id r (nodes.each r it.0))) ∙ it.1 _ (to r it.0 passes))));
    stays = λ r h kept. left_to ids rows r h (λ id among.
        let it = from id among in
        false_from_ne_true (has_rowid id r) (λ same.
        let one = nodes.ids r it.0 h it.1 (same_id r id (nodes.each r h) same ∙ ap Int it.3 ∙ sym (own_id it.0 (nodes.each it.0 it.1))) in
        true≢false (sym it.2 ∙ ap gone (sym one) ∙ kept)));
  }

-- two lists with the same rows at a key agree there
pub lookup_same : {F G : List ℕ → List ℕ → Type 0} (rows next : List Row) (q : List ℕ) → AreRows F rows → AreRows G next → ((r : Row) → key_of r ≡ q → Has rows r → Has next r) → ((r : Row) → key_of r ≡ q → Has next r → Has rows r)
    → lookup next q ≡ lookup rows q
lookup_same rows next q was now there back = go (lookup rows q) refl
  where
    go : (o : Option (List ℕ)) → lookup rows q ≡ o → lookup next q ≡ o
    go None e = lookup_none next q (λ r h same. clash r same (back r same h) e)
      where
        clash : (r : Row) → key_of r ≡ q → Has rows r → lookup rows q ≡ None → ⊥
        clash r same h e = let some = subst (λ k. lookup rows k ≡ Some (value_of r)) same (lookup_has rows r was h) in absurd cc
    go (Some v) e =
        let it = lookup_some rows q v e in
        subst (λ k. lookup next k ≡ Some v) it.2 (lookup_has next it.0 now (there it.0 it.2 it.1) ∙ ap Some it.3)
