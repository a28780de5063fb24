-- SPDX-License-Identifier: Apache-2.0
-- What entries hold are nodes of a store, with texts that they may have.
use Rattle.mnodes.proofs.Words.{◌≡◌, List, [], ◌∷◌, All, sym, ◌∙◌, subst, Ordering, Less, Equal, Greater, entries, put, by_order, All-map, All-nil, All-cons}
use Rattle.mnodes.proofs.Words.{All-head, All-tail, Node, node_cmp, significant_digits, Entry, Bool, cond, None, ap, get-entries, entries_sorted, retain_keys}
use Rattle.mnodes.proofs.Words.{same_map, IsTotalOrder, where_key, is_sorted-where_key, find-where_key, entries_of, entry_of, held, AreEntries, IsHeld, AreHeld}
use Rattle.mnodes.proofs.Words.{FinMap, IsAntisymmetric, from_sorted, entries-from_sorted, get-from_sorted, Text}
use Rattle.mspec.proofs.MapCuts.{get_cut}
use Rattle.mnodes.proofs.SortedEntries.{entries_from}

-- ---- a vector of entries

pub entries_held : (es : List Entry) → AreEntries es → AreHeld (held es)
entries_held es are = subst (All IsHeld) (sym (entries_from (entries_of es) are.sorted)) (All-map IsHeld entry_of es (λ k d inside. record { node = are.stored k d inside; text = are.short k d inside }))

-- ---- an entry that is put

pub put_held : (n : Node) (t : Text) → IsHeld (n, t) → (es : List (Node × Text)) → All IsHeld es → All IsHeld (put (node_cmp significant_digits) n t es)
put_held n t is [] all = All-cons IsHeld (n, t) [] is (All-nil IsHeld)
put_held n t is (e ∷ es) all = by_place (node_cmp significant_digits n e.0) (put_held n t is es (All-tail IsHeld e es all))
  where
    here : IsHeld (e.0, t)
    here = record { node = (All-head IsHeld e es all).node; text = is.text }

    by_place : (r : Ordering) → All IsHeld (put (node_cmp significant_digits) n t es) → All IsHeld (by_order r ((n, t) ∷ e ∷ es) ((e.0, t) ∷ es) (e ∷ put (node_cmp significant_digits) n t es))
    by_place Less rest = All-cons IsHeld (n, t) (e ∷ es) is all
    by_place Equal rest = All-cons IsHeld (e.0, t) es here (All-tail IsHeld e es all)
    by_place Greater rest = All-cons IsHeld e (put (node_cmp significant_digits) n t es) (All-head IsHeld e es all) rest

-- ---- a map that is cut

-- its entries are those that pass
module _ {K X : Type 0} {R : K → K → Ordering} (total : IsTotalOrder R) (exact : IsAntisymmetric R) where
  pub entries_cut : (m : FinMap R X) (p : K → Bool) → entries (retain_keys m p) ≡ where_key R p (entries m)
  entries_cut m p =
      let s = is_sorted-where_key R p (entries m) (entries_sorted m) in
      ap entries (same_map total exact (retain_keys m p) (from_sorted (where_key R p (entries m))) (λ q.
      get_cut total exact m p q ∙ ap (λ g. cond (p q) g None) (get-entries m q) ∙ sym (find-where_key R p q (λ x e. ap p (sym (exact q x e))) (entries m))
      ∙ sym (get-from_sorted R (where_key R p (entries m)) q s)))
      ∙ entries-from_sorted R (where_key R p (entries m)) s
