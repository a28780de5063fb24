-- SPDX-License-Identifier: Apache-2.0
-- Texts that are kept, after calls of the store.
use Rattle.mcache.proofs.CacheWords.{◌≡◌, ◌≢◌, ◌≤◌, ℕ, Bool, true, false, cond, not, List, length, All, Some, None, Contains, nat_eq, refl, sym, ap, ◌∙◌, subst}
use Rattle.mcache.proofs.CacheWords.{inl, inr, Ordering, false_from_ne_true, All-filter, get, insert, entries, entries-insert, get-insert, starts_with, Text}
use Rattle.mcache.proofs.CacheWords.{Node, IsHeld, AreHeld, IsKeptAt, IsIn, IsInOr, AreOf}
use Rattle.mnodes.proofs.Holding.{entries_cut, put_held}
use Rattle.std.proofs.lemmas.Cmp.{eq_by_cmp_equiv}
use Rattle.std.specs.Ordering.{eq_by_cmp}
use Rattle.mspec.specs.Globals.{Globals, is_node_within, without_subtree}
use Rattle.mspec.specs.KeyBytes.{key_bytes, IsStored}
use Rattle.mspec.specs.NodeOrder.{node_cmp}
use Rattle.mspec.specs.Number.{significant_digits}
use Rattle.mspec.specs.TextFunctions.{max_text}
use Rattle.mspec.proofs.MapCuts.{get_cut, equal_of}
use Rattle.mspec.proofs.NodeOrders.{node_cmp_total, node_cmp_exact}
use Rattle.mkey.specs.Key.{none_empty, one_node}
use Rattle.mkey.proofs.NodeFronts.{starts_node}
use Rattle.mcache.specs.NodeTexts.{Entry}

abbrev order : Node → Node → Ordering
order = node_cmp significant_digits

-- ---- what a store holds, after a write

held_put : (g : Globals) (n : Node) (t : Text) → IsStored n → length t ≤ max_text → AreHeld g → AreHeld (insert g n t)
held_put g n t stored short held = subst (All IsHeld) (sym (entries-insert (node_cmp_total significant_digits) g n t)) (put_held n t (record { node = stored; text = short }) (entries g) held)

held_killed : (g : Globals) (n : Node) → AreHeld g → AreHeld (without_subtree g n)
held_killed g n held =
    subst (All IsHeld) (sym (entries_cut (node_cmp_total significant_digits) (node_cmp_exact significant_digits) g (λ m. not (is_node_within n m))))
    (All-filter (λ e. not (is_node_within n e.0)) IsHeld (entries g) held)

-- ---- what a store has at a node, after a write elsewhere

got_other : (g : Globals) (n m : Node) (t : Text) → m ≢ n → get (insert g n t) m ≡ get g m
got_other g n m t other =
    get-insert (node_cmp_total significant_digits) g n t m
    ∙ ap (λ b. cond b (Some t) (get g m)) (false_from_ne_true (eq_by_cmp order m n) (λ e. other (node_cmp_exact significant_digits m n (equal_of (order m n) e))))

pub got_itself : (g : Globals) (n : Node) (t : Text) → get (insert g n t) n ≡ Some t
got_itself g n t = get-insert (node_cmp_total significant_digits) g n t n ∙ ap (λ b. cond b (Some t) (get g n)) ((eq_by_cmp_equiv (node_cmp_total significant_digits)).refl n)

got_outside : (g : Globals) (n m : Node) → is_node_within n m ≡ false → get (without_subtree g n) m ≡ get g m
got_outside g n m out = get_cut (node_cmp_total significant_digits) (node_cmp_exact significant_digits) g (λ x. not (is_node_within n x)) m ∙ ap (λ b. cond (not b) (get g m) None) out

-- ---- what is kept

module _ {g : Globals} {read : Bool} {es : List Entry} (were : AreOf g read es) where
  -- a look-up finds what the store has
  pub is_got : (n : Node) (bytes : List ℕ) (text : Text) → IsStored n → bytes ≡ key_bytes significant_digits n → IsKeptAt es bytes text → Some text ≡ get g n
  is_got n bytes text stored is at =
      let of = were.each at.0 at.1 in
      let same : of.node ≡ n = one_node of.node n bytes of.stored stored (of.key ∙ at.2.0) (sym is) in
      sym (subst (λ m. get g m ≡ Some at.0.1) same of.text ∙ ap Some at.2.1)

  -- and if it finds something, it is known what the store may hold
  pub is_held : (bytes : List ℕ) (text : Text) → IsKeptAt es bytes text → AreHeld g
  is_held bytes text at = were.held (were.after at.0 at.1)

  pub in_them : (after : List Entry) → IsIn after es → AreOf g read after
  in_them after in_es = record { each = λ e c. were.each e (in_es e c); after = λ e c. were.after e (in_es e c); held = were.held }

  -- after a read of the store
  pub read_now : (now : Globals) → now ≡ g → AreHeld g → AreOf now true es
  read_now now is held = record {
    each = λ e c. let of = were.each e c in record { node = of.node; stored = of.stored; key = of.key; text = ap (λ x. get x of.node) is ∙ of.text };
    after = λ e c. refl;
    held = λ _. subst AreHeld (sym is) held;
  }

  -- a node's text is kept too
  pub with_one : (n : Node) (bytes : List ℕ) (text : Text) (after : List Entry) → read ≡ true → IsStored n → bytes ≡ key_bytes significant_digits n → get g n ≡ Some text → IsInOr after es bytes text → AreOf g read after
  with_one n bytes text after known stored is has in_or = record {
    each = λ e c. elim (in_or e c) [
      | inl old ↦ were.each e old
      | inr new ↦ record { node = n; stored = stored; key = sym is ∙ sym new.0; text = has ∙ ap Some (sym new.1) }
    ];
    after = λ e c. known;
    held = were.held;
  }

  -- after a write of a node whose text is not kept
  pub behind_put : (n : Node) (bytes : List ℕ) (text : Text) (after : List Entry) → IsStored n → length text ≤ max_text → bytes ≡ key_bytes significant_digits n → IsIn after es → ((e : Entry) → Contains after e → e.0.items ≢ bytes) → AreOf (insert g n text) read after
  behind_put n bytes text after stored short is in_es gone = record {
    each = λ e c.
        let of = were.each e (in_es e c) in
        record { node = of.node; stored = of.stored; key = of.key; text = got_other g n of.node text (λ same. gone e c (sym of.key ∙ ap (key_bytes significant_digits) same ∙ sym is)) ∙ of.text };
    after = λ e c. were.after e (in_es e c);
    held = λ known. held_put g n text stored short (were.held known);
  }

  -- after a kill, if nothing is kept of what it took away
  pub behind_kill : (n : Node) (bytes : List ℕ) (after : List Entry) → IsStored n → bytes ≡ key_bytes significant_digits n → IsIn after es → ((e : Entry) → Contains after e → starts_with nat_eq e.0.items bytes ≡ false) → AreOf (without_subtree g n) read after
  behind_kill n bytes after stored is in_es gone = record {
    each = λ e c.
        let of = were.each e (in_es e c) in
        let apart : starts_with nat_eq (key_bytes significant_digits of.node) (key_bytes significant_digits n) ≡ false = (λ i. starts_with nat_eq (of.key i) (sym is i)) ∙ gone e c in
        let out : is_node_within n of.node ≡ false = sym (starts_node n of.node (none_empty n stored) (none_empty of.node of.stored) (starts_with nat_eq (key_bytes significant_digits of.node) (key_bytes significant_digits n)) refl) ∙ apart in
        record { node = of.node; stored = of.stored; key = of.key; text = got_outside g n of.node out ∙ of.text };
    after = λ e c. were.after e (in_es e c);
    held = λ known. held_killed g n (were.held known);
  }
