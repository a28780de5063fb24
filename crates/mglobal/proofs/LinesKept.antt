-- SPDX-License-Identifier: Apache-2.0
-- The lines of a routine stay where neither its node, nor one above it or below it is written.
use Rattle.mnodes.proofs.Holding.{entries_cut}
use Rattle.mglobal.proofs.GlobalWords.{arith, ◌≡◌, Bool, true, false, cond, not, ◌||◌, List, [], ◌∷◌, ◌++◌, map, Option, None, refl, sym, ap, ◌∙◌, drop, length}
use Rattle.mglobal.proofs.GlobalWords.{codes, IsTotalOrder, bytes_decides, FinMap, get, insert, retain_keys, entries, same_map, IsAntisymmetric, Ordering}
use Rattle.mglobal.proofs.GlobalWords.{Globals, is_beside, is_line_of, is_node_within, routines_of, lines_of, without_subtree, Text, Node, significant_digits}
use Rattle.mglobal.proofs.GlobalWords.{text_eq, node_cmp_total, node_cmp_exact, both_true, IsSplit, split_node, joined_node, routine_at, is_line}
use Rattle.mspec.proofs.MapCuts.{get_cut, cut_drops}

-- ---- maps

module _ {K X : Type 0} {R : K → K → Ordering} (total : IsTotalOrder R) (exact : IsAntisymmetric R) where
  absorbed : (a b : Bool) (v : Option X) → (b ≡ true → a ≡ true) → cond b (cond a v None) None ≡ cond b v None
  absorbed a b v h = grind arith

  cut_absorbs : (m : FinMap R X) (p q : K → Bool) → ((k : K) → q k ≡ true → p k ≡ true) → retain_keys (retain_keys m p) q ≡ retain_keys m q
  cut_absorbs m p q h = same_map total exact _ _ (λ k.
      get_cut total exact (retain_keys m p) q k ∙ ap (λ v. cond (q k) v None) (get_cut total exact m p k) ∙ absorbed (p k) (q k) (get m k) (h k)
      ∙ sym (get_cut total exact m q k))

-- ---- truths

by_test : {A : Type 0} (b : Bool) → (b ≡ true → A) → (b ≡ false → A) → A
by_test true f g = f refl
by_test false f g = g refl

none_true : (a b : Bool) → (a || b) ≡ false → (a ≡ false) × (b ≡ false)
none_true a b h = grind arith

clash : (b : Bool) → b ≡ true → b ≡ false → ⊥
clash b t f = cc

not_false : (b : Bool) → b ≡ false → not b ≡ true
not_false b e = rw e refl

module _ (account name : Text) where
  abbrev line : Node → Bool
  line = is_line account name

  abbrev routine : Node
  routine = routine_at account name

  -- ---- where a line stands

  pub record IsLineAt (m : Node) : Type 0 where
    pub account_is : account ≡ m.account
    pub name_is : codes "ROUTINE" ≡ m.name
    pub place : Text
    pub subscripts_is : m.subscripts ≡ name ∷ place ∷ []

  place_of : (xs : List Text) → is_line_of name xs ≡ true → (place : Text) × (xs ≡ name ∷ place ∷ [])
  place_of [] e = absurd (cc)
  place_of (r ∷ []) e = absurd (cc)
  place_of (r ∷ p ∷ []) e = (p, ap (λ x. x ∷ p ∷ []) (sym ((bytes_decides name r).0 (both_true (text_eq name r) _ e).0)))
  place_of (r ∷ p ∷ q ∷ xs) e = absurd (cc)

  pub line_at_place : (m : Node) → line m ≡ true → IsLineAt m
  line_at_place m e =
      let parts = both_true (is_beside (routines_of account) m) (is_line_of name m.subscripts) e in
      let beside = both_true (text_eq account m.account) (text_eq (codes "ROUTINE") m.name) parts.0 in
      let at = place_of m.subscripts parts.1 in
      record { account_is = (bytes_decides account m.account).0 beside.0; name_is = (bytes_decides (codes "ROUTINE") m.name).0 beside.1; place = at.0; subscripts_is = at.1 }

  within_routine : (m : Node) → line m ≡ true → is_node_within routine m ≡ true
  within_routine m e = let at = line_at_place m e in joined_node routine m (at.place ∷ []) at.account_is at.name_is at.subscripts_is

  -- ---- a node that is apart

  module _ (k : Node) (apart : (is_node_within k routine || is_node_within routine k) ≡ false) where
    above : is_node_within k routine ≡ false
    above = (none_true (is_node_within k routine) (is_node_within routine k) apart).0

    below : is_node_within routine k ≡ false
    below = (none_true (is_node_within k routine) (is_node_within routine k) apart).1

    no_line : line k ≡ false
    no_line = by_test (line k) (λ t. absurd (clash (is_node_within routine k) (within_routine k t) below)) (λ f. f)

    -- nothing that is in its subtree is a line
    not_above : (m : Node) → IsLineAt m → IsSplit k m → (xs : List Text) → k.subscripts ≡ xs → ⊥
    not_above m at split [] e =
        clash (is_node_within k routine) (joined_node k routine (name ∷ []) (split.account ∙ sym at.account_is) (split.name ∙ sym at.name_is) (ap (λ l. l ++ name ∷ []) (sym e))) above
    not_above m at split (x ∷ []) e =
        let rest : List Text = drop (length k.subscripts) m.subscripts in
        let all : name ∷ at.place ∷ [] ≡ x ∷ rest = sym at.subscripts_is ∙ split.subscripts ∙ ap (λ l. l ++ rest) e in
        let same : name ≡ x = cc in
        clash (is_node_within k routine) (joined_node k routine [] (split.account ∙ sym at.account_is) (split.name ∙ sym at.name_is) (ap (λ y. y ∷ []) same ∙ ap (λ l. l ++ []) (sym e))) above
    not_above m at split (x ∷ y ∷ ys) e =
        let rest : List Text = drop (length k.subscripts) m.subscripts in
        let all : name ∷ at.place ∷ [] ≡ x ∷ (y ∷ (ys ++ rest)) = sym at.subscripts_is ∙ split.subscripts ∙ ap (λ l. l ++ rest) e in
        let same : name ≡ x = cc in
        clash (is_node_within routine k) (joined_node routine k (y ∷ ys) (at.account_is ∙ sym split.account) (at.name_is ∙ sym split.name) (e ∙ ap (λ z. z ∷ y ∷ ys) (sym same))) below

    out_of_subtree : (m : Node) → line m ≡ true → is_node_within k m ≡ false
    out_of_subtree m t = by_test (is_node_within k m) (λ w. absurd (not_above m (line_at_place m t) (split_node k m w) k.subscripts refl)) (λ f. f)

    -- ---- the lines

    by_cut : (g : Globals) → lines_of g account name ≡ map (λ e. e.1) (entries (retain_keys g line))
    by_cut g = ap (map (λ e. e.1)) (sym (entries_cut (node_cmp_total significant_digits) (node_cmp_exact significant_digits) g line))

    pub lines_put : (g : Globals) (text : Text) → lines_of (insert g k text) account name ≡ lines_of g account name
    lines_put g text =
        by_cut (insert g k text)
        ∙ ap (λ m. map (λ e. e.1) (entries m)) (cut_drops (node_cmp_total significant_digits) (node_cmp_exact significant_digits) g line k text no_line)
        ∙ sym (by_cut g)

    pub lines_killed : (g : Globals) → lines_of (without_subtree g k) account name ≡ lines_of g account name
    lines_killed g =
        by_cut (without_subtree g k)
        ∙ ap (λ m. map (λ e. e.1) (entries m)) (cut_absorbs (node_cmp_total significant_digits) (node_cmp_exact significant_digits) g _ line (λ m t. not_false (is_node_within k m) (out_of_subtree m t)))
        ∙ sym (by_cut g)
