-- SPDX-License-Identifier: Apache-2.0
-- Maps of examples: what was put into an empty map, as rules by which `simp` computes what is asked of it.
use Rattle.mspec.proofs.SpecWords.{◌≡◌, ℕ, Bool, true, false, cond, List, [], Option, Some, None, refl, sym, ap, ◌∙◌, Ordering, nat_cmp, eq_by_cmp}
use Rattle.mspec.proofs.SpecWords.{IsTotalOrder, nat_cmp_total, nil_from_length, slice_cmp, nat_list_cmp_total, FinMap, get, insert, empty, retain_keys}
use Rattle.mspec.proofs.SpecWords.{entries, get-insert, get-empty, entries-insert, len-empty, len-entries, same_map, IsAntisymmetric, nat_cmp-IsAntisymmetric}
use Rattle.mspec.proofs.SpecWords.{put, Text, significant_digits, subscripts_cmp, Tree}
use Rattle.mspec.proofs.MapCuts.{equal_of, get_cut, cut_drops}
use Rattle.mspec.proofs.NodeOrders.{subscripts_cmp_total, subscripts_cmp_exact}
use Rattle.mspec.proofs.Basics.{texts_exact}

module _ {K X : Type 0} {R : K → K → Ordering} (total : IsTotalOrder R) (exact : IsAntisymmetric R) where
  kept_there : (b t : Bool) (v g : Option X) → (t ≡ true → b ≡ true) → cond b (cond t v g) None ≡ cond t v (cond b g None)
  kept_there true t v g h = refl
  kept_there false true v g h = let no : false ≡ true = h refl in absurd (cc)
  kept_there false false v g h = refl

  -- a key that passes the test stays
  cut_keeps : (m : FinMap R X) (p : K → Bool) (k : K) (v : X) → p k ≡ true → retain_keys (insert m k v) p ≡ insert (retain_keys m p) k v
  cut_keeps m p k v h = same_map total exact _ _ (λ q.
      get_cut total exact (insert m k v) p q ∙ ap (λ g. cond (p q) g None) (get-insert total m k v q)
      ∙ kept_there (p q) (eq_by_cmp R q k) (Some v) (get m q) (λ e. ap p (exact q k (equal_of (R q k) e)) ∙ h)
      ∙ ap (cond (eq_by_cmp R q k) (Some v)) (sym (get_cut total exact m p q)) ∙ sym (get-insert total (retain_keys m p) k v q))

  cut_put : (m : FinMap R X) (p : K → Bool) (k : K) (v : X) → retain_keys (insert m k v) p ≡ cond (p k) (insert (retain_keys m p) k v) (retain_keys m p)
  cut_put m p k v = here (p k) refl
    where
      here : (b : Bool) → p k ≡ b → retain_keys (insert m k v) p ≡ cond b (insert (retain_keys m p) k v) (retain_keys m p)
      here true e = cut_keeps m p k v e
      here false e = cut_drops total exact m p k v e

  neither : (b : Bool) → ◌≡◌ {A = Option X} (cond b None None) None
  neither true = refl
  neither false = refl

  cut_none : (p : K → Bool) → retain_keys (empty {X = X} {R = R}) p ≡ empty
  cut_none p = same_map total exact _ _ (λ q. get_cut total exact empty p q ∙ ap (λ g. cond (p q) g None) (get-empty R q) ∙ neither (p q) ∙ sym (get-empty R q))

  again : (b : Bool) (u v g : Option X) → cond b v (cond b u g) ≡ cond b v g
  again true u v g = refl
  again false u v g = refl

  put_again : (m : FinMap R X) (k : K) (u v : X) → insert (insert m k u) k v ≡ insert m k v
  put_again m k u v = same_map total exact _ _ (λ q.
      get-insert total (insert m k u) k v q ∙ ap (cond (eq_by_cmp R q k) (Some v)) (get-insert total m k u q)
      ∙ again (eq_by_cmp R q k) (Some u) (Some v) (get m q) ∙ sym (get-insert total m k v q))

  again_behind : (a b : Bool) (u v w g : Option X) → cond b w (cond a v (cond b u g)) ≡ cond b w (cond a v g)
  again_behind a true u v w g = refl
  again_behind a false u v w g = refl

  put_behind : (m : FinMap R X) (k j : K) (u v w : X) → insert (insert (insert m k u) j v) k w ≡ insert (insert m j v) k w
  put_behind m k j u v w = same_map total exact _ _ (λ q.
      get-insert total (insert (insert m k u) j v) k w q
      ∙ ap (cond (eq_by_cmp R q k) (Some w)) (get-insert total (insert m k u) j v q ∙ ap (cond (eq_by_cmp R q j) (Some v)) (get-insert total m k u q))
      ∙ again_behind (eq_by_cmp R q j) (eq_by_cmp R q k) (Some u) (Some v) (Some w) (get m q)
      ∙ ap (cond (eq_by_cmp R q k) (Some w)) (sym (get-insert total m j v q)) ∙ sym (get-insert total (insert m j v) k w q))

pub entries_none : {K X : Type 0} (R : K → K → Ordering) → entries (empty {X = X} {R = R}) ≡ []
entries_none {X = X} R = nil_from_length _ (sym (len-entries (empty {X = X} {R = R})) ∙ len-empty R X)

-- ---- the maps of variables by their names

abbrev Named : Type 0
Named = FinMap (slice_cmp nat_cmp) Tree

pub tree_none : (q : Text) → get (empty {X = Tree} {R = slice_cmp nat_cmp}) q ≡ None
tree_none q = get-empty (slice_cmp nat_cmp) q

pub tree_put : (m : Named) (k : Text) (t : Tree) (q : Text) → get (insert m k t) q ≡ cond (eq_by_cmp (slice_cmp nat_cmp) q k) (Some t) (get m q)
tree_put m k t q = get-insert nat_list_cmp_total m k t q

pub tree_again : (m : Named) (k : Text) (t u : Tree) → insert (insert m k t) k u ≡ insert m k u
tree_again m k t u = put_again nat_list_cmp_total texts_exact m k t u

pub tree_behind : (m : Named) (k j : Text) (t u v : Tree) → insert (insert (insert m k t) j u) k v ≡ insert (insert m j u) k v
tree_behind m k j t u v = put_behind nat_list_cmp_total texts_exact m k j t u v

pub trees_cut : (m : Named) (p : Text → Bool) (k : Text) (t : Tree) → retain_keys (insert m k t) p ≡ cond (p k) (insert (retain_keys m p) k t) (retain_keys m p)
trees_cut m p k t = cut_put nat_list_cmp_total texts_exact m p k t

pub no_trees_cut : (p : Text → Bool) → retain_keys (empty {X = Tree} {R = slice_cmp nat_cmp}) p ≡ empty
no_trees_cut p = cut_none nat_list_cmp_total texts_exact p

-- ---- the maps of texts by their subscripts

pub text_none : (q : List Text) → get (empty {X = Text} {R = subscripts_cmp significant_digits}) q ≡ None
text_none q = get-empty (subscripts_cmp significant_digits) q

pub text_put : (t : Tree) (k : List Text) (x : Text) (q : List Text) → get (insert t k x) q ≡ cond (eq_by_cmp (subscripts_cmp significant_digits) q k) (Some x) (get t q)
text_put t k x q = get-insert (subscripts_cmp_total significant_digits) t k x q

pub text_again : (t : Tree) (k : List Text) (x y : Text) → insert (insert t k x) k y ≡ insert t k y
text_again t k x y = put_again (subscripts_cmp_total significant_digits) (subscripts_cmp_exact significant_digits) t k x y

pub texts_cut : (t : Tree) (p : List Text → Bool) (k : List Text) (x : Text) → retain_keys (insert t k x) p ≡ cond (p k) (insert (retain_keys t p) k x) (retain_keys t p)
texts_cut t p k x = cut_put (subscripts_cmp_total significant_digits) (subscripts_cmp_exact significant_digits) t p k x

pub no_texts_cut : (p : List Text → Bool) → retain_keys (empty {X = Text} {R = subscripts_cmp significant_digits}) p ≡ empty
no_texts_cut p = cut_none (subscripts_cmp_total significant_digits) (subscripts_cmp_exact significant_digits) p

pub no_nodes : entries (empty {X = Text} {R = subscripts_cmp significant_digits}) ≡ []
no_nodes = entries_none (subscripts_cmp significant_digits)

pub nodes_put : (t : Tree) (k : List Text) (x : Text) → entries (insert t k x) ≡ put (subscripts_cmp significant_digits) k x (entries t)
nodes_put t k x = entries-insert (subscripts_cmp_total significant_digits) t k x

-- ---- the maps by numbers, as of sessions by their terminals

pub number_again : {X : Type 0} (m : FinMap nat_cmp X) (k : ℕ) (u v : X) → insert (insert m k u) k v ≡ insert m k v
number_again m k u v = put_again nat_cmp_total nat_cmp-IsAntisymmetric m k u v

-- for `simp`, where the words for locals are unfolded
pub ruleset computed_maps = (tree_none, tree_put, tree_again, tree_behind, trees_cut, no_trees_cut, text_none, text_put, text_again, texts_cut, no_texts_cut, no_nodes, nodes_put, number_again)
