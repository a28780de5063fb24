-- SPDX-License-Identifier: Apache-2.0
-- Scopes of the code as scopes of the definitions.
use Rattle.mlocal.proofs.LocalWords.{◌≡◌, Bool, true, false, not, cond, ◌||◌, Option, Some, None, List, [], ◌∷◌, Bor, Result, Ok, Err, map, refl, sym, ap}
use Rattle.mlocal.proofs.LocalWords.{subst, ◌∙◌, option_map, unwrap_or, option_copied, IfOk, OnOk, OnErr, HashMap, Ordering, Equal, slice_cmp, IsAntisymmetric}
use Rattle.mlocal.proofs.LocalWords.{from_entries, empty, retain_keys, same_map, get-from_entries, get-retain_keys, nat_cmp-IsAntisymmetric}
use Rattle.mlocal.proofs.LocalWords.{slice_cmp-IsAntisymmetric, insert, where_key, find-where_key, IsTotalOrder, filter_from_retain_pairs, hash_map_of, Text}
use Rattle.mlocal.proofs.LocalWords.{Scope, with_tree, tree_in, is_bare, kill_in, Tree, text_eq, without, NamedTrees, tree_at, kill_at, filter, nat_cmp}
use Rattle.std.specs.FinMap.{get}
use Rattle.std.specs.Map.Calls.{RetainsPairs}

pub shown : {X : Type 0} (r : Option (Bor X)) → option_map (λ x. x.now) r ≡ option_copied r
shown None = refl
shown (Some x) = refl

pub OnOk-map : {T E : Type 0} {P Q : Type 0} (r : Result T E) → (P → Q) → OnOk r P → OnOk r Q
OnOk-map (Ok x) f h = f h
OnOk-map (Err e) f h = h

pub OnErr-map : {T E : Type 0} {P Q : Type 0} (r : Result T E) → (P → Q) → OnErr r P → OnErr r Q
OnErr-map (Ok x) f h = h
OnErr-map (Err e) f h = f h

pub OnErr-always : {T E : Type 0} {P : Type 0} (r : Result T E) → P → OnErr r P
OnErr-always (Ok x) h = tt
OnErr-always (Err e) h = h

pub IfOk-map : {T E : Type 0} {P Q : T → Type 0} (r : Result T E) → ((x : T) → P x → Q x) → IfOk r P → IfOk r Q
IfOk-map (Ok x) f h = f x h
IfOk-map (Err e) f h = h

pub yes_or : (a b : Bool) → a ≡ true → true ≡ (a || b)
yes_or a b e = ap (λ x. x || b) (sym e)

pub no_or : (a b c : Bool) → a ≡ false → c ≡ b → c ≡ (a || b)
no_or a b c e f = f ∙ ap (λ x. x || b) (sym e)

pub names_exact : IsAntisymmetric (slice_cmp nat_cmp)
names_exact = slice_cmp-IsAntisymmetric nat_cmp-IsAntisymmetric

-- the scope of these names, links and trees
abbrev pub scope_of : List Text → Option (List Text) → List (Text × Text) → NamedTrees → Scope
scope_of ns o ls ts = record { names = ns; others = o; trees = ts; links = ls }

module _ (ns : List Text) (o : Option (List Text)) {ls : List (Text × Text)} (ts : NamedTrees) where
  -- the tree of a name, by what the table has
  pub tree_seen : (n : Text) (r : Option Tree) → r ≡ get ts n → (s : Scope) → scope_of ns o ls ts ≡ s → unwrap_or r empty ≡ tree_in s n
  tree_seen n r e s seen = ap (λ q. unwrap_or q empty) e ∙ ap (λ s. tree_in s n) seen

  -- a value that a node was given
  pub put_seen : (us : NamedTrees) (n : Text) (k : List Text) (v : Text) → us ≡ insert ts n (insert (tree_at ts n) k v) → (s : Scope) → scope_of ns o ls ts ≡ s
      → scope_of ns o ls us ≡ with_tree n (insert (tree_in s n) k v) s
  put_seen us n k v e s seen = ap (scope_of ns o ls) e ∙ ap (λ s. with_tree n (insert (tree_in s n) k v) s) seen

  -- a node whose text was taken, with those below it
  pub kill_seen : (us : NamedTrees) (n : Text) (k : List Text) → us ≡ kill_at n k (get ts n) ts → (s : Scope) → scope_of ns o ls ts ≡ s → scope_of ns o ls us ≡ kill_in n k (get s.trees n) s
  kill_seen us n k e s seen = ap (scope_of ns o ls) e ∙ here (get ts n) ∙ ap (λ s. kill_in n k (get s.trees n) s) seen
    where
      either : (b : Bool) (us vs : NamedTrees) → scope_of ns o ls (cond b us vs) ≡ cond b (scope_of ns o ls us) (scope_of ns o ls vs)
      either true us vs = refl
      either false us vs = refl

      here : (t : Option Tree) → scope_of ns o ls (kill_at n k t ts) ≡ kill_in n k t (scope_of ns o ls ts)
      here None = refl
      here (Some t) =
          let us = insert ts n (without t k) in
          either (is_bare (tree_at us n)) (retain_keys us (λ m. not (text_eq n m))) us

-- ---- `retain` by the key

-- a closure that changes no capture and no value
pub retain_same : {F K X : Type 0} (T : F → K → X → Bool → X → F → Type 0) (f : F) (p : K × X → Bool) → ((k : K) (v : X) (b : Bool) (w : X) (g : F) → T f k v b w g → (b ≡ p (k, v)) × (w ≡ v) × (g ≡ f))
    → (es kept : List (K × X)) → RetainsPairs T f es kept → kept ≡ filter p es
retain_same T f p told es kept h = filter_from_retain_pairs T (λ g. g ≡ f) p
    (λ g k v b w g' i t. told k v b w g' (subst (λ x. T x k v b w g') i t)) f es kept refl h

module _ {K X : Type 0} {R : K → K → Ordering} (total : IsTotalOrder R) (exact : IsAntisymmetric R) where
  abbrev pairs : List (K × X) → List (K × X)
  pairs es = map (λ e. (e.0, e.1)) es

  view_cond : (b : Bool) (e : K × X) (es r : List (K × X)) → r ≡ pairs es → cond b ((e.0, e.1) ∷ r) r ≡ pairs (cond b (e ∷ es) es)
  view_cond true e es r h = ap (λ l. (e.0, e.1) ∷ l) h
  view_cond false e es r h = h

  where-view : (p : K → Bool) (es : List (K × X)) → where_key R p (pairs es) ≡ pairs (filter (λ e. p e.0) es)
  where-view p [] = refl
  where-view p (e ∷ es) = view_cond (p e.0) e _ _ (where-view p es)

  from_entries-where : (es : List (K × X)) (p : K → Bool) → from_entries {R = R} (where_key R p es) ≡ retain_keys (from_entries es) p
  from_entries-where es p = same_map total exact _ _ (λ q.
      let alike : (x : K) → R q x ≡ Equal → p x ≡ p q = λ x t. ap p (sym (exact q x t)) in
      get-from_entries total (where_key R p es) q ∙ find-where_key R p q alike es
      ∙ sym (get-retain_keys (from_entries es) p q alike ∙ ap (λ o. cond (p q) o None) (get-from_entries total es q)))

  pub retain-hash_map_of : {S : Type 0} (m m' : HashMap K X S) (p : K → Bool) → m'.entries ≡ filter (λ e. p e.0) m.entries → hash_map_of {R = R} (λ x. x) m' ≡ retain_keys (hash_map_of (λ x. x) m) p
  retain-hash_map_of m m' p h = ap (λ l. from_entries (pairs l)) h ∙ ap from_entries (sym (where-view p m.entries)) ∙ from_entries-where (pairs m.entries) p
