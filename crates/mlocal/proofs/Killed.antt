-- SPDX-License-Identifier: Apache-2.0
-- KILL of all but some variables, from the bottom up.
use Rattle.mlocal.proofs.LocalWords.{◌≡◌, ℕ, ◌+◌, ◌<◌, Bool, ◌||◌, List, [], ◌∷◌, ◌++◌, length, reverse, take, drop, get_or, set, refl, sym, ap, ◌∙◌}
use Rattle.mlocal.proofs.LocalWords.{append_assoc, ◌≤◌, arith, add-one, subst, drop-cons, list_any, list_any-append, keys_of, flat_map, take-append-drop}
use Rattle.mlocal.proofs.LocalWords.{take_more_set, drop-set-lt, drop_all, take-set, length-set, Text, Scope, emptied, stays, killed_but, killed_up}
use Rattle.mlocal.proofs.Stacks.{flip-split}

kill-up : (names : List Text) (xs ys : List Scope) → killed_but names [] (reverse xs ++ ys) ≡ reverse (killed_up names xs) ++ killed_but names xs ys
kill-up names [] ys = refl
kill-up names (x ∷ xs) ys =
    ap (killed_but names []) (flip-split [] x xs ys) ∙ kill-up names xs (x ∷ ys)
    ∙ sym (flip-split [] (emptied (stays names xs) x) (killed_up names xs) (killed_but names (x ∷ xs) ys))

pub kill-step : (names : List Text) (init cur : List Scope) (i : ℕ) (x t w : Scope) (above : List Scope) → i < length init
    → (length cur ≡ length init) × (take i cur ++ killed_up names (drop i cur) ≡ killed_up names init)
    → above ≡ drop (i + 1) (set cur i t) → x ≡ get_or cur i x → w ≡ emptied (stays names above) x
    → (length (set (set cur i t) i w) ≡ length init) × (take (i + 1) (set (set cur i t) i w) ++ killed_up names (drop (i + 1) (set (set cur i t) i w)) ≡ killed_up names init)
kill-step names init cur i x t w above h inv ab is e =
    let len : length (set cur i t) ≡ length init = length-set cur i t ∙ inv.0 in
    let lt : i < length (set cur i t) = subst (λ k. i < k) (sym len) h in
    let lt' : i < length cur = subst (λ k. i < k) (sym inv.0) h in
    let one : i < i + 1 = omega arith in
    let rest : drop (i + 1) (set cur i t) ≡ drop (i + 1) cur = drop-set-lt (i + 1) cur i t one in
    let rest2 : drop (i + 1) (set (set cur i t) i w) ≡ drop (i + 1) cur = drop-set-lt (i + 1) (set cur i t) i w one ∙ rest in
    let front : take (i + 1) (set (set cur i t) i w) ≡ take i cur ++ w ∷ [] = take_more_set (set cur i t) i w lt ∙ ap (λ l. l ++ w ∷ []) (take-set cur i t) in
    let ds = drop (i + 1) cur in
    let here : drop i cur ≡ x ∷ ds = drop-cons cur i x lt' ∙ (λ j. sym is j ∷ drop (sym (add-one i) j) cur) in
    let same : w ≡ emptied (stays names ds) x = e ∙ ap (λ l. emptied (stays names l) x) (ab ∙ rest) in (
      length-set (set cur i t) i w ∙ len,
      (λ j. front j ++ killed_up names (rest2 j)) ∙ append_assoc (take i cur) (w ∷ []) (killed_up names ds) ∙ ap (λ s. take i cur ++ s ∷ killed_up names ds) same
          ∙ sym (ap (λ l. take i cur ++ killed_up names l) here) ∙ inv.1,
    )

pub kill-done : (names : List Text) (init cur : List Scope) (i : ℕ) → length cur ≤ i → take i cur ++ killed_up names (drop i cur) ≡ killed_up names init → cur ≡ killed_up names init
kill-done names init cur i h inv =
    let none = drop_all i cur h in
    sym (take-append-drop i cur) ∙ ap (λ l. take i cur ++ l) none ∙ sym (ap (λ l. take i cur ++ killed_up names l) none) ∙ inv

pub kill-all : (names : List Text) (init cur : List Scope) (b w : Scope) → cur ≡ killed_up names init → w ≡ emptied (stays names init) b → reverse cur ++ w ∷ [] ≡ killed_but names [] (reverse init ++ b ∷ [])
kill-all names init cur b w all e =
    ap (λ l. reverse l ++ w ∷ []) all ∙ ap (λ s. reverse (killed_up names init) ++ s ∷ []) e ∙ sym (kill-up names init (b ∷ []))

-- ---- the names that may lead to a variable

keys-any : (p : Text → Bool) (ls : List (Text × Text)) → list_any p (keys_of ls) ≡ list_any (λ l. p l.0) ls
keys-any p [] = refl
keys-any p (l ∷ ls) = ap (λ b. p l.0 || b) (keys-any p ls)

-- those of links, scope by scope
pub ways_any : (p : Text → Bool) (above : List Scope) → list_any (λ s. list_any (λ l. p l.0) s.links) above ≡ list_any p (flat_map (λ s. keys_of s.links) above)
ways_any p [] = refl
ways_any p (s ∷ above) =
    (λ i. sym (keys-any p s.links) i || ways_any p above i) ∙ sym (list_any-append p (keys_of s.links) (flat_map (λ s. keys_of s.links) above))
