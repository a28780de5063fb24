-- SPDX-License-Identifier: Apache-2.0
-- Parts of a text, from one place up to another.
use Rattle.mtext.proofs.TextWords.{Option, None, Some, IsAtMost, ℕ, ◌≡◌, ◌+◌, ◌-◌, ◌<◌, ◌≤◌, List, [], ◌∷◌, ◌++◌, Bool, false, Decides, take, drop, get_or}
use Rattle.mtext.proofs.TextWords.{length, refl, sym, subst, ◌∙◌, ap, arith, below_more, slice_range, drop_at, get_or_append_left, get_or_push, take-add}
use Rattle.mtext.proofs.TextWords.{drop-drop, take_at}

pub part_split : (s : List ℕ) (a m b : ℕ) → a ≤ m → m ≤ b → slice_range s a b ≡ slice_range s a m ++ slice_range s m b
part_split s a m b h k =
    let sum : b - a ≡ (m - a) + (b - m) = omega arith in
    let back : a + (m - a) ≡ m = omega arith in
    ap (λ n. take n (drop a s)) sum ∙ take-add (m - a) (b - m) (drop a s)
    ∙ ap (λ t. take (m - a) (drop a s) ++ take (b - m) t) (drop-drop (m - a) a s ∙ ap (λ n. drop n s) back)

pub front_and_part : (s : List ℕ) (a b : ℕ) → a ≤ b → take b s ≡ take a s ++ slice_range s a b
front_and_part s a b h =
    let sum : b ≡ a + (b - a) = omega arith in
    ap (λ n. take n s) sum ∙ take-add a (b - a) s

-- the parts of a joining are known by their lengths
pub joined_front : (p q r t : List ℕ) → p ++ q ≡ r ++ t → length p ≡ length r → p ≡ r
joined_front p q r t e h = sym (take_at p q (length r) h) ∙ ap (λ s. take (length r) s) e ∙ take_at r t (length r) refl

pub joined_rest : (p q r t : List ℕ) → p ++ q ≡ r ++ t → length p ≡ length r → q ≡ t
joined_rest p q r t e h = sym (drop_at p q (length r) h) ∙ ap (λ s. drop (length r) s) e ∙ drop_at r t (length r) refl

-- a list with one more at its end, at whose places something holds
pub each_more : {X : Type 0} (P : ℕ → X → Type 0) (xs more : List X) (x d : X) (n : ℕ) → more ≡ xs ++ x ∷ [] → length xs ≡ n → ((k : ℕ) → k < n → P k (get_or xs k d)) → P n x →
    (k : ℕ) → k < n + 1 → P k (get_or more k d)
each_more P xs more x d n e size each here =
    subst (λ t. (k : ℕ) → k < n + 1 → P k (get_or t k d)) (sym e)
    (below_more (λ k. P k (get_or (xs ++ x ∷ []) k d)) n (λ k h. subst (λ y. P k y) (sym (get_or_append_left xs (x ∷ []) d k (omega arith))) (each k h))
    (subst (λ y. P n y) (sym (get_or_push xs x d n size)) here))

pub marked_more : (P : ℕ → Type 0) (marks more : List Bool) (b : Bool) (n : ℕ) → more ≡ marks ++ b ∷ [] → length marks ≡ n →
    ((k : ℕ) → k < n → Decides (get_or marks k false) (P k)) → Decides b (P n) → (k : ℕ) → k < n + 1 → Decides (get_or more k false) (P k)
marked_more P marks more b n = each_more (λ k x. Decides x (P k)) marks more b false n

-- ---- counts

pub fewer_at_most : (most : Option ℕ) (n m : ℕ) → m ≤ n → IsAtMost most n → IsAtMost most m
fewer_at_most None n m h is = tt
fewer_at_most (Some most) n m h is = omega arith
