-- SPDX-License-Identifier: Apache-2.0
-- Names above a name.
use Rattle.mlock.proofs.LockWords.{◌≡◌, ◌<◌, ◌+◌, ℕ, true, List, [], ◌∷◌, ◌++◌, length, take, drop, ◌⊎◌, inl, inr, refl, sym, ap, ◌∙◌, arith, append-nil}
use Rattle.mlock.proofs.LockWords.{append_assoc, length-append, take-append-drop, take-append_seam, LockName, is_within, Text, IsAbove, name_above}
use Rattle.mlock.proofs.Under.{Inside, inside, of_inside, same_name}

-- ---- the name that is looked up

-- the name next above one of those above
pub above_next : (n below above : LockName) → below ≡ name_above (length below.node.subscripts) n → IsAbove above below
    → (above ≡ name_above (length above.node.subscripts) n) × (length below.node.subscripts ≡ length above.node.subscripts + 1)
above_next n below above is next =
    let longer = next.node.longer in
    let front : below.node.subscripts ≡ take (length below.node.subscripts) n.node.subscripts = ap (λ m. m.node.subscripts) is in
    let whole : n.node.subscripts ≡ above.node.subscripts ++ (longer.0 ∷ drop (length below.node.subscripts) n.node.subscripts) =
    sym (take-append-drop (length below.node.subscripts) n.node.subscripts)
    ∙ ap (λ s. s ++ drop (length below.node.subscripts) n.node.subscripts) (sym front ∙ longer.1)
    ∙ append_assoc above.node.subscripts (longer.0 ∷ []) (drop (length below.node.subscripts) n.node.subscripts) in
    let subs : above.node.subscripts ≡ take (length above.node.subscripts) n.node.subscripts =
    sym (take-append_seam above.node.subscripts (longer.0 ∷ drop (length below.node.subscripts) n.node.subscripts)) ∙ ap (take (length above.node.subscripts)) (sym whole) in (
      same_name above (name_above (length above.node.subscripts) n) (next.kind ∙ ap (λ m. m.global) is) (next.node.account ∙ ap (λ m. m.node.account) is) (next.node.name ∙ ap (λ m. m.node.name) is) subs,
      ap length longer.1 ∙ length-append above.node.subscripts (longer.0 ∷ []),
    )

-- ---- names above

pub above_within : (i : ℕ) (n : LockName) → is_within (name_above i n) n ≡ true
above_within i n = of_inside (name_above i n) n (record { kind = refl; account = refl; name = refl; more = drop i n.node.subscripts; subscripts = sym (take-append-drop i n.node.subscripts) })

-- a name above another is one of those with fewer subscripts, or the name itself
pub above_or_same : (q n : LockName) → is_within q n ≡ true → (is_within n q ≡ true) ⊎ ((i : ℕ) × (i < length n.node.subscripts) × (name_above i n ≡ q))
above_or_same q n is = by_more p.more p.subscripts
  where
    p : Inside q n
    p = inside q n is

    by_more : (more : List Text) → n.node.subscripts ≡ q.node.subscripts ++ more → (is_within n q ≡ true) ⊎ ((i : ℕ) × (i < length n.node.subscripts) × (name_above i n ≡ q))
    by_more [] subs =
        let same = sym (append-nil q.node.subscripts) ∙ sym subs ∙ sym (append-nil n.node.subscripts) in
        inl (of_inside n q (record { kind = sym p.kind; account = sym p.account; name = sym p.name; more = []; subscripts = same }))
    by_more (s ∷ more) subs =
        let fewer : take (length q.node.subscripts) n.node.subscripts ≡ q.node.subscripts = ap (take (length q.node.subscripts)) subs ∙ take-append_seam q.node.subscripts (s ∷ more) in
        let long : length n.node.subscripts ≡ length q.node.subscripts + length (s ∷ more) = ap length subs ∙ length-append q.node.subscripts (s ∷ more) in
        inr (length q.node.subscripts, omega (arith, long), same_name (name_above (length q.node.subscripts) n) q (sym p.kind) (sym p.account) (sym p.name) fewer)
