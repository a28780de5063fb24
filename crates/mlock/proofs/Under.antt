-- SPDX-License-Identifier: Apache-2.0
-- Names below other names, and the name next above one.
use Rattle.mlock.proofs.LockWords.{◌≡◌, ◌<◌, ◌≤◌, ◌+◌, ◌-◌, ℕ, true, false, not, List, [], ◌∷◌, ◌++◌, length, take, inl, inr, sym, ap, ◌∙◌, subst, arith}
use Rattle.mlock.proofs.LockWords.{length-append, true≢false, Equal-is, eq_by_cmp_equiv, both_ways, take-append_seam, take-append-add, cases_lt, and_parts}
use Rattle.mlock.proofs.LockWords.{and_from, false_from_ne_true, beq, is_node_within, LockName, lock_name_cmp, is_within, Text, of_within, within_of, within}
use Rattle.mlock.proofs.LockWords.{lock_name_cmp_total, lock_name_cmp_exact, IsAbove, name_eq, is_under, common_steps}
use Rattle.mlock.proofs.Names.{parts, beq_same, same_beq}

-- the second name is the first with more subscripts
pub record Inside (a b : LockName) : Type 0 where
  pub kind : a.global ≡ b.global
  pub account : a.node.account ≡ b.node.account
  pub name : a.node.name ≡ b.node.name
  pub more : List Text
  pub subscripts : b.node.subscripts ≡ a.node.subscripts ++ more

pub inside : (a b : LockName) → is_within a b ≡ true → Inside a b
inside a b e =
    let is = and_parts (beq a.global b.global) (is_node_within a.node b.node) e in
    let p = parts a.node b.node (within_of a.node b.node is.1) in
    record { kind = beq_same a.global b.global is.0; account = p.account; name = p.name; more = p.more; subscripts = p.subscripts }

pub of_inside : (a b : LockName) → Inside a b → is_within a b ≡ true
of_inside a b i =
    and_from (beq a.global b.global) (is_node_within a.node b.node) (same_beq a.global b.global i.kind)
    (of_within a.node b.node (within a.node b.node i.more i.account i.name i.subscripts))

longer : (a b : LockName) → Inside a b → length a.node.subscripts ≤ length b.node.subscripts
longer a b i = let long : length b.node.subscripts ≡ length a.node.subscripts + length i.more = ap length i.subscripts ∙ length-append a.node.subscripts i.more in omega (arith, long)

pub same_name : (a b : LockName) → a.global ≡ b.global → a.node.account ≡ b.node.account → a.node.name ≡ b.node.name → a.node.subscripts ≡ b.node.subscripts → a ≡ b
same_name a b kind account name subs = λ i. record { global = kind i; node = record { account = account i; name = name i; subscripts = subs i } }

pub is_same : (a b : LockName) → name_eq a b ≡ true → a ≡ b
is_same a b e = lock_name_cmp_exact a b ((Equal-is (lock_name_cmp a b)).0 e)

pub same_is : (a b : LockName) → a ≡ b → name_eq a b ≡ true
same_is a b e = subst (λ n. name_eq a n ≡ true) e ((eq_by_cmp_equiv lock_name_cmp_total).refl a)

-- as many subscripts, and no more: the same name
whole : (a b : LockName) → (i : Inside a b) → length b.node.subscripts ≤ length a.node.subscripts → a ≡ b
whole a b i short = grind (arith, common_steps)

-- two names within each other are one
pub both_within : (a b : LockName) → is_within a b ≡ true → is_within b a ≡ true → a ≡ b
both_within a b e f = whole a b (inside a b e) (longer b a (inside b a f))

pub under : (a b : LockName) → is_under a b ≡ true → Inside a b × (length a.node.subscripts < length b.node.subscripts)
under a b e =
    let is = and_parts (is_within a b) (not (is_within b a)) e in
    let i = inside a b is.0 in
    elim (cases_lt (length a.node.subscripts) (length b.node.subscripts)) [
      | inl less ↦ (i, less)
      | inr short ↦
          let equal : a ≡ b = whole a b i short in
          absurd (true≢false (sym is.1 ∙ ap not (subst (λ n. is_within b n ≡ true) (sym equal) (subst (λ n. is_within n b ≡ true) equal is.0))))
    ]

pub of_under : (a b : LockName) → Inside a b → length a.node.subscripts < length b.node.subscripts → is_under a b ≡ true
of_under a b i less =
    and_from (is_within a b) (not (is_within b a)) (of_inside a b i)
    (ap not (false_from_ne_true (is_within b a) (λ back. let short : length b.node.subscripts ≤ length a.node.subscripts = longer b a (inside b a back) in absurd (omega (arith, short, less)))))

-- nothing is above a name without subscripts
pub none_above : (n b : LockName) → b.node.subscripts ≡ [] → is_under n b ≡ false
none_above n b none = false_from_ne_true (is_under n b) (λ e. let less = (under n b e).1 in let short : length b.node.subscripts ≡ 0 = ap length none in absurd (omega (arith, less, short)))

-- no name is below itself
pub not_itself : (n : LockName) → is_under n n ≡ false
not_itself n = false_from_ne_true (is_under n n) (λ e. let less = (under n n e).1 in absurd (omega (arith, less)))

module _ (above below : LockName) (next : IsAbove above below) where
  pub one_more : length below.node.subscripts ≡ length above.node.subscripts + 1
  one_more = ap length next.node.longer.1 ∙ length-append above.node.subscripts (next.node.longer.0 ∷ [])

  pub above_is : is_under above below ≡ true
  above_is =
      of_under above below (record { kind = next.kind; account = next.node.account; name = next.node.name; more = next.node.longer.0 ∷ []; subscripts = next.node.longer.1 })
      (omega (arith, one_more))

  to_above : (n : LockName) → name_eq above n ≡ false → is_under n below ≡ true → is_under n above ≡ true
  to_above n other e =
      let u = under n below e in
      let long : length n.node.subscripts ≤ length above.node.subscripts = omega (arith, u.1, one_more) in
      let k : ℕ = length above.node.subscripts - length n.node.subscripts in
      let sum : length above.node.subscripts ≡ length n.node.subscripts + k = omega (arith, long) in
      let subs : above.node.subscripts ≡ n.node.subscripts ++ take k u.0.more =
      sym (take-append_seam above.node.subscripts (next.node.longer.0 ∷ []))
      ∙ ap (take (length above.node.subscripts)) (sym next.node.longer.1 ∙ u.0.subscripts)
      ∙ ap (λ l. take l (n.node.subscripts ++ u.0.more)) sum
      ∙ take-append-add n.node.subscripts u.0.more k in
      let i : Inside n above = record { kind = u.0.kind ∙ sym next.kind; account = u.0.account ∙ sym next.node.account; name = u.0.name ∙ sym next.node.name; more = take k u.0.more; subscripts = subs } in
      elim (cases_lt (length n.node.subscripts) (length above.node.subscripts)) [
        | inl less ↦ of_under n above i less
        | inr short ↦ let equal : n ≡ above = whole n above i short in absurd (true≢false (sym (same_is above n (sym equal)) ∙ other))
      ]

  pub from_above : (n : LockName) → is_under n above ≡ true → is_under n below ≡ true
  from_above n e = grind (arith, common_steps)

  -- the names above a name are the next one and those above that
  pub others_above : (n : LockName) → name_eq above n ≡ false → is_under n below ≡ is_under n above
  others_above n other = both_ways (is_under n below) (is_under n above) (to_above n other) (from_above n)
