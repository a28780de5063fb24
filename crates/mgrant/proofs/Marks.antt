-- SPDX-License-Identifier: Apache-2.0
-- Marked places: one more, those that are led to from a place, and what is reached when there are no more.
use Rattle.mgrant.proofs.GrantWords.{◌≡◌, ◌↔◌, inl, inr, ℕ, zero, suc, ◌+◌, ◌-◌, ◌==◌, ◌<◌, ◌≤◌, Bool, true, false, cond, List, ◌∷◌, ◌++◌, length, get_or, set}
use Rattle.mgrant.proofs.GrantWords.{take, drop, All, refl, sym, ap, subst, ◌∙◌, arith, length-append, length-drop, length-take-le, add-zero, Any, sum_by}
use Rattle.mgrant.proofs.GrantWords.{count_by, nat_lt, nat_le, replicate, [], list_any, IsPartitionPoint, IsPermutation, cases_Bool, cases_eq, cases_lt}
use Rattle.mgrant.proofs.GrantWords.{false≢true, and_parts, and_from, ltb-true, ltb-false, leb-true, leb-false, eqb-true, eq-eqb, set-get_or, get_or-set_same}
use Rattle.mgrant.proofs.GrantWords.{get_or-set_other, get_or-take, get_or-drop, length-replicate, get_or_default, All-append, All-cons, All-nil}
use Rattle.mgrant.proofs.GrantWords.{Contains-append_left, Contains-append_right, Any-from_list_any, list_any_at, list_any-IsPermutation, sum_by-set, leads}
use Rattle.mgrant.proofs.GrantWords.{Leads, stays, goes, IsRun, IsStage, IsMore, Edge}
use Rattle.std.proofs.Math.ListN.{get_or-append}

-- ---- chains

-- one edge more, at the end
pub leads_on : (edges : List Edge) {x y z : ℕ} → Leads edges x y → list_any (leads y z) edges ≡ true → Leads edges x z
leads_on edges (stays x) e = goes e (stays _)
leads_on edges (goes first rest) e = goes first (leads_on edges rest e)

-- what is closed under edges has what its members lead to
pub closed_under : (edges : List Edge) (P : ℕ → Type 0) → ((y z : ℕ) → P y → list_any (leads y z) edges ≡ true → P z) → {x y : ℕ} → Leads edges x y → P x → P y
closed_under edges P closed (stays x) here = here
closed_under edges P closed (goes first rest) here = closed_under edges P closed rest (closed _ _ here first)

-- the order of the edges does not matter
pub leads_among : (es fs : List Edge) → IsPermutation es fs → {x y : ℕ} → Leads es x y → Leads fs x y
leads_among es fs same (stays x) = stays x
leads_among es fs same (goes {x = x} {y = y} first rest) = goes (sym (list_any-IsPermutation (leads x y) es fs same) ∙ first) (leads_among es fs same rest)

-- ---- one more mark

count_set : (marks : List Bool) (i : ℕ) → i < length marks → get_or marks i false ≡ false → count_by (λ b. b) (set marks i true) ≡ count_by (λ b. b) marks + 1
count_set marks i within new =
    let f : Bool → ℕ = λ b. cond b 1 0 in
    sym (add-zero (sum_by f (set marks i true))) ∙ ap (λ b. sum_by f (set marks i true) + f b) (sym new) ∙ sum_by-set f marks i true false within

marked_new : (edges : List Edge) (start : ℕ) (marks : List Bool) (order : List ℕ) (place : ℕ) → IsStage edges start marks order → place < length marks → Leads edges start place → get_or marks place false ≡ false
    → IsStage edges start (set marks place true) (order ++ place ∷ [])
marked_new edges start marks order place had within led new = record {
  listed = λ y marked.
      elim (cases_eq y place) [
        | inl same ↦ Contains-append_right order (place ∷ []) y (0, omega arith, sym same)
        | inr other ↦ Contains-append_left order (place ∷ []) y (had.listed y (sym (get_or-set_other marks place y true false other) ∙ marked))
      ];
  reached = All-append (Leads edges start) order (place ∷ []) had.reached (All-cons (Leads edges start) place [] led (All-nil (Leads edges start)));
  counted = let counted = had.counted in let more = count_set marks place within new in omega (arith, length-append order (place ∷ []));
  begun =
      elim (cases_eq start place) [
        | inl same ↦ subst (λ s. get_or (set marks place true) s false ≡ true) (sym same) (get_or-set_same marks place true false within)
        | inr other ↦ get_or-set_other marks place start true false other ∙ had.begun
      ];
}

unchanged : (marks : List Bool) (place : ℕ) → get_or marks place false ≡ true → set marks place true ≡ marks
unchanged marks place marked = ap (set marks place) (sym marked) ∙ set-get_or marks place false

pub stage_mark : (edges : List Edge) (start : ℕ) (marks : List Bool) (order : List ℕ) (place : ℕ) → IsStage edges start marks order → place < length marks → Leads edges start place
    → IsStage edges start (set marks place true) (cond (get_or marks place false) order (order ++ place ∷ []))
stage_mark edges start marks order place had within led =
    elim (cases_Bool (get_or marks place false)) [
      | inl marked ↦ subst (λ b. IsStage edges start (set marks place true) (cond b order (order ++ place ∷ []))) (sym marked) (subst (λ ms. IsStage edges start ms order) (sym (unchanged marks place marked)) had)
      | inr new ↦ subst (λ b. IsStage edges start (set marks place true) (cond b order (order ++ place ∷ []))) (sym new) (marked_new edges start marks order place had within led new)
    ]

longer : (order : List ℕ) (place : ℕ) (b : Bool) → length order ≤ length (cond b order (order ++ place ∷ []))
longer order place true = omega arith
longer order place false = omega (arith, length-append order (place ∷ []))

same_before : (order : List ℕ) (place : ℕ) (b : Bool) (k : ℕ) → k < length order → get_or (cond b order (order ++ place ∷ [])) k 0 ≡ get_or order k 0
same_before order place true k within = refl
same_before order place false k within = get_or-append order (place ∷ []) 0 k within

pub more_mark : (marks : List Bool) (order : List ℕ) (place : ℕ) → place < length marks → IsMore marks order (set marks place true) (cond (get_or marks place false) order (order ++ place ∷ []))
more_mark marks order place within = record {
  kept = λ y marked.
      elim (cases_eq y place) [
        | inl same ↦ subst (λ s. get_or (set marks place true) s false ≡ true) (sym same) (get_or-set_same marks place true false within)
        | inr other ↦ get_or-set_other marks place y true false other ∙ marked
      ];
  grown = longer order place (get_or marks place false);
  same = same_before order place (get_or marks place false);
}

pub more_on : (a b c : List Bool) (p q r : List ℕ) → IsMore a p b q → IsMore b q c r → IsMore a p c r
more_on a b c p q r first next = record {
  kept = λ y marked. next.kept y (first.kept y marked);
  grown = let one = first.grown in let two = next.grown in omega arith;
  same = λ k within. let one = first.grown in next.same k (omega arith) ∙ first.same k within;
}

-- ---- the steps from a place

run_at : (edges : List Edge) (first count k : ℕ) (d : Edge) → k < count → get_or (take count (drop first edges)) k d ≡ get_or edges (first + k) d
run_at edges first count k d within = get_or-take count (drop first edges) k d within ∙ get_or-drop first edges k d

pub run_is : (edges : List Edge) (place first count : ℕ) → first ≤ length edges → count ≤ length (drop first edges)
    → IsPartitionPoint (λ e. nat_lt e.source place ≡ true) (λ e. nat_lt e.source place ≡ false) edges first
    → IsPartitionPoint (λ e. nat_le e.source place ≡ true) (λ e. nat_le e.source place ≡ false) (drop first edges) count
    → IsRun edges place (take count (drop first edges))
run_is edges place first count low high below upto =
    let size : length (take count (drop first edges)) ≡ count = length-take-le count (drop first edges) high in
    let most : length (drop first edges) ≡ length edges - first = length-drop first edges in
    let here : (k : ℕ) (d : Edge) → k < count → (get_or edges (first + k) d).source ≡ place = λ k d within.
    let above : place ≤ (get_or edges (first + k) d).source = ltb-false (get_or edges (first + k) d).source place (below.1 (first + k) d (omega arith) (omega arith)) in
    let no_more : (get_or edges (first + k) d).source ≤ place = leb-true (get_or edges (first + k) d).source place (subst (λ e. nat_le e.source place ≡ true) (get_or-drop first edges k d) (upto.0 k d (omega arith) within)) in
    omega arith in
    record {
      from = λ k d within.
          let inside : k < count = omega arith in
          let same = run_at edges first count k d inside in
          list_any_at (leads place (get_or (take count (drop first edges)) k d).target) edges (first + k) d (omega arith)
          (and_from _ _ (eq-eqb place _ (sym (here k d inside))) (eq-eqb _ _ (ap (λ e. e.target) same)));
      each = λ z led.
          let (j, e, within, at, is) = Any-from_list_any (leads place z) edges led in
          let (source, target) = and_parts (place == e.source) (z == e.target) is in
          let begins : e.source ≡ place = sym (eqb-true place e.source source) in
          let low_enough : first ≤ j =
          elim (cases_lt j first) [
            | inl before ↦ absurd (omega (arith, ltb-true e.source place (subst (λ f. nat_lt f.source place ≡ true) at (below.0 j e (omega arith) before))))
            | inr fine ↦ fine
          ] in
          let k = j - first in
          let same : get_or (drop first edges) k e ≡ e = get_or-drop first edges k e ∙ ap (λ i. get_or edges i e) (omega arith) ∙ at in
          let inside : k < count =
          elim (cases_lt k count) [
            | inl fine ↦ fine
            | inr behind ↦ absurd (omega (arith, leb-false e.source place (subst (λ f. nat_le f.source place ≡ false) same (upto.1 k e behind (omega arith)))))
          ] in
          (k, e, omega arith, get_or-take count (drop first edges) k e inside ∙ same, sym (eqb-true z e.target target));
      within = λ n all k d inside. let fits : k < count = omega arith in subst (λ e. e.target < n) (sym (run_at edges first count k d fits)) (all (first + k) d (omega arith));
    }

-- ---- from the start to the end

get_or-replicate_default : (n y : ℕ) → get_or (replicate n false) y false ≡ false
get_or-replicate_default zero y = refl
get_or-replicate_default (suc n) zero = refl
get_or-replicate_default (suc n) (suc y) = get_or-replicate_default n y

count_none : (n : ℕ) → count_by (λ b. b) (replicate n false) ≡ 0
count_none zero = refl
count_none (suc n) = count_none n

-- the start alone
pub stage_begun : (edges : List Edge) (n start : ℕ) → start < n → IsStage edges start (set (replicate n false) start true) (cond (get_or (replicate n false) start false) [] ([] ++ start ∷ []))
stage_begun edges n start within =
    let clear : (y : ℕ) → get_or (replicate n false) y false ≡ false = λ y. get_or-replicate_default n y in
    let size : start < length (replicate n false) = rw (length-replicate n false) within in
    subst (λ b. IsStage edges start (set (replicate n false) start true) (cond b [] (start ∷ []))) (sym (clear start)) record {
      listed = λ y marked.
          elim (cases_eq y start) [
            | inl same ↦ (0, omega arith, sym same)
            | inr other ↦ absurd (false≢true (sym (clear y) ∙ sym (get_or-set_other (replicate n false) start y true false other) ∙ marked))
          ];
      reached = All-cons (Leads edges start) start [] (stays start) (All-nil (Leads edges start));
      counted = sym (count_set (replicate n false) start size (clear start) ∙ ap (λ k. k + 1) (count_none n));
      begun = get_or-set_same (replicate n false) start true false size;
    }

-- all that is listed has been followed
pub spread_all : (edges : List Edge) (start : ℕ) (marks : List Bool) (order : List ℕ) (turn : ℕ) → IsStage edges start marks order → length order ≤ turn
    → ((k : ℕ) → k < turn → (z : ℕ) → list_any (leads (get_or order k 0) z) edges ≡ true → get_or marks z false ≡ true)
    → (y : ℕ) → (get_or marks y false ≡ true) ↔ Leads edges start y
spread_all edges start marks order turn stage done closed y = (
  λ marked. let (k, within, at) = stage.listed y marked in subst (Leads edges start) at (stage.reached k y within),
  λ led. closed_under edges (λ x. get_or marks x false ≡ true) (λ x z marked one.
      let (k, within, at) = stage.listed x marked in
      closed k (omega arith) z (subst (λ v. list_any (leads v z) edges ≡ true) (sym at ∙ get_or_default order k x 0 within) one)) led stage.begun,
)

-- one more place has been followed
pub turn_closed : (edges run : List Edge) (place turn : ℕ) (marks marks' : List Bool) (order order' : List ℕ) → turn < length order → get_or order turn 0 ≡ place → IsMore marks order marks' order'
    → ((z : ℕ) → list_any (leads place z) edges ≡ true → Any (λ e. e.target ≡ z) run) → All (λ e. get_or marks' e.target false ≡ true) run
    → ((k : ℕ) → k < turn → (z : ℕ) → list_any (leads (get_or order k 0) z) edges ≡ true → get_or marks z false ≡ true)
    → (k : ℕ) → k < turn + 1 → (z : ℕ) → list_any (leads (get_or order' k 0) z) edges ≡ true → get_or marks' z false ≡ true
turn_closed edges run place turn marks marks' order order' within at more each marked closed k low z led =
    let old : list_any (leads (get_or order k 0) z) edges ≡ true = subst (λ v. list_any (leads v z) edges ≡ true) (more.same k (omega arith)) led in
    elim (cases_lt k turn) [
      | inl before ↦ more.kept z (closed k before z old)
      | inr last ↦
          let same : k ≡ turn = omega arith in
          let (j, e, inside, here, is) = each z (subst (λ v. list_any (leads v z) edges ≡ true) (ap (λ i. get_or order i 0) same ∙ at) old) in
          ap (λ v. get_or marks' v false) (sym (ap (λ f. f.target) here ∙ is)) ∙ marked j e inside
    ]
