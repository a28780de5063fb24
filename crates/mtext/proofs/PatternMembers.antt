-- SPDX-License-Identifier: Apache-2.0
-- Runs of characters of classes: where they end, from the latest place at which they may start.
use Rattle.mtext.proofs.TextWords.{ℕ, zero, suc, ◌≡◌, ◌+◌, ◌-◌, ◌<◌, ◌≤◌, inl, inr, true, false, Bool, List, [], ◌∷◌, get_or, length, sym, subst, ◌∙◌, ap}
use Rattle.mtext.proofs.TextWords.{arith, true≢false, below_more, add-sub_cancel, Option, Some, None, slice_range, Decides, cases_lt, length-between}
use Rattle.mtext.proofs.TextWords.{get_or-between, AllAre, PatternCode, Count, IsAtMost, is_in_any, members, IsNear, IsEnd}
use Rattle.mtext.proofs.PatternSlices.{fewer_at_most}

pub all_at : (p : ℕ → Bool) (s : List ℕ) → AllAre p s → (k : ℕ) → k < length s → p (get_or s k 0) ≡ true
all_at p [] all k h = absurd (omega arith)
all_at p (c ∷ s) all zero h = all.0
all_at p (c ∷ s) all (suc k) h = all_at p s all.1 k (omega arith)

pub all_from : (p : ℕ → Bool) (s : List ℕ) → ((k : ℕ) → k < length s → p (get_or s k 0) ≡ true) → AllAre p s
all_from p [] each = tt
all_from p (c ∷ s) each = (each 0 (omega arith), all_from p s (λ k h. each (suc k) (omega arith)))

-- the last marked place that is at least so far below another
abbrev pub IsLatest : List Bool → ℕ → ℕ → Option ℕ → Type 0
IsLatest starts least place None = (k : ℕ) → k + least < place → get_or starts k false ≡ false
IsLatest starts least place (Some s) = (s + least < place) × (get_or starts s false ≡ true) × ((k : ℕ) → s < k → k + least < place → get_or starts k false ≡ false)

pub latest_new : (starts : List Bool) (least place : ℕ) → least ≤ place → get_or starts (place - least) false ≡ true → IsLatest starts least (place + 1) (Some (place - least))
latest_new starts least place h is = (omega arith, is, λ k above below. absurd (omega arith))

-- no place is marked after those that were none before, up to the next
none_next : (starts : List Bool) (least place k : ℕ) → (k + least < place → get_or starts k false ≡ false) → (least ≤ place → get_or starts (place - least) false ≡ false)
    → k + least < place + 1 → get_or starts k false ≡ false
none_next starts least place k before not_here below =
    elim (cases_lt (k + least) place) [
      | inl earlier ↦ before earlier
      | inr after ↦ let here : k ≡ place - least = omega arith in subst (λ n. get_or starts n false ≡ false) (sym here) (not_here (omega arith))
    ]

pub latest_kept : (starts : List Bool) (least place : ℕ) (latest : Option ℕ) → IsLatest starts least place latest →
    (least ≤ place → get_or starts (place - least) false ≡ false) → IsLatest starts least (place + 1) latest
latest_kept starts least place None old not_here = λ k below. none_next starts least place k (old k) not_here below
latest_kept starts least place (Some s) old not_here = (omega (arith, old.0), old.1, λ k above below. none_next starts least place k (old.2 k above) not_here below)

-- the run from `first` on cannot be longer
pub record IsRun (p : ℕ → Bool) (text : List ℕ) (first place : ℕ) : Type 0 where
  pub within : first ≤ place
  pub each : (k : ℕ) → first ≤ k → k < place → k < length text → p (get_or text k 0) ≡ true
  pub barred : 0 < first → p (get_or text (first - 1) 0) ≡ false

pub run_anew : (p : ℕ → Bool) (text : List ℕ) (place : ℕ) → p (get_or text place 0) ≡ false → IsRun p text (place + 1) (place + 1)
run_anew p text place not_in = record {
  within = omega arith;
  each = λ k above below in'. absurd (omega arith);
  barred = λ h. ap (λ n. p (get_or text n 0)) (add-sub_cancel place 1) ∙ not_in;
}

pub run_more : (p : ℕ → Bool) (text : List ℕ) (first place : ℕ) → IsRun p text first place → (place < length text → p (get_or text place 0) ≡ true) → IsRun p text first (place + 1)
run_more p text first place run here = record {
  within = omega (arith, run.within);
  each = λ k above below. below_more (λ k. first ≤ k → k < length text → p (get_or text k 0) ≡ true) place (λ j lower from in'. run.each j from lower in') (λ from in'. here in') k below above;
  barred = run.barred;
}

run_from : (p : ℕ → Bool) (text : List ℕ) (first place start : ℕ) → IsRun p text first place → start ≤ place → place ≤ length text →
    AllAre p (slice_range text start place) → first ≤ start
run_from p text first place start run h within all =
    elim (cases_lt start first) [
      | inl late ↦
          let before : first ≤ place = run.within in
          let at : start + (first - 1 - start) ≡ first - 1 = omega arith in
          let size : length (slice_range text start place) ≡ place - start = length-between text start place within in
          let is : p (get_or (slice_range text start place) (first - 1 - start) 0) ≡ true = all_at p (slice_range text start place) all (first - 1 - start) (omega arith) in
          let same : get_or (slice_range text start place) (first - 1 - start) 0 ≡ get_or text (first - 1) 0 =
          get_or-between text start place (first - 1 - start) 0 (omega arith) ∙ ap (λ n. get_or text n 0) at in
          let there : p (get_or text (first - 1) 0) ≡ true = sym (ap p same) ∙ is in
          let barred : p (get_or text (first - 1) 0) ≡ false = run.barred (omega arith) in
          absurd (true≢false (sym there ∙ barred))
      | inr early ↦ early
    ]

run_of : (p : ℕ → Bool) (text : List ℕ) (first place start : ℕ) → IsRun p text first place → first ≤ start → start ≤ place → place ≤ length text →
    AllAre p (slice_range text start place)
run_of p text first place start run h below within =
    let size : length (slice_range text start place) ≡ place - start = length-between text start place within in
    all_from p (slice_range text start place) (λ k in'.
    ap p (get_or-between text start place k 0 (omega arith)) ∙ run.each (start + k) (omega arith) (omega arith) (omega arith))

-- from the latest start there is the shortest run
pub ends_here : (text : List ℕ) (codes : List PatternCode) (count : Count) (starts : List Bool) (first place : ℕ) (latest : Option ℕ) (b : Bool) →
    place ≤ length text → IsRun (is_in_any codes) text first place → IsLatest starts count.least (place + 1) latest → Decides b (IsNear count.most latest first place) →
    Decides b (IsEnd text count (members codes) starts place)
ends_here text codes count starts first place None b within run latest near = (
  λ h. absurd (near.0 h),
  λ e.
      let size : length (slice_range text e.0 place) ≡ place - e.0 = length-between text e.0 place within in
      let far : count.least ≤ length (slice_range text e.0 place) = e.3.1.0 in
      let none : get_or starts e.0 false ≡ false = latest e.0 (omega (arith, e.1)) in
      absurd (true≢false (sym e.2 ∙ none)),
)
ends_here text codes count starts first place (Some s) b within run latest near =
    let at : length (slice_range text s place) ≡ place - s = length-between text s place within in
    let below : s + count.least < place + 1 = latest.0 in (
      λ h.
          let is : (first ≤ s) × IsAtMost count.most (place - s) = near.0 h in
          (s, omega arith, latest.1, (run_of (is_in_any codes) text first place s run is.0 (omega arith) within, (omega arith, subst (λ n. IsAtMost count.most n) (sym at) is.1))),
      λ e.
          let size : length (slice_range text e.0 place) ≡ place - e.0 = length-between text e.0 place within in
          let far : count.least ≤ length (slice_range text e.0 place) = e.3.1.0 in
          let under : e.0 ≤ place = e.1 in
          let not_later : e.0 ≤ s = elim (cases_lt s e.0) [
            | inl later ↦ absurd (true≢false (sym e.2 ∙ latest.2 e.0 later (omega arith)))
            | inr before ↦ before
          ] in
          let from : first ≤ e.0 = run_from (is_in_any codes) text first place e.0 run under within e.3.0 in
          near.1 (omega arith, fewer_at_most count.most (place - e.0) (place - s) (omega arith) (subst (λ n. IsAtMost count.most n) size e.3.1.1)),
    )
