-- SPDX-License-Identifier: Apache-2.0
-- Copies of a string, one taken off after another from the end.
use Rattle.mtext.proofs.TextWords.{ℕ, zero, suc, ◌≡◌, ◌+◌, ◌-◌, ◌*◌, ◌<◌, ◌≤◌, inl, inr, true, false, Bool, List, ◌∷◌, ◌++◌, get_or, length, sym, subst, ◌∙◌}
use Rattle.mtext.proofs.TextWords.{ap, arith, append_assoc, append-nil, slice_range, Decides, Result, Ok, Err, Vec, IfOk, [], cases_eq, length-between}
use Rattle.mtext.proofs.TextWords.{between_none, Count, IsAtMost, copied, copies, IsEnd, IsBefore, IsCopied, IsCopiedTo, IsNumber, IsFewest, AreCopiesBefore}
use Rattle.mtext.proofs.TextWords.{CopiesBefore, AreEnds, length-append}
use Rattle.mspec.proofs.Basics.{copies_fit as so_many_fit, nothing_copied}
use Rattle.mtext.proofs.PatternSlices.{part_split, joined_front, joined_rest, fewer_at_most}

pub copied_last : (n : ℕ) (string : List ℕ) → copied (suc n) string ≡ copied n string ++ string
copied_last zero string = append-nil string
copied_last (suc n) string = ap (λ t. string ++ t) (copied_last n string) ∙ sym (append_assoc string (copied n string) string)

copies_fit : (text string : List ℕ) (place n : ℕ) → place ≤ length text → 0 < length string → IsCopied text string place n → n ≤ place
copies_fit text [] place n within some e = absurd (omega arith)
copies_fit text (c ∷ string) place n within some e =
    let size : length (slice_range text e.0 place) ≡ place - e.0 = length-between text e.0 place within in
    let same : length (slice_range text e.0 place) ≡ length (copied n (c ∷ string)) = ap length e.2 in
    let long : n ≤ length (copied n (c ∷ string)) = so_many_fit n c string in
    omega arith

pub number_fits : (text string : List ℕ) (starts : List Bool) (place number : ℕ) → place ≤ length text → 0 < length string →
    IsNumber text string starts place number → number ≤ place
number_fits text string starts place number within some is = copies_fit text string place number within some (is.stand number (omega arith))

-- one copy more is before the place
longer : (text string : List ℕ) (place n start : ℕ) → IsBefore text string place → start ≤ place - length string →
    slice_range text start (place - length string) ≡ copied n string → slice_range text start place ≡ copied (suc n) string
longer text string place n start before low e =
    let room : length string ≤ place = before.0 in
    part_split text start (place - length string) place low (omega arith) ∙ ap (λ t. slice_range text start (place - length string) ++ t) before.1
    ∙ ap (λ t. t ++ string) e ∙ sym (copied_last n string)

copied_more : (text string : List ℕ) (place n : ℕ) → IsBefore text string place →
    IsCopied text string (place - length string) n → IsCopied text string place (suc n)
copied_more text string place n before (start, low, e) = (start, omega arith, longer text string place n start before low e)

one_more : (text string : List ℕ) (starts : List Bool) (place n : ℕ) → IsBefore text string place →
    IsCopiedTo text string starts (place - length string) n → IsCopiedTo text string starts place (suc n)
one_more text string starts place n before (start, low, is, e) = (start, omega arith, is, longer text string place n start before low e)

record IsOneFewer (text string : List ℕ) (starts : List Bool) (place n : ℕ) : Type 0 where
  pub last : IsBefore text string place
  pub first : IsCopiedTo text string starts (place - length string) n

one_fewer : (text string : List ℕ) (starts : List Bool) (place n : ℕ) → place ≤ length text → IsCopiedTo text string starts place (suc n) → IsOneFewer text string starts place n
one_fewer text string starts place n within (s, low, is, e) =
    let whole : slice_range text s place ≡ copied n string ++ string = e ∙ copied_last n string in
    let size : length (slice_range text s place) ≡ place - s = length-between text s place within in
    let sum : length (slice_range text s place) ≡ length (copied n string) + length string = ap length whole ∙ length-append (copied n string) string in
    let part : length (slice_range text s (place - length string)) ≡ place - length string - s = length-between text s (place - length string) (omega arith) in
    let joined : slice_range text s (place - length string) ++ slice_range text (place - length string) place ≡ copied n string ++ string =
    sym (part_split text s (place - length string) place (omega arith) (omega arith)) ∙ whole in
    let front : slice_range text s (place - length string) ≡ copied n string =
    joined_front (slice_range text s (place - length string)) (slice_range text (place - length string) place) (copied n string) string joined (omega arith) in
    let rest : slice_range text (place - length string) place ≡ string =
    joined_rest (slice_range text s (place - length string)) (slice_range text (place - length string) place) (copied n string) string joined (omega arith) in
    record { last = (omega arith, rest); first = (s, omega arith, is, front) }

-- ---- how many copies, and the fewest that serve

length-copied : (n : ℕ) (string : List ℕ) → length (copied n string) ≡ n * length string
length-copied zero string = omega arith
length-copied (suc n) string =
    let rest : length (copied n string) ≡ n * length string = length-copied n string in
    let sum : length (string ++ copied n string) ≡ length string + length (copied n string) = length-append string (copied n string) in
    let more : suc n * length string ≡ length string + n * length string = omega arith in
    omega arith

-- where copies start
copies_start : (text string : List ℕ) (place n start : ℕ) → place ≤ length text → start ≤ place → slice_range text start place ≡ copied n string →
    start + n * length string ≡ place
copies_start text string place n start within low e =
    let size : length (slice_range text start place) ≡ place - start = length-between text start place within in
    let same : length (slice_range text start place) ≡ n * length string = ap length e ∙ length-copied n string in
    omega arith

pub copies_end : (text string : List ℕ) (place n : ℕ) → place ≤ length text → IsCopied text string place n → n * length string ≤ place
copies_end text string place n within e =
    let at : e.0 + n * length string ≡ place = copies_start text string place n e.0 within e.1 e.2 in
    omega arith

-- copies that stand are counted from a start that is marked
pub copied_to : (text string : List ℕ) (starts : List Bool) (place n : ℕ) → place ≤ length text → IsCopied text string place n →
    get_or starts (place - n * length string) false ≡ true → IsCopiedTo text string starts place n
copied_to text string starts place n within (start, low, e) is =
    let at : start + n * length string ≡ place = copies_start text string place n start within low e in
    let same : start ≡ place - n * length string = omega arith in
    (start, low, ap (λ k. get_or starts k false) same ∙ is, e)

pub copied_from : (text string : List ℕ) (starts : List Bool) (place n : ℕ) → place ≤ length text → IsCopiedTo text string starts place n →
    get_or starts (place - n * length string) false ≡ true
copied_from text string starts place n within (start, low, is, e) =
    let at : start + n * length string ≡ place = copies_start text string place n start within low e in
    let same : start ≡ place - n * length string = omega arith in
    sym (ap (λ k. get_or starts k false) same) ∙ is

module _ (text string : List ℕ) (least : ℕ) (starts : List Bool) (place : ℕ) (within : place ≤ length text) where
  -- without a copy right before the place
  module _ (without : IsBefore text string place → ⊥) where
    number_without : IsNumber text string starts place 0
    number_without = record { stand = stand; most = most }
      where
        stand : (n : ℕ) → n ≤ 0 → IsCopied text string place n
        stand zero h = (place, omega arith, between_none text place)
        stand (suc n) h = absurd (omega arith)

        most : (n : ℕ) → IsCopiedTo text string starts place n → n ≤ 0
        most zero e = omega arith
        most (suc n) e = absurd (without (IsOneFewer.last (one_fewer text string starts place n within e)))

    fewest_without : IsFewest text string (least + 1) starts place 0 1
    fewest_without = record { near = omega arith; serve = λ h. absurd (omega arith); each = λ n h e. absurd (below n h e) }
      where
        below : (n : ℕ) → least + 1 ≤ n → IsCopiedTo text string starts place n → ⊥
        below zero h e = omega arith
        below (suc n) h e = without (IsOneFewer.last (one_fewer text string starts place n within e))

    pub above_without : (found : CopiesBefore) → found ≡ record { number = 0; fewest = 1 } → AreCopiesBefore text string (least + 1) starts place found
    above_without found is =
        subst (AreCopiesBefore text string (least + 1) starts place) (sym is) (number_without, fewest_without)

  -- with one
  module _ (before : IsBefore text string place) where
    number_more : (number : ℕ) → IsNumber text string starts (place - length string) number → IsNumber text string starts place (number + 1)
    number_more number is = record { stand = stand; most = most }
      where
        stand : (n : ℕ) → n ≤ number + 1 → IsCopied text string place n
        stand zero h = (place, omega arith, between_none text place)
        stand (suc n) h = copied_more text string place n before (is.stand n (omega arith))

        most : (n : ℕ) → IsCopiedTo text string starts place n → n ≤ number + 1
        most zero e = omega arith
        most (suc n) e = let few : n ≤ number = is.most n (IsOneFewer.first (one_fewer text string starts place n within e)) in omega arith

    fewest_more : (number fewest : ℕ) → IsFewest text string least starts (place - length string) number fewest →
        IsFewest text string (least + 1) starts place (number + 1) (fewest + 1)
    fewest_more number fewest is = record { near = let near : fewest ≤ number + 1 = is.near in omega arith; serve = serve; each = each }
      where
        serve : fewest + 1 ≤ number + 1 → (least + 1 ≤ fewest + 1) × IsCopiedTo text string starts place (fewest + 1)
        serve h =
            let few : (least ≤ fewest) × IsCopiedTo text string starts (place - length string) fewest = is.serve (omega arith) in
            let more : suc fewest ≡ fewest + 1 = omega arith in
            (omega (arith, few.0), subst (λ n. IsCopiedTo text string starts place n) more (one_more text string starts place fewest before few.1))

        each : (n : ℕ) → least + 1 ≤ n → IsCopiedTo text string starts place n → fewest + 1 ≤ n
        each zero h e = absurd (omega arith)
        each (suc n) h e = let few : fewest ≤ n = is.each n (omega arith) (IsOneFewer.first (one_fewer text string starts place n within e)) in omega arith

    pub above_more : (last found : CopiesBefore) → found ≡ record { number = last.number + 1; fewest = last.fewest + 1 } →
        AreCopiesBefore text string least starts (place - length string) last → AreCopiesBefore text string (least + 1) starts place found
    above_more last found is known =
        subst (AreCopiesBefore text string (least + 1) starts place) (sym is)
        (number_more last.number known.0, fewest_more last.number last.fewest known.1)

  -- the least number serves, or it does not
  pub fewest_least : (number : ℕ) → least ≤ number → IsCopiedTo text string starts place least → IsFewest text string least starts place number least
  fewest_least number h e = record { near = omega arith; serve = λ k. (omega arith, e); each = λ n k f. k }

  pub fewest_above : (number fewest : ℕ) → (IsCopiedTo text string starts place least → ⊥) →
      IsFewest text string (least + 1) starts place number fewest → IsFewest text string least starts place number fewest
  fewest_above number fewest not_at is = record {
    near = is.near;
    serve = λ h. let few : (least + 1 ≤ fewest) × IsCopiedTo text string starts place fewest = is.serve h in (omega (arith, few.0), few.1);
    each = λ n h e. elim (cases_eq least n) [
      | inl same ↦ absurd (not_at (subst (λ k. IsCopiedTo text string starts place k) (sym same) e))
      | inr other ↦ is.each n (omega arith) e
    ];
  }

-- whether the fewest serve and are few enough says whether any are
pub ends_by_fewest : (text string : List ℕ) (count : Count) (starts : List Bool) (place number fewest : ℕ) (b : Bool) →
    IsNumber text string starts place number → IsFewest text string count.least starts place number fewest →
    Decides b ((fewest ≤ number) × IsAtMost count.most fewest) → Decides b (IsEnd text count (copies string) starts place)
ends_by_fewest text string count starts place number fewest b all is few = (
  λ h. let serve = is.serve (few.0 h).0 in (serve.1.0, serve.1.1, serve.1.2, (fewest, (serve.0, (few.0 h).1), serve.1.3)),
  λ e.
      let to : IsCopiedTo text string starts place e.3.0 = (e.0, e.1, e.2, e.3.2) in
      let some : e.3.0 ≤ number = all.most e.3.0 to in
      let fewer : fewest ≤ e.3.0 = is.each e.3.0 e.3.1.0 to in
      few.1 (omega arith, fewer_at_most count.most e.3.0 fewest fewer e.3.1.1),
)

-- ---- copies of the empty string are empty

nothing_ends : (text string : List ℕ) (count : Count) (starts : List Bool) (place : ℕ) → length string ≡ 0 →
    (get_or starts place false ≡ true) × IsAtMost count.most count.least → IsEnd text count (copies string) starts place
nothing_ends text [] count starts place none is =
    (place, omega arith, is.0, (count.least, (omega arith, is.1), between_none text place ∙ sym (nothing_copied count.least)))
nothing_ends text (c ∷ string) count starts place none is = absurd (omega arith)

nothing_stays : (text string : List ℕ) (count : Count) (starts : List Bool) (place : ℕ) → length string ≡ 0 → place ≤ length text →
    IsEnd text count (copies string) starts place → (get_or starts place false ≡ true) × IsAtMost count.most count.least
nothing_stays text [] count starts place none within (s, low, is, (n, permitted, e)) =
    let size : length (slice_range text s place) ≡ place - s = length-between text s place within in
    let empty : length (slice_range text s place) ≡ 0 = ap length (e ∙ nothing_copied n) in
    let same : s ≡ place = omega arith in
    (sym (ap (λ k. get_or starts k false) same) ∙ is, fewer_at_most count.most n count.least permitted.0 permitted.1)
nothing_stays text (c ∷ string) count starts place none within e = absurd (omega arith)

pub ends_at_starts_if : {Z E : Type 0} (text string : List ℕ) (count : Count) (starts : List Bool) (outcome : Result (Vec Bool Z) E) → length string ≡ 0 → length starts ≡ length text + 1 →
    IfOk outcome (λ ends. length ends.items ≡ length starts) →
    IfOk outcome (λ ends. (k : ℕ) → k < length starts → Decides (get_or ends.items k false) ((get_or starts k false ≡ true) × IsAtMost count.most count.least)) →
    IfOk outcome (λ ends. AreEnds text count (copies string) starts ends.items)
ends_at_starts_if text string count starts (Ok ends) none whole size each = record {
  size = size ∙ whole;
  each = λ place within. (
    λ h. nothing_ends text string count starts place none ((each place (omega arith)).0 h),
    λ e. (each place (omega arith)).1 (nothing_stays text string count starts place none within e),
  );
}
ends_at_starts_if text string count starts (Err e) none whole size each = tt
