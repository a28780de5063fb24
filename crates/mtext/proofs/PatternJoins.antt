-- SPDX-License-Identifier: Apache-2.0
-- A pattern with one more atom at its end.
use Rattle.mtext.proofs.TextWords.{ℕ, ◌≡◌, ◌+◌, ◌-◌, ◌<◌, ◌≤◌, true, false, Bool, List, ◌∷◌, ◌++◌, get_or, take, length, refl, sym, subst, ◌∙◌, ap, arith}
use Rattle.mtext.proofs.TextWords.{append_assoc, append-nil, true≢false, eqb-true, take_all, slice_range, between_none, length-between, [], inl, inr, Atom}
use Rattle.mtext.proofs.TextWords.{IsSegment, Matches, IsLed, AreLed, AreFirst, length-append}
use Rattle.std.specs.Prelude.{Decides, ◌||◌, ◌↔◌, ◌⊎◌}
use Rattle.mtext.proofs.PatternSlices.{part_split, joined_front, joined_rest}

-- a text is matched by the first atoms, and then by the last one
pub record IsByLast (atoms : List Atom) (last : Atom) (text : List ℕ) : Type 0 where
  pub front : List ℕ
  pub rest : List ℕ
  pub joined : text ≡ front ++ rest
  pub first : Matches atoms front
  pub then' : IsSegment last rest

pub by_last : (atoms : List Atom) (last : Atom) (text : List ℕ) → Matches (atoms ++ last ∷ []) text → IsByLast atoms last text
by_last [] last text m = record { front = []; rest = text; joined = refl; first = refl; then' = subst (λ t. IsSegment last t) (sym (m.2 ∙ ap (λ t. m.0 ++ t) m.4 ∙ append-nil m.0)) m.3 }
by_last (atom ∷ atoms) last text m =
    let more : IsByLast atoms last m.1 = by_last atoms last m.1 m.4 in
    record {
      front = m.0 ++ more.front;
      rest = more.rest;
      joined = m.2 ∙ ap (λ t. m.0 ++ t) more.joined ∙ sym (append_assoc m.0 more.front more.rest);
      first = (m.0, more.front, refl, m.3, more.first);
      then' = more.then';
    }

pub from_last : (atoms : List Atom) (last : Atom) (front rest : List ℕ) → Matches atoms front → IsSegment last rest → Matches (atoms ++ last ∷ []) (front ++ rest)
from_last [] last front rest m segment = (rest, [], ap (λ t. t ++ rest) m ∙ sym (append-nil rest), segment, refl)
from_last (atom ∷ atoms) last front rest m segment =
    (m.0, m.1 ++ rest, ap (λ t. t ++ rest) m.2 ∙ append_assoc m.0 m.1 rest, m.3, from_last atoms last m.1 rest m.4 segment)

-- ---- what leads from marked places to others

-- what leads from the marked places is in two parts, with a marked place between
module _ (text : List ℕ) (P Q R : List ℕ → Type 0) (starts mids : List Bool) (first : AreLed text P starts mids) where
  joined_to : ((front last : List ℕ) → P front → Q last → R (front ++ last)) → (place : ℕ) → place ≤ length text → IsLed text Q mids place → IsLed text R starts place
  joined_to joins place within e =
      let below : e.0 ≤ place = e.1 in
      let f : IsLed text P starts e.0 = (first.each e.0 (omega arith)).0 e.2 in
      let under : f.0 ≤ e.0 = f.1 in
      (f.0, omega arith, f.2, subst R (sym (part_split text f.0 e.0 place f.1 e.1)) (joins (slice_range text f.0 e.0) (slice_range text e.0 place) f.3 e.3))

  pub joined_from : ((whole : List ℕ) → R whole → (front : List ℕ) × (last : List ℕ) × (whole ≡ front ++ last) × P front × Q last) → (place : ℕ) → place ≤ length text
      → IsLed text R starts place → IsLed text Q mids place
  joined_from parts place within e =
      let below : e.0 ≤ place = e.1 in
      let cut = parts (slice_range text e.0 place) e.3 in
      let front = cut.0 in
      let last = cut.1 in
      let size : length (slice_range text e.0 place) ≡ place - e.0 = length-between text e.0 place within in
      let sum : length (slice_range text e.0 place) ≡ length front + length last = ap length cut.2 ∙ length-append front last in
      let mid : ℕ = e.0 + length front in
      let low : e.0 ≤ mid = omega arith in
      let high : mid ≤ place = omega arith in
      let part : length (slice_range text e.0 mid) ≡ mid - e.0 = length-between text e.0 mid (omega arith) in
      let same : slice_range text e.0 mid ++ slice_range text mid place ≡ front ++ last = sym (part_split text e.0 mid place low high) ∙ cut.2 in
      let is_front : slice_range text e.0 mid ≡ front = joined_front (slice_range text e.0 mid) (slice_range text mid place) front last same (omega arith) in
      let is_last : slice_range text mid place ≡ last = joined_rest (slice_range text e.0 mid) (slice_range text mid place) front last same (omega arith) in
      (mid, high, (first.each mid (omega arith)).1 (e.0, low, e.2, subst P (sym is_front) cut.3), subst Q (sym is_last) cut.4)

  pub led_joined : (ends : List Bool) → AreLed text Q mids ends → ((front last : List ℕ) → P front → Q last → R (front ++ last))
      → ((whole : List ℕ) → R whole → (front : List ℕ) × (last : List ℕ) × (whole ≡ front ++ last) × P front × Q last) → AreLed text R starts ends
  led_joined ends then' joins parts = record {
    size = then'.size;
    each = λ place within. (λ h. joined_to joins place within ((then'.each place within).0 h), λ e. (then'.each place within).1 (joined_from parts place within e));
  }

-- what is so for one reason or for another
pub led_either : (text : List ℕ) (P Q R : List ℕ → Type 0) (starts ones others ends : List Bool) → AreLed text P starts ones → AreLed text Q starts others
    → length ends ≡ length ones → ((k : ℕ) → k < length ones → get_or ends k false ≡ (get_or ones k false || get_or others k false))
    → ((t : List ℕ) → P t → R t) → ((t : List ℕ) → Q t → R t) → ((t : List ℕ) → R t → P t ⊎ Q t) → AreLed text R starts ends
led_either text P Q R starts ones others ends one other size each left right either = record {
  size = size ∙ one.size;
  each = λ place within.
      let here = each place (omega (arith, one.size, within)) in (
        λ h. either_true (get_or ones place false) (get_or others place false) (sym here ∙ h)
            (λ is. let e = (one.each place within).0 is in (e.0, e.1, e.2, left (slice_range text e.0 place) e.3))
            (λ is. let e = (other.each place within).0 is in (e.0, e.1, e.2, right (slice_range text e.0 place) e.3)),
        λ e. here ∙ elim (either (slice_range text e.0 place) e.3) [
          | inl p ↦ left_true (get_or ones place false) (get_or others place false) ((one.each place within).1 (e.0, e.1, e.2, p))
          | inr q ↦ right_true (get_or ones place false) (get_or others place false) ((other.each place within).1 (e.0, e.1, e.2, q))
        ],
      );
} where
  either_true : {A : Type 0} (a b : Bool) → (a || b) ≡ true → (a ≡ true → A) → (b ≡ true → A) → A
  either_true true b e f g = f refl
  either_true false b e f g = g e

  left_true : (a b : Bool) → a ≡ true → (a || b) ≡ true
  left_true true b e = refl
  left_true false b e = absurd cc

  right_true : (a b : Bool) → b ≡ true → (a || b) ≡ true
  right_true true b e = refl
  right_true false b e = e

-- what is so exactly if something else is
pub led_alike : (text : List ℕ) (P Q : List ℕ → Type 0) (starts ends : List Bool) → AreLed text P starts ends → ((t : List ℕ) → length t ≤ length text → P t ↔ Q t) → AreLed text Q starts ends
led_alike text P Q starts ends led alike = record {
  size = led.size;
  each = λ place within.
      let small = λ (start : ℕ). let size = length-between text start place within in let le : length (slice_range text start place) ≤ length text = omega (arith, size, within) in le in (
        λ h. let e = (led.each place within).0 h in (e.0, e.1, e.2, (alike (slice_range text e.0 place) (small e.0)).0 e.3),
        λ e. (led.each place within).1 (e.0, e.1, e.2, (alike (slice_range text e.0 place) (small e.0)).1 e.3),
      );
}

-- nothing leads to where it begins
pub led_nowhere : (text : List ℕ) (starts : List Bool) → length starts ≡ length text + 1 → AreLed text (λ t. t ≡ []) starts starts
led_nowhere text starts size = record {
  size = size;
  each = λ place within. (
    λ h. (place, omega arith, h, between_none text place),
    λ e.
        let low : e.0 ≤ place = e.1 in
        let size : length (slice_range text e.0 place) ≡ place - e.0 = length-between text e.0 place within in
        let none : length (slice_range text e.0 place) ≡ 0 = ap length e.3 in
        let same : e.0 ≡ place = omega arith in
        sym (ap (λ k. get_or starts k false) same) ∙ e.2,
  );
}

-- no marks, of what is never so
pub led_never : (text : List ℕ) (P : List ℕ → Type 0) (starts ends : List Bool) → length ends ≡ length text + 1 → ((k : ℕ) → k ≤ length text → get_or ends k false ≡ false) → ((t : List ℕ) → P t → ⊥) → AreLed text P starts ends
led_never text P starts ends size none never = record {
  size = size;
  each = λ place within. (λ h. absurd (true≢false (sym h ∙ none place within)), λ e. absurd (never (slice_range text e.0 place) e.3));
}

-- from the place 0 to the end is the whole text
pub led_whole : (text : List ℕ) (P : List ℕ → Type 0) (starts ends : List Bool) → AreFirst text starts → AreLed text P starts ends → Decides (get_or ends (length text) false) (P text)
led_whole text P starts ends first led = (
  λ h.
      let e = (led.each (length text) (omega arith)).0 h in
      let low : e.0 ≤ length text = e.1 in
      let zero' : e.0 ≡ 0 = eqb-true e.0 0 (sym (first.each e.0 (omega arith)) ∙ e.2) in
      subst P (ap (λ n. slice_range text n (length text)) zero' ∙ all_of text) e.3,
  λ p. (led.each (length text) (omega arith)).1 (0, omega arith, first.each 0 (omega arith), subst P (sym (all_of text)) p),
) where
  all_of : (text : List ℕ) → slice_range text 0 (length text) ≡ text
  all_of text =
      let whole : length text - 0 ≡ length text = omega arith in
      ap (λ n. take n text) whole ∙ take_all (length text) text (omega arith)
