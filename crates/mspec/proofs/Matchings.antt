-- SPDX-License-Identifier: Apache-2.0
-- The test of pattern match is the definition.
use Rattle.std.proofs.Common.{◌≡◌, ℕ, zero, suc, ◌+◌, ◌≤◌, Bool, true, false, List, [], ◌∷◌, length, take, drop, Option, Some, None, refl, sym, ap, subst, ◌∙◌}
use Rattle.std.proofs.Common.{arith, length-append}
use Rattle.std.specs.Prelude.{◌&&◌, ◌||◌, max, nat_le, nat_eq, Decides}
use Rattle.std.specs.List.{list_all}
use Rattle.std.proofs.lemmas.Bool.{and_parts, eqb-true, leb-true, leb-false, le-leb}
use Rattle.std.proofs.lemmas.Bool.Decides.{Decides-eqb}
use Rattle.std.proofs.lemmas.List.{take-append-drop, append-nil}
use Rattle.mspec.specs.Names.{AllAre}
use Rattle.std.specs.Cmp.Lexicographic.{pointwise}
use Rattle.std.specs.Cmp.Derive.{both_true}
use Rattle.std.proofs.lemmas.Slice.Eq.{slice_eq-Decides}
use Rattle.std.proofs.Math.Bool.{or-true}
use Rattle.std.proofs.Math.Seq.{take-append_seam, drop-append_seam}
use Rattle.mspec.specs.Pattern.{is_in_any, IsAtMost, Count, IsPermitted, Repeated, members, copies, passing, copied, IsJoined, IsRepetition}
use Rattle.mspec.proofs.Basics.{copies_fit, nothing_copied}
use Rattle.mspec.specs.PatternTests.{is_at_most, is_permitted, any_up_to, is_joined, is_repetition, is_match}
use Rattle.mspec.specs.PatternLaws.{DecidesMatch}

one_is : (a b : Bool) (P : Type 0) → (a || b) ≡ true → (a ≡ true → P) → (b ≡ true → P) → P
one_is true b P e f g = f refl
one_is false b P e f g = g e

-- a test that some number up to n passes
passes : (n : ℕ) (test : ℕ → Bool) → any_up_to n test ≡ true → (k : ℕ) × (k ≤ n) × (test k ≡ true)
passes zero test e = (0, omega arith, e)
passes (suc n) test e =
    one_is (any_up_to n test) (test (suc n)) _ e
    (λ h. let rest = passes n test h in (rest.0, omega (arith, rest.1), rest.2))
    (λ h. (suc n, omega arith, h))

passed : (n : ℕ) (test : ℕ → Bool) (k : ℕ) → k ≤ n → test k ≡ true → any_up_to n test ≡ true
passed zero test k le e = let none : k ≡ 0 = omega (arith, le) in rw none at e
passed (suc n) test k le e = go (nat_le k n) refl (λ h. passed n test k h e)
  where
    go : (b : Bool) → nat_le k n ≡ b → (k ≤ n → any_up_to n test ≡ true) → any_up_to (suc n) test ≡ true
    go true is before = rw (before (leb-true k n is)) refl
    go false is before =
        let last : k ≡ suc n = omega (arith, le, leb-false k n is) in
        let e = rw last at e in
        rw (e, or-true (any_up_to n test)) refl

at_most_is : (most : Option ℕ) (n : ℕ) → Decides (is_at_most most n) (IsAtMost most n)
at_most_is None n = (λ e. tt, λ h. refl)
at_most_is (Some most) n = (leb-true n most, le-leb n most)

permitted_is : (count : Count) (n : ℕ) → Decides (is_permitted count n) (IsPermitted count n)
permitted_is count n = (
  λ e. let both = and_parts (nat_le count.least n) (is_at_most count.most n) e in (leb-true count.least n both.0, (at_most_is count.most n).0 both.1),
  λ h. both_true (le-leb count.least n h.0) ((at_most_is count.most n).1 h.1),
)

all_are : (p : ℕ → Bool) (text : List ℕ) → Decides (list_all p text) (AllAre p text)
all_are p [] = (λ e. tt, λ h. refl)
all_are p (c ∷ cs) = (
  λ e. let both = and_parts (p c) (list_all p cs) e in (both.0, (all_are p cs).0 both.1),
  λ h. both_true h.0 ((all_are p cs).1 h.1),
)

same_is : (s t : List ℕ) → Decides (pointwise nat_eq s t) (s ≡ t)
same_is s t = slice_eq-Decides Decides-eqb s t (pointwise nat_eq s t) refl

-- ---- repetitions

-- fewer are no more than the most
still_at_most : (most : Option ℕ) (m n : ℕ) → m ≤ n → IsAtMost most n → IsAtMost most m
still_at_most None m n le h = tt
still_at_most (Some most) m n le h = omega (arith, le, h)

-- a number of copies that serves, and is among those that are tried
few_copies : (count : Count) (string text : List ℕ) → IsRepetition count (copies string) text
    → (k : ℕ) × (k ≤ count.least + length text) × IsPermitted count k × (text ≡ copied k string)
few_copies count [] text (n, permitted, is) =
    (count.least, omega arith, (omega arith, still_at_most count.most count.least n permitted.0 permitted.1), is ∙ nothing_copied n ∙ sym (nothing_copied count.least))
few_copies count (c ∷ string) text (n, permitted, is) =
    let fit = rw (sym is) at (copies_fit n c string) in
    (n, omega (arith, fit), permitted, is)

-- ---- texts that pass a test

-- of more texts than there are characters one is empty, and can be left out
one_left_out : (test : List ℕ → Bool) (n : ℕ) (text : List ℕ) → length text ≤ n → IsJoined test (suc n) text → IsJoined test n text
one_left_out test n text few (front, [], joined, first, pass) = subst (IsJoined test n) (sym (append-nil front) ∙ sym joined) first
one_left_out test zero text few (front, c ∷ last, joined, first, pass) = absurd (omega (arith, few, ap length joined, length-append front (c ∷ last)))
one_left_out test (suc n) text few (front, c ∷ last, joined, first, pass) =
    (front, c ∷ last, joined, one_left_out test n front (omega (arith, few, ap length joined, length-append front (c ∷ last))) first, pass)

-- few enough that there are no more than characters, or than wanted
pub record FewJoined (test : List ℕ → Bool) (least most : ℕ) (text : List ℕ) : Type 0 where
  pub number : ℕ
  pub enough : least ≤ number
  pub fewer : number ≤ most
  pub small : number ≤ max least (length text)
  pub joined : IsJoined test number text

pub few_joined : (test : List ℕ → Bool) (least : ℕ) (text : List ℕ) (n : ℕ) → least ≤ n → IsJoined test n text → FewJoined test least n text
few_joined test least text zero le joined = record { number = 0; enough = le; fewer = omega arith; small = omega arith; joined = joined }
few_joined test least text (suc n) le joined = go (nat_le (suc n) (max least (length text))) refl (few_joined test least text n) where
  go : (b : Bool) → nat_le (suc n) (max least (length text)) ≡ b → (least ≤ n → IsJoined test n text → FewJoined test least n text) → FewJoined test least (suc n) text
  go true is fewer = record { number = suc n; enough = le; fewer = omega arith; small = leb-true (suc n) (max least (length text)) is; joined = joined }
  go false is fewer =
      let above = leb-false (suc n) (max least (length text)) is in
      let less = fewer (omega (arith, above)) (one_left_out test n text (omega (arith, above)) joined) in
      record { number = less.number; enough = less.enough; fewer = omega (arith, less.fewer); small = less.small; joined = less.joined }

pub joined_is : (test : List ℕ → Bool) (n : ℕ) (text : List ℕ) → Decides (is_joined test n text) (IsJoined test n text)
joined_is test zero [] = (λ e. refl, λ h. refl)
joined_is test zero (c ∷ text) = (λ e. let none : length (c ∷ text) ≡ 0 = eqb-true (length (c ∷ text)) 0 e in absurd (omega (arith, none)), λ h. absurd cc)
joined_is test (suc n) text =
    let cut : ℕ → Bool = λ k. is_joined test n (take k text) && test (drop k text) in (
      λ e.
          let found = passes (length text) cut e in
          let k = found.0 in
          let both = and_parts (is_joined test n (take k text)) (test (drop k text)) found.2 in
          (take k text, drop k text, sym (take-append-drop k text), (joined_is test n (take k text)).0 both.0, both.1),
      λ h.
          let front = h.0 in
          let last = h.1 in
          let k = length front in
          let is_front : take k text ≡ front = ap (take k) h.2 ∙ take-append_seam front last in
          let is_last : drop k text ≡ last = ap (drop k) h.2 ∙ drop-append_seam front last in
          passed (length text) cut k (rw (h.2, length-append) (omega arith))
          (both_true ((joined_is test n (take k text)).1 (rw is_front h.3)) (rw is_last h.4)),
    )

repetition_is : (count : Count) (what : Repeated) (text : List ℕ) → Decides (is_repetition count what text) (IsRepetition count what text)
repetition_is count (members codes) text = (
  λ e.
      let both = and_parts (list_all (is_in_any codes) text) (is_permitted count (length text)) e in
      ((all_are (is_in_any codes) text).0 both.0, (permitted_is count (length text)).0 both.1),
  λ h. both_true ((all_are (is_in_any codes) text).1 h.0) ((permitted_is count (length text)).1 h.1),
)
repetition_is count (copies string) text =
    let test : ℕ → Bool = λ n. is_permitted count n && pointwise nat_eq text (copied n string) in (
      λ e.
          let found = passes (count.least + length text) test e in
          let both = and_parts (is_permitted count found.0) (pointwise nat_eq text (copied found.0 string)) found.2 in
          (found.0, (permitted_is count found.0).0 both.0, (same_is text (copied found.0 string)).0 both.1),
      λ h.
          let few = few_copies count string text h in
          passed (count.least + length text) test few.0 few.1 (both_true ((permitted_is count few.0).1 few.2) ((same_is text (copied few.0 string)).1 few.3)),
    )
repetition_is count (passing test) text =
    let serves : ℕ → Bool = λ n. is_permitted count n && is_joined test n text in (
      λ e.
          let found = passes (count.least + length text) serves e in
          let both = and_parts (is_permitted count found.0) (is_joined test found.0 text) found.2 in
          (found.0, (permitted_is count found.0).0 both.0, (joined_is test found.0 text).0 both.1),
      λ h.
          let few = few_joined test count.least text h.0 h.1.0 h.2 in
          passed (count.least + length text) serves few.number (omega (arith, few.small))
          (both_true ((permitted_is count few.number).1 (few.enough, still_at_most count.most few.number h.0 few.fewer h.1.1)) ((joined_is test few.number text).1 few.joined)),
    )

-- ---- patterns

pub decides_match : DecidesMatch
decides_match [] [] = (λ e. refl, λ h. refl)
decides_match [] (c ∷ text) = (λ e. let none : length (c ∷ text) ≡ 0 = eqb-true (length (c ∷ text)) 0 e in absurd (omega (arith, none)), λ h. absurd cc)
decides_match (atom ∷ atoms) text =
    let test : ℕ → Bool = λ n. is_repetition atom.count atom.repeated (take n text) && is_match atoms (drop n text) in (
      λ e.
          let found = passes (length text) test e in
          let n = found.0 in
          let both = and_parts (is_repetition atom.count atom.repeated (take n text)) (is_match atoms (drop n text)) found.2 in
          (take n text, drop n text, sym (take-append-drop n text), (repetition_is atom.count atom.repeated (take n text)).0 both.0, (decides_match atoms (drop n text)).0 both.1),
      λ h.
          let front = h.0 in
          let rest = h.1 in
          let n = length front in
          let is_front : take n text ≡ front = ap (take n) h.2 ∙ take-append_seam front rest in
          let is_rest : drop n text ≡ rest = ap (drop n) h.2 ∙ drop-append_seam front rest in
          passed (length text) test n (rw (h.2, length-append) (omega arith))
          (both_true ((repetition_is atom.count atom.repeated (take n text)).1 (rw is_front h.3)) ((decides_match atoms (drop n text)).1 (rw is_rest h.4))),
    )
