-- SPDX-License-Identifier: Apache-2.0
-- The places to which atoms, patterns and turns of a group lead.
use Rattle.moperator.proofs.OperatorWords.{◌≡◌, ℕ, zero, suc, ◌-◌, ◌<◌, ◌≤◌, ◌++◌, Bool, true, false, List, [], ◌∷◌, length, get_or, map, Some, None, Result}
use Rattle.moperator.proofs.OperatorWords.{Ok, Err, IfOk, Vec, refl, sym, ap, ◌∙◌, subst, arith, true≢false, ◌||◌, list_any, Atom, Count, IsAtMost, IsJoined}
use Rattle.moperator.proofs.OperatorWords.{IsRepetition, Matches, passing, is_match, is_any_kept, kept_atom, AreEnds, AreLed, IsJoinedWithin}
use Rattle.std.proofs.Common.{Option, inl, inr, slice_range}
use Rattle.std.specs.Prelude.{◌+◌, max, nat_le, replicate, ◌⊎◌}
use Rattle.std.proofs.lemmas.Bool.{leb-true, leb-false}
use Rattle.std.proofs.lemmas.List.{append-nil, append_assoc}
use Rattle.mspec.specs.PatternTests.{at_most}
use Rattle.mspec.proofs.Matchings.{decides_match, few_joined}
use Rattle.mgrammar.specs.Grammar.{AtomTree, patterns_of}
use Rattle.mtext.specs.PatternPlaces.{IsLed}
use Rattle.mtext.proofs.PatternJoins.{IsByLast, by_last, from_last, joined_from, led_joined, led_either, led_alike, led_nowhere, led_never}
use Rattle.moperator.proofs.PatternParts.{any_more}

-- ---- atoms

pub one_atom_more : (text : List ℕ) (atoms : List Atom) (a : Atom) (starts mids ends : List Bool) → AreLed text (Matches atoms) starts mids → AreEnds text a.count a.repeated mids ends
    → AreLed text (Matches (atoms ++ a ∷ [])) starts ends
one_atom_more text atoms a starts mids ends first then' =
    led_joined text (Matches atoms) (IsRepetition a.count a.repeated) (Matches (atoms ++ a ∷ [])) starts mids first ends then' (from_last atoms a)
    (λ whole m. let by : IsByLast atoms a whole = by_last atoms a whole m in (by.front, by.rest, by.joined, by.first, by.then'))

-- ---- patterns

pub one_pattern_more : (text : List ℕ) (ps : List (List AtomTree)) (p : List AtomTree) (starts all ends both : List Bool) → AreLed text (λ t. is_any_kept (patterns_of ps) t ≡ true) starts all
    → AreLed text (Matches (map kept_atom p)) starts ends → length both ≡ length all → ((k : ℕ) → k < length all → get_or both k false ≡ (get_or all k false || get_or ends k false))
    → AreLed text (λ t. is_any_kept (patterns_of (ps ++ p ∷ [])) t ≡ true) starts both
one_pattern_more text ps p starts all ends both ones others size each =
    led_either text (λ t. is_any_kept (patterns_of ps) t ≡ true) (Matches (map kept_atom p)) (λ t. is_any_kept (patterns_of (ps ++ p ∷ [])) t ≡ true) starts all ends both ones others size each
    (λ t is. any_more ps p t ∙ ap (λ (b : Bool). b || is_match (map kept_atom p) t) is)
    (λ t m. any_more ps p t ∙ or_last (is_any_kept (patterns_of ps) t) (is_match (map kept_atom p) t) ((decides_match (map kept_atom p) t).1 m))
    (λ t is. or_which (is_any_kept (patterns_of ps) t) (is_match (map kept_atom p) t) (sym (any_more ps p t) ∙ is) (decides_match (map kept_atom p) t).0)
  where
    or_last : (a b : Bool) → b ≡ true → (a || b) ≡ true
    or_last true b e = refl
    or_last false b e = e

    or_which : {P : Type 0} (a b : Bool) → (a || b) ≡ true → (b ≡ true → P) → (a ≡ true) ⊎ P
    or_which true b e f = inl refl
    or_which false b e f = inr (f e)

none_marked : (n k : ℕ) → get_or (replicate n false) k false ≡ false
none_marked zero k = refl
none_marked (suc n) zero = refl
none_marked (suc n) (suc k) = none_marked n k

pub no_pattern : (text : List ℕ) (starts : List Bool) (n : ℕ) → length (replicate n false) ≡ length text + 1 → AreLed text (λ t. is_any_kept (patterns_of []) t ≡ true) starts (replicate n false)
no_pattern text starts n size = led_never text (λ t. is_any_kept (patterns_of []) t ≡ true) starts (replicate n false) size (λ k within. none_marked n k) (λ t is. true≢false (sym is))

-- ---- turns

pub one_turn_more : (text : List ℕ) (test : List ℕ → Bool) (turn : ℕ) (starts mids ends : List Bool) → AreLed text (IsJoined test turn) starts mids → AreLed text (λ t. test t ≡ true) mids ends
    → AreLed text (IsJoined test (turn + 1)) starts ends
one_turn_more text test turn starts mids ends first then' =
    let more : suc turn ≡ turn + 1 = omega arith in
    subst (λ (n : ℕ). AreLed text (IsJoined test n) starts ends) more
    (led_joined text (IsJoined test turn) (λ t. test t ≡ true) (IsJoined test (suc turn)) starts mids first ends then' (λ front last f l. (front, last, refl, f, l)) (λ whole j. j))

pub no_turn : (text : List ℕ) (test : List ℕ → Bool) (starts : List Bool) → length starts ≡ length text + 1 → AreLed text (IsJoined test 0) starts starts
no_turn text test starts size = led_nowhere text starts size

pub ends_at_first : (text : List ℕ) (test : List ℕ → Bool) (least : ℕ) (starts : List Bool) → least ≡ 0 → length starts ≡ length text + 1 → AreLed text (IsJoinedWithin test least 0) starts starts
ends_at_first text test least starts none size =
    led_alike text (λ t. t ≡ []) (IsJoinedWithin test least 0) starts starts (led_nowhere text starts size)
    (λ t short. (λ is. (0, omega (arith, none), omega arith, is), λ j. let zero' : j.0 ≡ 0 = omega (arith, j.2) in subst (λ (n : ℕ). IsJoined test n t) zero' j.3))

pub ends_nowhere_yet : (text : List ℕ) (test : List ℕ → Bool) (least : ℕ) (starts : List Bool) → 0 < least → length starts ≡ length text + 1
    → AreLed text (IsJoinedWithin test least 0) starts (replicate (length starts) false)
ends_nowhere_yet text test least starts some size =
    led_never text (IsJoinedWithin test least 0) starts (replicate (length starts) false) (marks (length starts) ∙ size) (λ k within. none_marked (length starts) k)
    (λ t j. let up = j.1 in let down = j.2 in omega (arith, some, up, down))
  where
    marks : (n : ℕ) → length (replicate n false) ≡ n
    marks zero = refl
    marks (suc n) = ap suc (marks n)

-- too few turns still
pub still_few : (text : List ℕ) (test : List ℕ → Bool) (least turn before : ℕ) (starts ends : List Bool) → turn ≡ before + 1 → turn < least → AreLed text (IsJoinedWithin test least before) starts ends
    → AreLed text (IsJoinedWithin test least turn) starts ends
still_few text test least turn before starts ends more few led =
    led_alike text (IsJoinedWithin test least before) (IsJoinedWithin test least turn) starts ends led
    (λ t short. (λ j. absurd (omega (arith, more, few, j.1, j.2)), λ j. absurd (omega (arith, few, j.1, j.2))))

pub enough_now : (text : List ℕ) (test : List ℕ → Bool) (least turn before : ℕ) (starts ends places both : List Bool) → turn ≡ before + 1 → least ≤ turn
    → AreLed text (IsJoinedWithin test least before) starts ends → AreLed text (IsJoined test turn) starts places
    → length both ≡ length ends → ((k : ℕ) → k < length ends → get_or both k false ≡ (get_or ends k false || get_or places k false)) → AreLed text (IsJoinedWithin test least turn) starts both
enough_now text test least turn before starts ends places both more enough led now size each =
    led_either text (IsJoinedWithin test least before) (IsJoined test turn) (IsJoinedWithin test least turn) starts ends places both led now size each
    (λ t j. (j.0, j.1, omega (arith, more, j.2), j.3))
    (λ t j. (turn, enough, omega arith, j))
    (λ t j. go t j (nat_le j.0 before) refl)
  where
    go : (t : List ℕ) (j : IsJoinedWithin test least turn t) (b : Bool) → nat_le j.0 before ≡ b → IsJoinedWithin test least before t ⊎ IsJoined test turn t
    go t j true is = inl (j.0, j.1, leb-true j.0 before is, j.3)
    go t j false is =
        let same : j.0 ≡ turn = omega (arith, more, j.2, leb-false j.0 before is) in
        inr (subst (λ (n : ℕ). IsJoined test n t) same j.3)

-- ---- a group's end

-- as many as a count permits, and the text needs
served : (count : Count) (test : List ℕ → Bool) (most : ℕ) (t : List ℕ) → length t ≤ most → IsRepetition count (passing test) t → IsJoinedWithin test count.least (at_most count.most (max count.least most)) t
served count test most t short (n, permitted, joined) =
    let few = few_joined test count.least t n permitted.0 joined in
    (few.number, few.enough, go count.most permitted.1 few.fewer (omega (arith, few.small, short)), few.joined)
  where
    go : (greatest : Option ℕ) {m k : ℕ} → IsAtMost greatest n → m ≤ n → m ≤ k → m ≤ at_most greatest k
    go None h le fits = fits
    go (Some greatest) h le fits = omega (arith, h, le, fits)

permits : (greatest : Option ℕ) (n k : ℕ) → n ≤ at_most greatest k → IsAtMost greatest n
permits None n k h = tt
permits (Some greatest) n k h = omega (arith, h)

-- all turns were taken
pub after_all_turns : (text : List ℕ) (test : List ℕ → Bool) (count : Count) (turn : ℕ) (starts ends : List Bool) → turn ≡ at_most count.most (max count.least (length text))
    → AreLed text (IsJoinedWithin test count.least turn) starts ends → AreEnds text count (passing test) starts ends
after_all_turns text test count turn starts ends all led =
    led_alike text (IsJoinedWithin test count.least turn) (IsRepetition count (passing test)) starts ends led
    (λ t short. (
      λ j. (j.0, (j.1, permits count.most j.0 (max count.least (length text)) (subst (λ (n : ℕ). j.0 ≤ n) all j.2)), j.3),
      λ r. subst (λ (n : ℕ). IsJoinedWithin test count.least n t) (sym all) (served count test (length text) t short r),
    ))

-- or no place is left
split_joined : (test : List ℕ → Bool) (k n : ℕ) (t : List ℕ) → IsJoined test (k + n) t → (front : List ℕ) × (last : List ℕ) × (t ≡ front ++ last) × IsJoined test n front × Unit {0}
split_joined test zero n t joined = let same : zero + n ≡ n = omega arith in (t, [], sym (append-nil t), subst (λ (m : ℕ). IsJoined test m t) same joined, tt)
split_joined test (suc k) n t joined =
    let same : suc k + n ≡ suc (k + n) = omega arith in
    let j : IsJoined test (suc (k + n)) t = subst (λ (m : ℕ). IsJoined test m t) same joined in
    let less = split_joined test k n j.0 j.3 in
    (less.0, less.1 ++ j.1, j.2 ∙ ap (λ (s : List ℕ). s ++ j.1) less.2 ∙ append_assoc less.0 less.1 j.1, less.3, tt)

unmarked : (marks : List Bool) → list_any (λ mark. mark) marks ≡ false → (k : ℕ) → get_or marks k false ≡ false
unmarked [] none k = refl
unmarked (true ∷ marks) none k = absurd cc
unmarked (false ∷ marks) none zero = refl
unmarked (false ∷ marks) none (suc k) = unmarked marks none k

pub after_last_place : (text : List ℕ) (test : List ℕ → Bool) (count : Count) (turn : ℕ) (starts places ends : List Bool) → turn ≤ at_most count.most (max count.least (length text))
    → list_any (λ mark. mark) places ≡ false → AreLed text (IsJoined test turn) starts places → AreLed text (IsJoinedWithin test count.least turn) starts ends → AreEnds text count (passing test) starts ends
after_last_place text test count turn starts places ends fits none now led = record {
  size = led.size;
  each = λ place within. (
    λ h.
        let e = (led.each place within).0 h in
        (e.0, e.1, e.2, (e.3.0, (e.3.1, permits count.most e.3.0 (max count.least (length text)) (omega (arith, e.3.2, fits))), e.3.3)),
    λ e. go place within e (nat_le e.3.0 turn) refl,
  );
} where
  go : (place : ℕ) → place ≤ length text → (e : IsLed text (IsRepetition count (passing test)) starts place) (b : Bool) → nat_le e.3.0 turn ≡ b → get_or ends place false ≡ true
  go place within e true is = (led.each place within).1 (e.0, e.1, e.2, (e.3.0, e.3.1.0, leb-true e.3.0 turn is, e.3.2))
  go place within e false is =
      let n = e.3.0 in
      let same : n ≡ (n - turn) + turn = omega (arith, leb-false n turn is) in
      let left : IsLed text (λ t. Unit {0}) places place =
      joined_from text (IsJoined test turn) (λ t. Unit {0}) (IsJoined test ((n - turn) + turn)) starts places now (λ whole j. split_joined test (n - turn) turn whole j) place within
      (e.0, e.1, e.2, subst (λ (m : ℕ). IsJoined test m (slice_range text e.0 place)) same e.3.2) in
      absurd (true≢false (sym left.2 ∙ unmarked places none left.0))

-- ---- what calls return

pub more_led : {G E : Type 0} (r : Result (Vec Bool G) E) (least turn : ℕ) (ends slice places : List Bool) → slice ≡ ends → least ≤ turn → IfOk r (λ more. length more.items ≡ length slice)
    → IfOk r (λ more. (k : ℕ) → k < length slice → get_or more.items k false ≡ (get_or slice k false || get_or places k false))
    → IfOk r (λ more. (text : List ℕ) (test : List ℕ → Bool) (starts : List Bool) (before : ℕ) → turn ≡ before + 1 → AreLed text (IsJoinedWithin test least before) starts ends
    → AreLed text (IsJoined test turn) starts places → AreLed text (IsJoinedWithin test least turn) starts more.items)
more_led (Err e) least turn ends slice places same enough size each = tt
more_led (Ok more) least turn ends slice places same enough size each = λ text test starts before is led now.
    enough_now text test least turn before starts slice places more.items is enough (subst (λ (marks : List Bool). AreLed text (IsJoinedWithin test least before) starts marks) (sym same) led) now size each
