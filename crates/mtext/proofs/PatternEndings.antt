-- SPDX-License-Identifier: Apache-2.0
-- Where the segment of an atom must end: after this many repetitions, or after the longest run of characters of its classes.
use Rattle.mtext.proofs.TextWords.{append-nil, ◌≡◌, ◌≢◌, ℕ, zero, suc, ◌+◌, ◌-◌, ◌≤◌, ◌<◌, ◌↔◌, Bool, true, false, cond, List, [], ◌∷◌, ◌++◌, length, take}
use Rattle.mtext.proofs.TextWords.{drop, Option, Some, Bor, slice_get, refl, sym, ap, subst, ◌∙◌, arith, append_assoc, take-append-drop, length-take-le}
use Rattle.mtext.proofs.TextWords.{length-drop, prefix_len, drop_at, append_cancel_left, append_cancel_right, prefix_len-le-length, AllAre, Atom, Count}
use Rattle.mtext.proofs.TextWords.{IsAtMost, IsPermitted, IsRepetition, Matches, is_in_any, members, copies, copied, Repeats, IsEnding, IsOtherwise, IsBarred}
use Rattle.mtext.proofs.TextWords.{NoneBegins, members_atom, copies_atom, length-append, drop-drop, take_all}
use Rattle.mspec.proofs.Basics.{nothing_copied}
use Rattle.mspec.specs.Pattern as plain
use Rattle.mtext.proofs.PatternCopies.{copied_last}
use Rattle.mtext.specs.declared.classes.Classes.{Classes}
use Rattle.mtext.specs.declared.ending.Ending.{Ending}
use Rattle.mtext.specs.declared.ending.LentRepeated.TheVariants as lent

-- ---- runs

pub all_along : (p q : ℕ → Bool) (s : List ℕ) → ((c : ℕ) → p c ≡ q c) → AllAre p s → AllAre q s
all_along p q [] same all = tt
all_along p q (c ∷ s) same all = (sym (same c) ∙ all.0, all_along p q s same all.1)

all_of_run : (p : ℕ → Bool) (s : List ℕ) (b : Bool) (c : ℕ) → p c ≡ b → AllAre p (take (prefix_len p s) s) → AllAre p (take (cond b (1 + prefix_len p s) 0) (c ∷ s))
all_of_run p s true c is all =
    let more : suc (prefix_len p s) ≡ 1 + prefix_len p s = omega arith in
    subst (λ (n : ℕ). AllAre p (take n (c ∷ s))) more (is, all)
all_of_run p s false c is all = tt

-- the characters of a run are such
pub run_all : (p : ℕ → Bool) (s : List ℕ) → AllAre p (take (prefix_len p s) s)
run_all p [] = tt
run_all p (c ∷ s) = all_of_run p s (p c) c refl (run_all p s)

pub all_from_run : (p : ℕ → Bool) (s : List ℕ) → prefix_len p s ≡ length s → AllAre p s
all_from_run p s is =
    subst (λ (t : List ℕ). AllAre p t) (ap (λ (n : ℕ). take n s) is ∙ take_all (length s) s (omega arith)) (run_all p s)

-- such characters, and then what does not begin with one: the run is the front
pub run_front : (p : ℕ → Bool) (front rest : List ℕ) → AllAre p front → IsBarred p rest → prefix_len p (front ++ rest) ≡ length front
run_front p [] [] all barred = refl
run_front p [] (c ∷ rest) all barred = ap (λ (b : Bool). cond b (1 + prefix_len p rest) 0) barred
run_front p (c ∷ front) rest all barred =
    let more = run_front p front rest all.1 barred in
    ap (λ (b : Bool). cond b (1 + prefix_len p (front ++ rest)) 0) all.0 ∙ omega arith

-- a run is the whole of a text of such characters
pub whole_run : (p : ℕ → Bool) (s : List ℕ) → AllAre p s → prefix_len p s ≡ length s
whole_run p s all = ap (prefix_len p) (sym (append-nil s)) ∙ run_front p s [] all tt

-- ---- counts

-- if only one number is permitted
pub is_the_number : (count : Count) (number n : ℕ) → count.least ≡ number → count.most ≡ Some number → IsPermitted count n → n ≡ number
is_the_number count number n least most permitted =
    let few : n ≤ number = subst (λ (m : Option ℕ). IsAtMost m n) most permitted.1 in
    let low = permitted.0 in
    omega arith

pub number_serves : (count : Count) (number : ℕ) → count.least ≡ number → count.most ≡ Some number → IsPermitted count number
number_serves count number least most =
    let fits : IsAtMost (Some number) number = omega arith in
    (omega arith, subst (λ (m : Option ℕ). IsAtMost m number) (sym most) fits)

-- ---- members

front_drop : (text front rest : List ℕ) (n : ℕ) → text ≡ front ++ rest → length front ≡ n → drop n text ≡ rest
front_drop text front rest n cut size = ap (λ (t : List ℕ). drop n t) cut ∙ drop_at front rest n size

front_take : (text front rest : List ℕ) (n : ℕ) → text ≡ front ++ rest → length front ≡ n → take n text ≡ front
front_take text front rest n cut size =
    append_cancel_right (take n text) front rest
    (ap (λ (t : List ℕ). take n text ++ t) (sym (front_drop text front rest n cut size)) ∙ take-append-drop n text ∙ cut)

-- a segment of members with another match after it
members_then : (codes : List plain.PatternCode) (count : Count) (others : List Atom) (text : List ℕ) (n : ℕ) → n ≤ length text → AllAre (is_in_any codes) (take n text)
    → IsPermitted count n → Matches others (drop n text) → Matches (members_atom count codes ∷ others) text
members_then codes count others text n within all permitted m =
    (take n text, drop n text, sym (take-append-drop n text), (all, subst (λ (k : ℕ). IsPermitted count k) (sym (length-take-le n text within)) permitted), m)

pub so_many_members : (p : ℕ → Bool) (codes : List plain.PatternCode) (count : Count) (others : List Atom) (text : List ℕ) (number : ℕ) → ((c : ℕ) → p c ≡ is_in_any codes c)
    → count.least ≡ number → count.most ≡ Some number → (number ≤ length text) × AllAre p (take number text)
    → (number ≤ length text) × (Matches (members_atom count codes ∷ others) text ↔ Matches others (drop number text))
so_many_members p codes count others text number same least most has = (
  has.0,
  (
    λ m. subst (λ (t : List ℕ). Matches others t)
        (sym (front_drop text m.0 m.1 number m.2 (is_the_number count number (length m.0) least most m.3.1))) m.4,
    λ m. members_then codes count others text number has.0 (all_along p (is_in_any codes) (take number text) same has.1) (number_serves count number least most) m,
  ),
)

pub no_members : (p : ℕ → Bool) (codes : List plain.PatternCode) (count : Count) (others : List Atom) (text : List ℕ) (number : ℕ) → ((c : ℕ) → p c ≡ is_in_any codes c)
    → count.least ≡ number → count.most ≡ Some number → ((number ≤ length text) × AllAre p (take number text) → ⊥) → Matches (members_atom count codes ∷ others) text → ⊥
no_members p codes count others text number same least most lacks m =
    let size : length m.0 ≡ number = is_the_number count number (length m.0) least most m.3.1 in
    let sum : length text ≡ length m.0 + length m.1 = ap length m.2 ∙ length-append m.0 m.1 in
    let all : AllAre p m.0 = all_along (is_in_any codes) p m.0 (λ c. sym (same c)) m.3.0 in
    lacks (omega arith, subst (λ (t : List ℕ). AllAre p t) (sym (front_take text m.0 m.1 number m.2 size)) all)

-- the segment is the longest run
is_run : (p : ℕ → Bool) (codes : List plain.PatternCode) (count : Count) (others : List Atom) (text : List ℕ) → ((c : ℕ) → p c ≡ is_in_any codes c) → NoneBegins p others
    → (m : Matches (members_atom count codes ∷ others) text) → length m.0 ≡ prefix_len p text
is_run p codes count others text same barred m =
    sym (ap (prefix_len p) m.2 ∙ run_front p m.0 m.1 (all_along (is_in_any codes) p m.0 (λ c. sym (same c)) m.3.0) (barred m.1 m.4))

pub longest_run : (p : ℕ → Bool) (codes : List plain.PatternCode) (count : Count) (others : List Atom) (text : List ℕ) (n : ℕ) → ((c : ℕ) → p c ≡ is_in_any codes c) → NoneBegins p others
    → n ≡ prefix_len p text → IsPermitted count n → (n ≤ length text) × (Matches (members_atom count codes ∷ others) text ↔ Matches others (drop n text))
longest_run p codes count others text n same barred is permitted =
    let within : n ≤ length text = omega (arith, prefix_len-le-length p text) in (
      within,
      (
        λ m. subst (λ (t : List ℕ). Matches others t) (sym (front_drop text m.0 m.1 n m.2 (is_run p codes count others text same barred m ∙ sym is))) m.4,
        λ m. members_then codes count others text n within
            (all_along p (is_in_any codes) (take n text) same (subst (λ (k : ℕ). AllAre p (take k text)) (sym is) (run_all p text))) permitted m,
      ),
    )

pub no_run : (p : ℕ → Bool) (codes : List plain.PatternCode) (count : Count) (others : List Atom) (text : List ℕ) (n : ℕ) → ((c : ℕ) → p c ≡ is_in_any codes c) → NoneBegins p others
    → n ≡ prefix_len p text → (IsPermitted count n → ⊥) → Matches (members_atom count codes ∷ others) text → ⊥
no_run p codes count others text n same barred is refused m =
    refused (subst (λ (k : ℕ). IsPermitted count k) (is_run p codes count others text same barred m ∙ sym is) m.3.1)

-- ---- copies

pub copied_sum : (i j : ℕ) (string : List ℕ) → copied (i + j) string ≡ copied i string ++ copied j string
copied_sum zero j string = let none : 0 + j ≡ j = omega arith in ap (λ (n : ℕ). copied n string) none
copied_sum (suc i) j string =
    let more : suc i + j ≡ suc (i + j) = omega arith in
    ap (λ (n : ℕ). copied n string) more ∙ ap (λ (t : List ℕ). string ++ t) (copied_sum i j string) ∙ sym (append_assoc string (copied i string) (copied j string))

pub so_many_copies : (string : List ℕ) (count : Count) (others : List Atom) (text : List ℕ) (number at : ℕ) → count.least ≡ number → count.most ≡ Some number
    → (at ≤ length text) × (text ≡ copied number string ++ drop at text)
    → (at ≤ length text) × (Matches (copies_atom count string ∷ others) text ↔ Matches others (drop at text))
so_many_copies string count others text number at least most stand = (
  stand.0,
  (
    λ m.
        let n : m.3.0 ≡ number = is_the_number count number m.3.0 least most m.3.1 in
        let front : m.0 ≡ copied number string = m.3.2 ∙ ap (λ (k : ℕ). copied k string) n in
        let rest : m.1 ≡ drop at text = append_cancel_left (copied number string) m.1 (drop at text) (ap (λ (t : List ℕ). t ++ m.1) (sym front) ∙ sym m.2 ∙ stand.1) in
        subst (λ (t : List ℕ). Matches others t) rest m.4,
    λ m. (copied number string, drop at text, stand.1, (number, number_serves count number least most, refl), m),
  ),
)

pub no_copies : (string : List ℕ) (count : Count) (others : List Atom) (text : List ℕ) (number : ℕ) → count.least ≡ number → count.most ≡ Some number
    → ((rest : List ℕ) → text ≢ copied number string ++ rest) → Matches (copies_atom count string ∷ others) text → ⊥
no_copies string count others text number least most lacks m =
    let n : m.3.0 ≡ number = is_the_number count number m.3.0 least most m.3.1 in
    let front : m.0 ≡ copied number string = m.3.2 ∙ ap (λ (k : ℕ). copied k string) n in
    lacks m.1 (m.2 ∙ ap (λ (t : List ℕ). t ++ m.1) front)

-- any number of copies of nothing is nothing
pub nothing_stands : (string text : List ℕ) (number : ℕ) → length string ≡ 0 → (0 ≤ length text) × (text ≡ copied number string ++ drop 0 text)
nothing_stands [] text number none = (omega arith, ap (λ (t : List ℕ). t ++ text) (sym (nothing_copied number)))
nothing_stands (c ∷ string) text number none = absurd (omega arith)

-- there is one copy more, or none
pub one_copy_more : (string text : List ℕ) (i at : ℕ) → at ≤ length text → text ≡ copied i string ++ drop at text → drop at text ≡ string ++ drop (length string) (drop at text)
    → (at + length string ≤ length text) × (text ≡ copied (i + 1) string ++ drop (at + length string) text)
one_copy_more string text i at within stand here =
    let later = drop (at + length string) text in
    let more : suc i ≡ i + 1 = omega arith in
    let rest : drop at text ≡ string ++ later = here ∙ ap (λ (t : List ℕ). string ++ t) (drop-drop (length string) at text) in
    let size : length (drop at text) ≡ length string + length later = ap length rest ∙ length-append string later in (
      omega (arith, size, length-drop at text),
      stand ∙ ap (λ (t : List ℕ). copied i string ++ t) rest ∙ sym (append_assoc (copied i string) string later)
          ∙ ap (λ (t : List ℕ). t ++ later) (sym (copied_last i string) ∙ ap (λ (n : ℕ). copied n string) more),
    )

pub one_copy_lacks : (string text rest : List ℕ) (i number at : ℕ) → i < number → text ≡ copied i string ++ drop at text → text ≡ copied number string ++ rest
    → (later : List ℕ) × (drop at text ≡ string ++ later)
one_copy_lacks string text rest i number at below stand whole =
    let j = number - (i + 1) in
    let sum : number ≡ i + suc j = omega arith in
    let split : copied number string ≡ copied i string ++ (string ++ copied j string) = ap (λ (n : ℕ). copied n string) sum ∙ copied_sum i (suc j) string in
    let e : copied i string ++ drop at text ≡ copied i string ++ ((string ++ copied j string) ++ rest) =
    sym stand ∙ whole ∙ ap (λ (t : List ℕ). t ++ rest) split ∙ append_assoc (copied i string) (string ++ copied j string) rest in
    (copied j string ++ rest, append_cancel_left (copied i string) (drop at text) ((string ++ copied j string) ++ rest) e ∙ append_assoc string (copied j string) rest)

-- ---- what copies begin with

copies_begin : (p : ℕ → Bool) (c n : ℕ) (string text : List ℕ) → p c ≡ false → 0 < n → text ≡ copied n (c ∷ string) → IsOtherwise p text
copies_begin p c zero string text fails some is = absurd (omega arith)
copies_begin p c (suc n) string text fails some is = subst (λ (t : List ℕ). IsOtherwise p t) (sym is) fails

-- the first character
pub first_is : (string : List ℕ) (c : ℕ) → Some c ≡ slice_get string 0 → string ≡ c ∷ drop 1 string
first_is [] c is = absurd cc
first_is (x ∷ string) c is = let same : c ≡ x = cc in ap (λ (y : ℕ). y ∷ string) (sym same)

pub lent_copies_apart : (p : ℕ → Bool) (string : Bor (List ℕ)) (c : ℕ) (count : Count) (what : plain.Repeated) (text : List ℕ) → Some c ≡ slice_get string.now 0 → p c ≡ false
    → Repeats (lent.Copies string) what → 0 < count.least → IsRepetition count what text → IsOtherwise p text
lent_copies_apart p string c count (members codes) text first fails same some is = absurd same
lent_copies_apart p string c count (plain.passing test) text first fails same some is = absurd same
lent_copies_apart p string c count (copies t) text first fails same some is =
    let low = is.1.0 in
    copies_begin p c is.0 (drop 1 string.now) text fails (omega arith) (is.2 ∙ ap (λ (t : List ℕ). copied is.0 t) (sym same ∙ first_is string.now c first))

-- ---- the first atom as it is lent

at_count : (text : List ℕ) (count : Count) (first : Atom) (others : List Atom) (result : Ending) → count ≡ first.count
    → IsEnding text (record { count = count; repeated = first.repeated }) others result → IsEnding text first others result
at_count text count first others result same is =
    subst (λ (k : Count). IsEnding text (record { count = k; repeated = first.repeated }) others result) same is

pub members_end : (set : Classes) (text : List ℕ) (count : Count) (first : Atom) (others : List Atom) (result : Ending) → (count ≡ first.count) × Repeats (lent.Members set) first.repeated
    → ((codes : List plain.PatternCode) → Repeats (lent.Members set) (members codes) → IsEnding text (members_atom count codes) others result) → IsEnding text first others result
members_end set text count first others result is each = at_count text count first others result is.0 (go first.repeated is.1) where
  go : (what : plain.Repeated) → Repeats (lent.Members set) what → IsEnding text (record { count = count; repeated = what }) others result
  go (members codes) same = each codes same
  go (copies string) same = absurd same
  go (plain.passing test) same = absurd same

pub copies_end : (string : Bor (List ℕ)) (text : List ℕ) (count : Count) (first : Atom) (others : List Atom) (result : Ending) → (count ≡ first.count) × Repeats (lent.Copies string) first.repeated
    → IsEnding text (copies_atom count string.now) others result → IsEnding text first others result
copies_end string text count first others result is ends = at_count text count first others result is.0 (go first.repeated is.1) where
  go : (what : plain.Repeated) → Repeats (lent.Copies string) what → IsEnding text (record { count = count; repeated = what }) others result
  go (members codes) same = absurd same
  go (plain.passing test) same = absurd same
  go (copies t) same = subst (λ (s : List ℕ). IsEnding text (copies_atom count s) others result) same ends
