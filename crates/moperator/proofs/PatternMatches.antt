-- SPDX-License-Identifier: Apache-2.0
-- A pattern that was made with capped counts, and its match.
use Rattle.moperator.proofs.OperatorWords.{◌≡◌, ℕ, zero, suc, ◌-◌, ◌<◌, ◌≤◌, ◌↔◌, ◌^◌, Bool, true, false, List, [], ◌∷◌, length, map, Some, None, refl, sym, ap}
use Rattle.moperator.proofs.OperatorWords.{◌∙◌, subst, arith, ◌||◌, list_any, same_from_decides, Atom, Count, Repeated, members, copies, passing, IsAtMost}
use Rattle.moperator.proofs.OperatorWords.{IsPermitted, IsJoined, IsRepetition, Matches, is_at_most, is_reversed, is_match, atom_of, atom_reversed, capped}
use Rattle.moperator.proofs.OperatorWords.{capped_count, is_any_kept, kept_atom, kept_repeated, kept_run, Text}
use Rattle.std.proofs.Common.{Option}
use Rattle.std.specs.Prelude.{not, nat_le, ◌+◌, Decides}
use Rattle.std.proofs.lemmas.Bool.{leb-true, leb-false}
use Rattle.std.proofs.lemmas.List.{length-append, append-nil}
use Rattle.mspec.proofs.Matchings.{decides_match, few_joined}
use Rattle.mspec.proofs.Basics.{copies_fit, nothing_copied}
use Rattle.mgrammar.specs.Grammar.{RepeatedTree, classes, copies as copies_tree, group, AtomsTree, no_atoms, more_atoms, PatternsTree, no_patterns}
use Rattle.mgrammar.specs.Grammar.{more_patterns, AtomTree}
use Rattle.mgrammar.specs.Matching.{has_reversed, run_reversed, patterns_reversed, atoms_in, is_any_match, repeated_of, count_of as plain_count}

pub capped_zero : (n : ℕ) → n ≡ 0 → 0 ≡ capped n
capped_zero n none = omega (arith, none)

-- ---- capped counts permit what the counts do, of what a text can hold

at_most_capped : (most : Option ℕ) (n : ℕ) → n < 2 ^ 64 - 1 → IsAtMost most n → IsAtMost (capped_count (record { least = 0; most = most })).most n
at_most_capped None n few h = tt
at_most_capped (Some most) n few h = omega (arith, few, h)

at_most_plain : (most : Option ℕ) (n : ℕ) → IsAtMost (capped_count (record { least = 0; most = most })).most n → IsAtMost most n
at_most_plain None n h = tt
at_most_plain (Some most) n h = omega (arith, h)

permitted_capped : (count : Count) (n : ℕ) → n < 2 ^ 64 - 1 → IsPermitted count n → IsPermitted (capped_count count) n
permitted_capped count n few h = (omega (arith, few, h.0), at_most_capped count.most n few h.1)

permitted_plain : (count : Count) (n : ℕ) → n < 2 ^ 64 - 1 → IsPermitted (capped_count count) n → IsPermitted count n
permitted_plain count n few h = (omega (arith, few, h.0), at_most_plain count.most n h.1)

-- of the empty string the least number of copies is as good as any
least_serves : (count : Count) → is_reversed count ≡ false → IsPermitted count count.least
least_serves count right = (omega arith, go count.most right) where
  go : (most : Option ℕ) → not (is_at_most most count.least) ≡ false → IsAtMost most count.least
  go None e = tt
  go (Some most) e = leb-true count.least most (turned (is_at_most (Some most) count.least) e) where
    turned : (b : Bool) → not b ≡ false → b ≡ true
    turned true e = refl
    turned false e = absurd cc

least_serves_capped : (count : Count) → is_reversed count ≡ false → IsPermitted (capped_count count) (capped count.least)
least_serves_capped count right = (omega arith, go count.most (least_serves count right).1) where
  go : (most : Option ℕ) → IsAtMost most count.least → IsAtMost (capped_count (record { least = 0; most = most })).most (capped count.least)
  go None h = tt
  go (Some most) h = omega (arith, h)

repetition_capped : (count : Count) (what : Repeated) (text : List ℕ) → is_reversed count ≡ false → length text < 2 ^ 64 - 1 → IsRepetition count what text → IsRepetition (capped_count count) what text
repetition_capped count (members codes) text right few h = (h.0, permitted_capped count (length text) few h.1)
repetition_capped count (copies []) text right few (n, permitted, is) =
    (capped count.least, least_serves_capped count right, is ∙ nothing_copied n ∙ sym (nothing_copied (capped count.least)))
repetition_capped count (copies (c ∷ string)) text right few (n, permitted, is) =
    let fit = rw (sym is) at (copies_fit n c string) in
    (n, permitted_capped count n (omega (arith, fit, few)) permitted, is)
repetition_capped count (passing test) text right few (n, permitted, joined) =
    let fewer = few_joined test (capped count.least) text n (omega (arith, permitted.0)) joined in
    (fewer.number, (fewer.enough, few_at_most count.most fewer.number n (omega (arith, few, fewer.small)) fewer.fewer permitted.1), fewer.joined)
  where
    few_at_most : (most : Option ℕ) (m n : ℕ) → m ≤ 2 ^ 64 - 1 → m ≤ n → IsAtMost most n → IsAtMost (capped_count (record { least = 0; most = most })).most m
    few_at_most None m n fits le h = tt
    few_at_most (Some most) m n fits le h = omega (arith, fits, le, h)

-- of more texts than there are characters one is empty, and it may be joined once more
empty_passes : (test : List ℕ → Bool) (n : ℕ) (text : List ℕ) → length text < n → IsJoined test n text → test [] ≡ true
empty_passes test zero text few joined = absurd (omega (arith, few))
empty_passes test (suc n) text few (front, [], is, first, pass) = pass
empty_passes test (suc n) text few (front, c ∷ last, is, first, pass) = empty_passes test n front (omega (arith, few, ap length is, length-append front (c ∷ last))) first

more_joined : (test : List ℕ → Bool) (k n : ℕ) (text : List ℕ) → test [] ≡ true → IsJoined test n text → IsJoined test (k + n) text
more_joined test zero n text pass joined = let same : n ≡ zero + n = omega arith in subst (λ (m : ℕ). IsJoined test m text) same joined
more_joined test (suc k) n text pass joined =
    let same : suc (k + n) ≡ suc k + n = omega arith in
    subst (λ (m : ℕ). IsJoined test m text) same (text, [], sym (append-nil text), more_joined test k n text pass joined, pass)

repetition_plain : (count : Count) (what : Repeated) (text : List ℕ) → is_reversed count ≡ false → length text < 2 ^ 64 - 1 → IsRepetition (capped_count count) what text → IsRepetition count what text
repetition_plain count (members codes) text right few h = (h.0, permitted_plain count (length text) few h.1)
repetition_plain count (copies []) text right few (n, permitted, is) =
    (count.least, least_serves count right, is ∙ nothing_copied n ∙ sym (nothing_copied count.least))
repetition_plain count (copies (c ∷ string)) text right few (n, permitted, is) =
    let fit = rw (sym is) at (copies_fit n c string) in
    (n, permitted_plain count n (omega (arith, fit, few)) permitted, is)
repetition_plain count (passing test) text right few (n, permitted, joined) = go (nat_le count.least n) refl where
  go : (b : Bool) → nat_le count.least n ≡ b → IsRepetition count (passing test) text
  go true is = (n, (leb-true count.least n is, at_most_plain count.most n permitted.1), joined)
  go false is =
      let under : n < count.least = leb-false count.least n is in
      let pass = empty_passes test n text (omega (arith, few, under, permitted.0)) joined in
      let same : (count.least - n) + n ≡ count.least = omega (arith, under) in
      (count.least, least_serves count right, subst (λ (m : ℕ). IsJoined test m text) same (more_joined test (count.least - n) n text pass joined))

pub neither : (a b : Bool) → (a || b) ≡ false → (a ≡ false) × (b ≡ false)
neither true b e = absurd cc
neither false b e = (refl, e)

-- ---- patterns of trees

joined_alike : (f g : List ℕ → Bool) (bound : ℕ) → ((s : List ℕ) → length s < bound → f s ≡ g s) → (n : ℕ) (t : List ℕ) → length t < bound → IsJoined f n t → IsJoined g n t
joined_alike f g bound same zero t few joined = joined
joined_alike f g bound same (suc n) t few (front, last, is, first, pass) =
    let size : length t ≡ length front + length last = ap length is ∙ length-append front last in
    (front, last, is, joined_alike f g bound same n front (omega (arith, size, few)) first, sym (same last (omega (arith, size, few))) ∙ pass)

decided_alike : (xs ys : List Atom) (t : List ℕ) → (Matches xs t ↔ Matches ys t) → is_match xs t ≡ is_match ys t
decided_alike xs ys t alike =
    let one = decides_match xs t in
    let moved : Decides (is_match xs t) (Matches ys t) = (λ e. alike.0 (one.0 e), λ m. one.1 (alike.1 m)) in
    same_from_decides (is_match xs t) (is_match ys t) moved (decides_match ys t)

mutual
  repeated_kept : (p : RepeatedTree) → has_reversed p ≡ false → (c : Count) → is_reversed c ≡ false → (t : List ℕ) → length t < 2 ^ 64 - 1
      → IsRepetition (capped_count c) (kept_repeated p) t ↔ IsRepetition c (repeated_of p) t
  repeated_kept (classes letters) right c counts t few = (repetition_plain c (kept_repeated (classes letters)) t counts few, repetition_capped c (kept_repeated (classes letters)) t counts few)
  repeated_kept (copies_tree s) right c counts t few = (repetition_plain c (copies s) t counts few, repetition_capped c (copies s) t counts few)
  repeated_kept (group ps) right c counts t few =
      let same = any_kept ps right in (
        λ h.
            let p = repetition_plain c (passing (λ s. is_any_kept ps s)) t counts few h in
            (p.0, p.1, joined_alike (λ s. is_any_kept ps s) (λ s. is_any_match ps s) (2 ^ 64 - 1) same p.0 t few p.2),
        λ h.
            repetition_capped c (passing (λ s. is_any_kept ps s)) t counts few
            (h.0, h.1, joined_alike (λ s. is_any_match ps s) (λ s. is_any_kept ps s) (2 ^ 64 - 1) (λ s l. sym (same s l)) h.0 t few h.2),
      )

  run_kept : (s : AtomsTree) → run_reversed s ≡ false → (t : List ℕ) → length t < 2 ^ 64 - 1 → Matches (kept_run s) t ↔ Matches (atoms_in s) t
  run_kept no_atoms right t few = (λ h. h, λ h. h)
  run_kept (more_atoms n p rest) right t few =
      let both = neither (is_reversed (plain_count n) || has_reversed p) (run_reversed rest) right in
      let one = neither (is_reversed (plain_count n)) (has_reversed p) both.0 in (
        λ m.
            let size : length t ≡ length m.0 + length m.1 = ap length m.2 ∙ length-append m.0 m.1 in
            (m.0, m.1, m.2, (repeated_kept p one.1 (plain_count n) one.0 m.0 (omega (arith, size, few))).0 m.3, (run_kept rest both.1 m.1 (omega (arith, size, few))).0 m.4),
        λ m.
            let size : length t ≡ length m.0 + length m.1 = ap length m.2 ∙ length-append m.0 m.1 in
            (m.0, m.1, m.2, (repeated_kept p one.1 (plain_count n) one.0 m.0 (omega (arith, size, few))).1 m.3, (run_kept rest both.1 m.1 (omega (arith, size, few))).1 m.4),
      )

  any_kept : (ps : PatternsTree) → patterns_reversed ps ≡ false → (t : List ℕ) → length t < 2 ^ 64 - 1 → is_any_kept ps t ≡ is_any_match ps t
  any_kept no_patterns right t few = refl
  any_kept (more_patterns p rest) right t few =
      let both = neither (run_reversed p) (patterns_reversed rest) right in
      ap (λ (b : Bool). b || is_any_kept rest t) (decided_alike (kept_run p) (atoms_in p) t (run_kept p both.0 t few))
      ∙ ap (λ (b : Bool). is_match (atoms_in p) t || b) (any_kept rest both.1 t few)

atoms_kept : (atoms : List AtomTree) → list_any atom_reversed atoms ≡ false → (t : List ℕ) → length t < 2 ^ 64 - 1 → Matches (map kept_atom atoms) t ↔ Matches (map atom_of atoms) t
atoms_kept [] right t few = (λ h. h, λ h. h)
atoms_kept (a ∷ atoms) right t few =
    let both = neither (atom_reversed a) (list_any atom_reversed atoms) right in
    let one = neither (is_reversed (plain_count a.count)) (has_reversed a.repeated) both.0 in (
      λ m.
          let size : length t ≡ length m.0 + length m.1 = ap length m.2 ∙ length-append m.0 m.1 in
          (m.0, m.1, m.2, (repeated_kept a.repeated one.1 (plain_count a.count) one.0 m.0 (omega (arith, size, few))).0 m.3, (atoms_kept atoms both.1 m.1 (omega (arith, size, few))).0 m.4),
      λ m.
          let size : length t ≡ length m.0 + length m.1 = ap length m.2 ∙ length-append m.0 m.1 in
          (m.0, m.1, m.2, (repeated_kept a.repeated one.1 (plain_count a.count) one.0 m.0 (omega (arith, size, few))).1 m.3, (atoms_kept atoms both.1 m.1 (omega (arith, size, few))).1 m.4),
    )

pub match_is : (atoms : List AtomTree) (text : Text) (answer : Bool) → list_any atom_reversed atoms ≡ false → length text < 2 ^ 64 - 1
    → Decides answer (Matches (map kept_atom atoms) text) → answer ≡ is_match (map atom_of atoms) text
match_is atoms text answer right few decided =
    let alike = atoms_kept atoms right text few in
    let plain : Decides answer (Matches (map atom_of atoms) text) = (λ t. alike.0 (decided.0 t), λ m. decided.1 (alike.1 m)) in
    same_from_decides answer (is_match (map atom_of atoms) text) plain (decides_match (map atom_of atoms) text)
