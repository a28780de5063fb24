-- SPDX-License-Identifier: Apache-2.0
-- What is read of a pattern is spelled so, and what is spelled so is read.
use Rattle.mgrammar.proofs.GrammarWords.{Read, ◌≡◌, ℕ, ◌<◌, ◌≤◌, Bool, true, false, cond, eqb, List, [], ◌∷◌, ◌++◌, length, Option, Some, None, inl, inr, refl}
use Rattle.mgrammar.proofs.GrammarWords.{sym, ap, subst, ◌∙◌, append_assoc, arith, ◌||◌, eqb-true, nat_tests, append-nil, is_digit, is_letter, AllAre, zero}
use Rattle.mgrammar.proofs.GrammarWords.{suc, ◌-◌, CountTree, RepeatedTree, classes, copies, group, AtomsTree, no_atoms, more_atoms, PatternsTree, no_patterns}
use Rattle.mgrammar.proofs.GrammarWords.{more_patterns, patterns_of, atoms_of, AtomTree, quoted, spell_string, spell_behind, spell_repeated, spell_run}
use Rattle.mgrammar.proofs.GrammarWords.{spell_patterns, spell_more_patterns, spell_list, spell_more, spell_atom, spell_atoms, is_pattern_letter, IsCount}
use Rattle.mgrammar.proofs.GrammarWords.{WellCount, HasAtom, HasPattern, WellRepeated, WellRun, WellPatterns, WellAtom, WellAll, WellList, past, list_at, ◌>>=◌}
use Rattle.mgrammar.proofs.GrammarWords.{run_of, after_run, text_from, many, behind_of, after_behind, is_count, count_at, classes_by, repeated_with}
use Rattle.mgrammar.proofs.GrammarWords.{is_digit_or_point, atom_with, pattern_by, pattern_with, group_at, pattern_at}
use Rattle.mgrammar.proofs.ReadingBasics.{Takes, Again, Stops, Stops-weaker, Begins, Begins-stops, Begins-long, goes_on, bind_some, chosen, some_is, past_takes}
use Rattle.mgrammar.proofs.ReadingBasics.{run_parts, run_again, text_takes, text_again}
use Rattle.mgrammar.proofs.ReadingLists.{each, ItemTakes, many_takes, many_again, count_le, list_takes, list_again}
use Rattle.mgrammar.proofs.ReadingNumbers.{digit_first}

-- ---- counts

abbrev spell_count : CountTree → List ℕ
spell_count n = n.front ++ spell_behind n.behind

-- what comes after a point that was read, or none
abbrev IsBehind : Option (List ℕ) → Type 0
IsBehind None = Unit {0}
IsBehind (Some ds) = AllAre is_digit ds

abbrev BehindIs : List ℕ → Option (List ℕ) → List ℕ → Type 0
BehindIs cs o rest = (cs ≡ spell_behind o ++ rest) × IsBehind o

behind_test : (c : ℕ) (cs : List ℕ) (b : Bool) → eqb c 46 ≡ b → BehindIs (c ∷ cs) (cond b (Some (run_of is_digit cs)) None) (cond b (after_run is_digit cs) (c ∷ cs))
behind_test c cs true h =
    let r = run_parts is_digit cs in
    let at : c ≡ 46 = eqb-true _ _ h in
    (rw at (ap (λ (x : List ℕ). 46 ∷ x) r.0), r.1)
behind_test c cs false h = (refl, tt)

behind_parts : (cs : List ℕ) → BehindIs cs (behind_of cs) (after_behind cs)
behind_parts [] = (refl, tt)
behind_parts (c ∷ cs) = behind_test c cs (eqb c 46) refl

count_is : (front : List ℕ) (o : Option (List ℕ)) → is_count front o ≡ true → AllAre is_digit front → IsBehind o → IsCount front o
count_is front None h all b =
    let short : length front ≤ 4 = grind (arith, nat_tests, h) in
    let long : 0 < length front = grind (arith, nat_tests, h) in
    ((all, short), long)
count_is front (Some behind) h all b =
    let short : length front ≤ 4 = grind (arith, nat_tests, h) in
    let short_behind : length behind ≤ 4 = grind (arith, nat_tests, h) in
    ((all, short), (b, short_behind))

two_parts : (cs a r b rest : List ℕ) → cs ≡ a ++ r → r ≡ b ++ rest → cs ≡ (a ++ b) ++ rest
two_parts cs a r b rest p q = rw (p, q, append_assoc) refl

count_takes : Takes spell_count WellCount count_at
unfolding count_at
count_takes cs x e =
    let front = run_of is_digit cs in
    let after = after_run is_digit cs in
    let r = run_parts is_digit cs in
    let b = behind_parts after in
    elim (chosen (is_count front (behind_of after)) (Some (record { front = front; behind = behind_of after }, after_behind after)) None (Some x) e) [
      | inl p ↦
          subst (λ (y : CountTree × List ℕ). (cs ≡ spell_count y.0 ++ y.1) × WellCount y.0) (some_is (record { front = front; behind = behind_of after }, after_behind after) x p.1)
          (two_parts cs front after (spell_behind (behind_of after)) (after_behind after) r.0 b.0, count_is front (behind_of after) p.0 r.1 b.1)
      | inr p ↦ absurd cc
    ]

not_count : (c : ℕ) → is_digit_or_point c ≡ false → (is_digit c ≡ false) × (eqb c 46 ≡ false)
not_count c h = (grind (arith, nat_tests), grind (arith, nat_tests))

no_behind : (rest : List ℕ) → Stops (λ c. eqb c 46) rest → (behind_of rest ≡ None) × (after_behind rest ≡ rest)
no_behind [] s = (refl, refl)
no_behind (c ∷ rest) s = (rw s refl, rw s refl)

behind_again : (o : Option (List ℕ)) (rest : List ℕ) → IsBehind o → Stops is_digit_or_point rest → (behind_of (spell_behind o ++ rest) ≡ o) × (after_behind (spell_behind o ++ rest) ≡ rest)
behind_again None rest b s = no_behind rest (Stops-weaker is_digit_or_point (λ c. eqb c 46) rest (λ c h. (not_count c h).1) s)
behind_again (Some ds) rest b s =
    let r = run_again is_digit ds rest b (Stops-weaker is_digit_or_point is_digit rest (λ c h. (not_count c h).0) s) in
    (rw r.0 refl, r.1)

behind_stops : (o : Option (List ℕ)) (rest : List ℕ) → Stops is_digit_or_point rest → Stops is_digit (spell_behind o ++ rest)
behind_stops None rest s = Stops-weaker is_digit_or_point is_digit rest (λ c h. (not_count c h).0) s
behind_stops (Some ds) rest s = refl

is_count_true : (front : List ℕ) (o : Option (List ℕ)) → IsCount front o → (is_count front o ≡ true) × AllAre is_digit front × IsBehind o
is_count_true front None w = (grind (arith, nat_tests, w.0.1, w.1), w.0.0, tt)
is_count_true front (Some behind) w = (grind (arith, nat_tests, w.0.1, w.1.1), w.0.0, w.1.0)

count_again : Again spell_count WellCount (Stops is_digit_or_point) count_at
unfolding count_at
count_again n rest w s =
    let t = is_count_true n.front n.behind w in
    let r = run_again is_digit n.front (spell_behind n.behind ++ rest) t.1 (behind_stops n.behind rest s) in
    let b = behind_again n.behind rest t.2 s in
    ap count_at (append_assoc n.front (spell_behind n.behind) rest) ∙ rw (r.0, r.1, b.0, b.1, t.0) refl

-- ---- what is repeated

classes_takes : (d : ℕ) (ls rest : List ℕ) (x : RepeatedTree × List ℕ) → AllAre is_pattern_letter ls → classes_by ls rest ≡ Some x → (ls ++ rest ≡ spell_repeated x.0 ++ x.1) × WellRepeated d x.0
classes_takes d [] rest x all e = absurd cc
classes_takes d (l ∷ ls) rest x all e =
    let long : 0 < length (l ∷ ls) = omega arith in
    subst (λ (y : RepeatedTree × List ℕ). ((l ∷ ls) ++ rest ≡ spell_repeated y.0 ++ y.1) × WellRepeated d y.0) (some_is (classes (l ∷ ls), rest) x e) (refl, (all, long))

quote_cells : (c : ℕ) (cs t rest : List ℕ) → c ≡ 34 → cs ≡ quoted t ++ 34 ∷ rest → c ∷ cs ≡ spell_string t ++ rest
quote_cells c cs t rest p q = rw (p, q, append_assoc) refl

-- a character that would go on with what is repeated
abbrev goes_on_repeated : ℕ → Bool
goes_on_repeated c = is_letter c || eqb c 34

pattern_letter : (c : ℕ) → is_pattern_letter c ≡ true → (is_letter c ≡ true) × (eqb c 34 ≡ false) × (is_digit_or_point c ≡ false) × (eqb c 40 ≡ false)
pattern_letter c h = (grind (arith, nat_tests), grind (arith, nat_tests), grind (arith, nat_tests), grind (arith, nat_tests))

not_repeated : (c : ℕ) → goes_on_repeated c ≡ false → (is_pattern_letter c ≡ false) × (eqb c 34 ≡ false)
not_repeated c h = (grind (arith, nat_tests), grind (arith, nat_tests))

-- what is repeated begins with no digit and no point
repeated_begins : (d : ℕ) (p : RepeatedTree) (rest : List ℕ) → WellRepeated d p → Stops is_digit_or_point (spell_repeated p ++ rest)
repeated_begins d (classes []) rest w = absurd (omega (arith, w.1))
repeated_begins d (classes (l ∷ ls)) rest w = (pattern_letter l w.0.0).2
repeated_begins d (copies t) rest w = refl
repeated_begins d (group ps) rest w = refl

-- ---- atoms

count_begins : (front : List ℕ) (o : Option (List ℕ)) (rest : List ℕ) → IsCount front o → Begins is_digit_or_point (front ++ (spell_behind o ++ rest))
count_begins [] None rest w = absurd (omega (arith, w.1))
count_begins (c ∷ cs) None rest w = digit_first c w.0.0.0
count_begins [] (Some ds) rest w = refl
count_begins (c ∷ cs) (Some ds) rest w = digit_first c w.0.0.0

atom_parts : (a : AtomTree) (rest : List ℕ) → spell_atom a ++ rest ≡ a.count.front ++ (spell_behind a.count.behind ++ (spell_repeated a.repeated ++ rest))
atom_parts a rest = simp append_assoc

atom_begins : (d : ℕ) (a : AtomTree) (rest : List ℕ) → WellAtom d a → Begins is_digit_or_point (spell_atom a ++ rest)
atom_begins d a rest w = subst (Begins is_digit_or_point) (sym (atom_parts a rest)) (count_begins a.count.front a.count.behind (spell_repeated a.repeated ++ rest) w.0)

pub pattern_begins : (d : ℕ) (atoms : List AtomTree) (rest : List ℕ) → WellList (WellAtom d) atoms → Begins is_digit_or_point (spell_atoms atoms ++ rest)
pattern_begins d [] rest w = absurd w
pattern_begins d (a ∷ more) rest w = subst (Begins is_digit_or_point) (sym (append_assoc (spell_atom a) (spell_atoms more) rest)) (atom_begins d a (spell_atoms more ++ rest) w.0)

-- what may follow an atom
abbrev AtomEnds : List ℕ → Type 0
AtomEnds rest = Stops goes_on_repeated rest

count_again_parts : (d : ℕ) (a : AtomTree) (rest : List ℕ) → WellAtom d a → count_at (spell_atom a ++ rest) ≡ Some (a.count, spell_repeated a.repeated ++ rest)
count_again_parts d a rest w =
    ap count_at (atom_parts a rest ∙ sym (append_assoc a.count.front (spell_behind a.count.behind) (spell_repeated a.repeated ++ rest)))
    ∙ count_again a.count (spell_repeated a.repeated ++ rest) w.0 (repeated_begins d a.repeated rest w.1)

count_character : (c : ℕ) → is_digit_or_point c ≡ true → goes_on_repeated c ≡ false
count_character c h = grind (arith, nat_tests)

-- ---- patterns

spell_atoms-each : (xs : List AtomTree) → spell_atoms xs ≡ each spell_atom xs
spell_atoms-each [] = refl
spell_atoms-each (x ∷ xs) = ap (λ (y : List ℕ). spell_atom x ++ y) (spell_atoms-each xs)

pattern_takes_by : (d : ℕ) (cs : List ℕ) (atoms : List AtomTree) (rest : List ℕ) (x : List AtomTree × List ℕ) → cs ≡ each spell_atom atoms ++ rest → WellAll (WellAtom d) atoms → pattern_by atoms rest ≡ Some x
    → (cs ≡ spell_atoms x.0 ++ x.1) × WellList (WellAtom d) x.0
pattern_takes_by d cs [] rest x parts w e = absurd cc
pattern_takes_by d cs (a ∷ more) rest x parts w e =
    subst (λ (y : List AtomTree × List ℕ). (cs ≡ spell_atoms y.0 ++ y.1) × WellList (WellAtom d) y.0) (some_is (a ∷ more, rest) x e)
    (parts ∙ ap (λ (y : List ℕ). y ++ rest) (sym (spell_atoms-each (a ∷ more))), w)

not_pattern : (c : ℕ) → goes_on c ≡ false → (is_digit_or_point c ≡ false) × (goes_on_repeated c ≡ false)
not_pattern c h = (grind (arith, nat_tests), grind (arith, nat_tests))

atoms_well : (d : ℕ) (atoms : List AtomTree) → WellList (WellAtom d) atoms → WellAll (WellAtom d) atoms
atoms_well d [] w = absurd w
atoms_well d (a ∷ more) w = w

-- ---- groups

-- what comes after the bracket of a group
abbrev pub spell_group : PatternsTree → List ℕ
spell_group ps = spell_patterns ps ++ 41 ∷ []

abbrev pub WellGroup : ℕ → PatternsTree → Type 0
WellGroup d ps = (0 < d) × HasPattern ps × WellPatterns (d - 1) ps

-- runs of atoms, and patterns, as lists
abbrev atoms_list : AtomsTree → List AtomTree
atoms_list no_atoms = []
atoms_list (more_atoms n p rest) = record { count = n; repeated = p } ∷ atoms_list rest

atoms_back : (s : AtomsTree) → atoms_of (atoms_list s) ≡ s
atoms_back no_atoms = refl
atoms_back (more_atoms n p rest) = ap (λ (x : AtomsTree). more_atoms n p x) (atoms_back rest)

abbrev patterns_list : PatternsTree → List (List AtomTree)
patterns_list no_patterns = []
patterns_list (more_patterns p rest) = atoms_list p ∷ patterns_list rest

patterns_back : (s : PatternsTree) → patterns_of (patterns_list s) ≡ s
patterns_back no_patterns = refl
patterns_back (more_patterns p rest) = rw (atoms_back p, patterns_back rest) refl

pub spell_run-list : (atoms : List AtomTree) → spell_run (atoms_of atoms) ≡ spell_atoms atoms
spell_run-list [] = refl
spell_run-list (a ∷ rest) = ap (λ (y : List ℕ). spell_atom a ++ y) (spell_run-list rest)

more_patterns-list : (ps : List (List AtomTree)) → spell_more_patterns (patterns_of ps) ≡ spell_more spell_atoms ps
more_patterns-list [] = refl
more_patterns-list (p ∷ ps) = rw (spell_run-list p, more_patterns-list ps) refl

spell_patterns-list : (ps : List (List AtomTree)) → spell_patterns (patterns_of ps) ≡ spell_list spell_atoms ps
spell_patterns-list [] = refl
spell_patterns-list (p ∷ ps) = rw (spell_run-list p, more_patterns-list ps) refl

run_well : (d : ℕ) (atoms : List AtomTree) → WellAll (WellAtom d) atoms → WellRun d (atoms_of atoms)
run_well d [] w = tt
run_well d (a ∷ rest) w = (w.0, run_well d rest w.1)

some_well : (d : ℕ) (atoms : List AtomTree) → WellList (WellAtom d) atoms → HasAtom (atoms_of atoms) × WellRun d (atoms_of atoms)
some_well d [] w = absurd w
some_well d (a ∷ rest) w = (tt, run_well d (a ∷ rest) w)

patterns_well : (d : ℕ) (ps : List (List AtomTree)) → WellAll (WellList (WellAtom d)) ps → WellPatterns d (patterns_of ps)
patterns_well d [] w = tt
patterns_well d (p ∷ ps) w = (some_well d p w.0, patterns_well d ps w.1)

group_well : (d : ℕ) (ps : List (List AtomTree)) → WellList (WellList (WellAtom d)) ps → WellGroup (suc d) (patterns_of ps)
group_well d [] w = absurd w
group_well d (p ∷ ps) w =
    let same : d ≡ suc d - 1 = omega arith in
    (omega arith, tt, subst (λ (n : ℕ). WellPatterns n (patterns_of (p ∷ ps))) same (patterns_well d (p ∷ ps) w))

run_each : (d : ℕ) (s : AtomsTree) → WellRun d s → WellAll (WellAtom d) (atoms_list s)
run_each d no_atoms w = tt
run_each d (more_atoms n p rest) w = (w.0, run_each d rest w.1)

some_each : (d : ℕ) (s : AtomsTree) → HasAtom s → WellRun d s → WellList (WellAtom d) (atoms_list s)
some_each d no_atoms h w = absurd h
some_each d (more_atoms n p rest) h w = run_each d (more_atoms n p rest) w

patterns_each : (d : ℕ) (s : PatternsTree) → WellPatterns d s → WellAll (WellList (WellAtom d)) (patterns_list s)
patterns_each d no_patterns w = tt
patterns_each d (more_patterns p rest) w = (some_each d p w.0.0 w.0.1, patterns_each d rest w.1)

group_each : (d : ℕ) (s : PatternsTree) → WellGroup (suc d) s → WellList (WellList (WellAtom d)) (patterns_list s)
group_each d no_patterns w = absurd w.1
group_each d (more_patterns p rest) w =
    let same : suc d - 1 ≡ d = omega arith in
    patterns_each d (more_patterns p rest) (subst (λ (n : ℕ). WellPatterns n (more_patterns p rest)) same w.2)

-- ---- with what reads a group

module _ (d : ℕ) (grouped : List ℕ → Read PatternsTree) (grouped_takes : Takes spell_group (WellGroup d) grouped) where
  repeated_takes : Takes spell_repeated (WellRepeated d) (repeated_with grouped)
  unfolding repeated_with
  repeated_takes [] x e = absurd cc
  repeated_takes (c ∷ cs) x e =
      let ls = run_of is_pattern_letter (c ∷ cs) in
      let after = after_run is_pattern_letter (c ∷ cs) in
      elim (chosen (eqb c 34) (text_from false cs >>= λ y. Some (copies y.0, y.1)) (cond (eqb c 40) (grouped cs >>= λ y. Some (group y.0, y.1)) (classes_by ls after)) (Some x) e) [
        | inl p ↦
            let b = bind_some (text_from false cs) (λ y. Some (copies y.0, y.1)) x p.1 in
            let t = text_takes false cs b.0 b.1 in
            subst (λ (y : RepeatedTree × List ℕ). (c ∷ cs ≡ spell_repeated y.0 ++ y.1) × WellRepeated d y.0) (some_is (copies b.0.0, b.0.1) x b.2)
            (quote_cells c cs b.0.0 b.0.1 (eqb-true _ _ p.0) t.0, t.1)
        | inr q ↦ elim (chosen (eqb c 40) (grouped cs >>= λ y. Some (group y.0, y.1)) (classes_by ls after) (Some x) q.1) [
          | inl p ↦
              let b = bind_some (grouped cs) (λ y. Some (group y.0, y.1)) x p.1 in
              let t = grouped_takes cs b.0 b.1 in
              let at : c ≡ 40 = eqb-true _ _ p.0 in
              subst (λ (y : RepeatedTree × List ℕ). (c ∷ cs ≡ spell_repeated y.0 ++ y.1) × WellRepeated d y.0) (some_is (group b.0.0, b.0.1) x b.2)
              (rw at (ap (λ (y : List ℕ). 40 ∷ y) t.0), t.1)
          | inr p ↦
              let r = run_parts is_pattern_letter (c ∷ cs) in
              let t = classes_takes d ls after x r.1 p.1 in
              (r.0 ∙ t.0, t.1)
        ]
      ]

  atom_takes : ItemTakes spell_atom (WellAtom d) (atom_with grouped)
  unfolding atom_with
  atom_takes [] x e = absurd cc
  atom_takes (c ∷ cs) x e =
      elim (chosen (is_digit_or_point c) (count_at (c ∷ cs) >>= λ n. repeated_with grouped n.1 >>= λ y. Some (Some (record { count = n.0; repeated = y.0 }, y.1))) (Some None) (Some (Some x)) e) [
        | inl p ↦
            let n = bind_some (count_at (c ∷ cs)) (λ n. repeated_with grouped n.1 >>= λ y. Some (Some (record { count = n.0; repeated = y.0 }, y.1))) (Some x) p.1 in
            let y = bind_some (repeated_with grouped n.0.1) (λ y. Some (Some (record { count = n.0.0; repeated = y.0 }, y.1))) (Some x) n.2 in
            let count = count_takes (c ∷ cs) n.0 n.1 in
            let repeated = repeated_takes n.0.1 y.0 y.1 in
            let made : AtomTree × List ℕ = (record { count = n.0.0; repeated = y.0.0 }, y.0.1) in
            let parts : c ∷ cs ≡ spell_atom made.0 ++ made.1 =
            two_parts (c ∷ cs) (spell_count n.0.0) n.0.1 (spell_repeated y.0.0) y.0.1 count.0 repeated.0
            ∙ ap (λ (z : List ℕ). z ++ y.0.1) (append_assoc n.0.0.front (spell_behind n.0.0.behind) (spell_repeated y.0.0)) in
            subst (λ (z : AtomTree × List ℕ). (c ∷ cs ≡ spell_atom z.0 ++ z.1) × WellAtom d z.0) (some_is made x (some_is (Some made) (Some x) y.2)) (parts, (count.1, repeated.1))
        | inr p ↦ absurd cc
      ]

  pub pattern_takes : Takes spell_atoms (WellList (WellAtom d)) (pattern_with grouped)
  unfolding pattern_with
  pattern_takes cs x e =
      let b = bind_some (many (atom_with grouped) (length cs) cs) (λ y. pattern_by y.0 y.1) x e in
      let m = many_takes spell_atom (WellAtom d) (atom_with grouped) atom_takes (length cs) cs b.0 b.1 in
      pattern_takes_by d cs b.0.0 b.0.1 x m.0 m.1 b.2

module _ (d : ℕ) (grouped : List ℕ → Read PatternsTree) (grouped_again : Again spell_group (WellGroup d) (λ rest. Unit {0}) grouped) where
  repeated_again : Again spell_repeated (WellRepeated d) (Stops goes_on_repeated) (repeated_with grouped)
  unfolding repeated_with
  repeated_again (classes []) rest w s = absurd (omega (arith, w.1))
  repeated_again (classes (l ∷ ls)) rest w s =
      let r = run_again is_pattern_letter (l ∷ ls) rest w.0 (Stops-weaker goes_on_repeated is_pattern_letter rest (λ c h. (not_repeated c h).0) s) in
      let p = pattern_letter l w.0.0 in
      rw (p.1, p.3, r.0, r.1) refl
  repeated_again (copies t) rest w s =
      ap (repeated_with grouped) (ap (λ (y : List ℕ). 34 ∷ y) (append_assoc (quoted t) (34 ∷ []) rest))
      ∙ rw (text_again t rest w (Stops-weaker goes_on_repeated (λ c. eqb c 34) rest (λ c h. (not_repeated c h).1) s)) refl
  repeated_again (group ps) rest w s = rw (grouped_again ps rest w tt) refl

  begins_atom : (cs ds : List ℕ) (n : CountTree) (y : RepeatedTree) (rest : List ℕ) → Begins is_digit_or_point cs → count_at cs ≡ Some (n, ds) → repeated_with grouped ds ≡ Some (y, rest)
      → atom_with grouped cs ≡ Some (Some (record { count = n; repeated = y }, rest))
  unfolding atom_with
  begins_atom [] ds n y rest b p q = absurd b
  begins_atom (c ∷ cs) ds n y rest b p q = rw (b, p, q) refl

  atom_again : (a : AtomTree) (rest : List ℕ) → WellAtom d a → AtomEnds rest → atom_with grouped (spell_atom a ++ rest) ≡ Some (Some (a, rest))
  atom_again a rest w s =
      begins_atom (spell_atom a ++ rest) (spell_repeated a.repeated ++ rest) a.count a.repeated rest (atom_begins d a rest w) (count_again_parts d a rest w) (repeated_again a.repeated rest w.1 s)

  no_atom : (rest : List ℕ) → Stops is_digit_or_point rest → atom_with grouped rest ≡ Some None
  unfolding atom_with
  no_atom [] s = refl
  no_atom (c ∷ rest) s = rw s refl

  atoms_by : (cs : List ℕ) (atoms : List AtomTree) (rest : List ℕ) → WellList (WellAtom d) atoms → many (atom_with grouped) (length cs) cs ≡ Some (atoms, rest) → pattern_with grouped cs ≡ Some (atoms, rest)
  unfolding pattern_with
  atoms_by cs [] rest w e = absurd w
  atoms_by cs (a ∷ more) rest w e = rw e refl

  pub pattern_again : Again spell_atoms (WellList (WellAtom d)) (Stops goes_on) (pattern_with grouped)
  pattern_again atoms rest w s =
      let all = atoms_well d atoms w in
      let enough = count_le spell_atom (WellAtom d) (atom_with grouped) (λ a v. Begins-long is_digit_or_point (spell_atom a) (subst (Begins is_digit_or_point) (append-nil (spell_atom a)) (atom_begins d a [] v))) atoms rest all in
      let ends = Stops-weaker goes_on goes_on_repeated rest (λ c h. (not_pattern c h).1) s in
      let none = no_atom rest (Stops-weaker goes_on is_digit_or_point rest (λ c h. (not_pattern c h).0) s) in
      let m = many_again spell_atom (WellAtom d) (atom_with grouped) AtomEnds atom_again (λ a cs v. Begins-stops is_digit_or_point goes_on_repeated (spell_atom a ++ cs) count_character (atom_begins d a cs v)) (length (each spell_atom atoms ++ rest)) atoms rest enough all ends none in
      atoms_by (spell_atoms atoms ++ rest) atoms rest w (ap (λ (y : List ℕ). many (atom_with grouped) (length (y ++ rest)) (y ++ rest)) (spell_atoms-each atoms) ∙ m)

-- ---- at a depth

closed_parts : (cs t last rest u : List ℕ) → cs ≡ t ++ last → last ≡ 41 ∷ rest → u ≡ t → cs ≡ (u ++ 41 ∷ []) ++ rest
closed_parts cs t last rest u p q e = rw (p, q, e, append_assoc) refl

group_takes : (d : ℕ) → Takes spell_group (WellGroup d) (group_at d)
unfolding group_at
group_takes zero cs x e = absurd cc
group_takes (suc d) cs x e =
    let item = pattern_with (group_at d) in
    let b = bind_some (list_at item cs) (λ y. past 41 y.1 >>= λ rest. Some (patterns_of y.0, rest)) x e in
    let k = bind_some (past 41 b.0.1) (λ rest. Some (patterns_of b.0.0, rest)) x b.2 in
    let t = list_takes spell_atoms (WellList (WellAtom d)) item (pattern_takes d (group_at d) (group_takes d)) cs b.0 b.1 in
    let parts : cs ≡ spell_group (patterns_of b.0.0) ++ k.0 =
    closed_parts cs (spell_list spell_atoms b.0.0) b.0.1 k.0 (spell_patterns (patterns_of b.0.0)) t.0 (past_takes 41 b.0.1 k.0 k.1) (spell_patterns-list b.0.0) in
    subst (λ (y : PatternsTree × List ℕ). (cs ≡ spell_group y.0 ++ y.1) × WellGroup (suc d) y.0) {x = (patterns_of b.0.0, k.0)} (some_is (patterns_of b.0.0, k.0) x k.2) (parts, group_well d b.0.0 t.1)

group_again : (d : ℕ) → Again spell_group (WellGroup d) (λ rest. Unit {0}) (group_at d)
unfolding group_at
group_again zero ps rest w s = absurd (omega (arith, w.0))
group_again (suc d) ps rest w s =
    let item = pattern_with (group_at d) in
    let xs = patterns_list ps in
    let l = list_again spell_atoms (WellList (WellAtom d)) item (Stops goes_on) (λ cs. refl) (pattern_again d (group_at d) (group_again d)) xs (41 ∷ rest) (group_each d ps w) (refl, refl) in
    let spelled : spell_group ps ++ rest ≡ spell_list spell_atoms xs ++ 41 ∷ rest =
    ap (λ (y : PatternsTree). spell_group y ++ rest) (sym (patterns_back ps)) ∙ rw (spell_patterns-list xs, append_assoc) refl in
    ap (group_at (suc d)) spelled ∙ rw (l, patterns_back ps) refl

pub pattern_at_takes : (d : ℕ) → Takes spell_atoms (WellList (WellAtom d)) (pattern_at d)
unfolding pattern_at
pattern_at_takes d = pattern_takes d (group_at d) (group_takes d)

pub pattern_at_again : (d : ℕ) → Again spell_atoms (WellList (WellAtom d)) (Stops goes_on) (pattern_at d)
unfolding pattern_at
pattern_at_again d = pattern_again d (group_at d) (group_again d)
