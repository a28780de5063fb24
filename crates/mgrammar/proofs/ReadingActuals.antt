-- SPDX-License-Identifier: Apache-2.0
-- What is read of an entry and of a list of actuals is spelled so, and what is spelled so is read.
use Rattle.mgrammar.proofs.GrammarWords.{◌≡◌, ℕ, Bool, false, true, eqb, List, [], ◌∷◌, ◌++◌, Option, Some, None, inl, inr, refl, sym, ap, subst, ◌∙◌}
use Rattle.mgrammar.proofs.GrammarWords.{append_assoc, eqb-true, arith, nat_tests, is_name_start, is_name_rest, IsName, RoutineTree, own_routine}
use Rattle.mgrammar.proofs.GrammarWords.{shared_routine, EntryTree, at_label, at_label_in, at_routine, ActualTree, ActualsTree, no_actuals, actuals, actuals_of}
use Rattle.mgrammar.proofs.GrammarWords.{quoted, spell_string, spell_routine, spell_entry, spell_actual, spell_actuals, spell_called, spell_list, spell_more}
use Rattle.mgrammar.proofs.GrammarWords.{AllAre, is_character, WellRoutine, WellEntry, WellActuals, WellCalled, WellList, ◌>>=◌, name_at, text_from, past}
use Rattle.mgrammar.proofs.GrammarWords.{list_at, routine_by, routine_at, shared_at, entry_by, entry_at, is_actual_end, Readers, actuals_with, called_with}
use Rattle.mgrammar.specs.Reading.{label_by}
use Rattle.mgrammar.proofs.ReadingBasics.{IsRead, Takes, Again, Stops, Stops-weaker, Begins, Begins-append, goes_on, bind_some, chosen, some_is, past_takes}
use Rattle.mgrammar.proofs.ReadingBasics.{not_past, name_takes, name_again, text_takes, text_again}
use Rattle.mgrammar.proofs.ReadingOperators.{is_operator}
use Rattle.mgrammar.proofs.ReadingLists.{joined, joined_by, enclosed, list_takes, list_again}
use Rattle.mgrammar.proofs.ReadingReferences.{Ends, is_open, name_or_open, named, name_in_front}
use Rattle.mgrammar.proofs.ReadingTrees.{WellHanded, actuals_list, actuals_back, more_actuals-list, actuals_well, actuals_inner}

-- ---- routines

-- the text of one of another account, with what follows it
shared_text : (account name rest : List ℕ) → (124 ∷ (spell_string account ++ 124 ∷ name)) ++ rest ≡ 124 ∷ 34 ∷ (quoted account ++ 34 ∷ 124 ∷ (name ++ rest))
shared_text account name rest = simp append_assoc

-- and from its parts
shared_cells : (cs inside t u v account name rest : List ℕ) → cs ≡ 124 ∷ inside → inside ≡ 34 ∷ t → t ≡ quoted account ++ 34 ∷ u
    → u ≡ 124 ∷ v → v ≡ name ++ rest → cs ≡ (124 ∷ (spell_string account ++ 124 ∷ name)) ++ rest
shared_cells cs inside t u v account name rest p q s k l =
    let whole : cs ≡ 124 ∷ 34 ∷ (quoted account ++ 34 ∷ 124 ∷ (name ++ rest)) = rw (p, q, s, k, l) refl in
    whole ∙ sym (shared_text account name rest)

shared_takes : (cs inside : List ℕ) (x : RoutineTree × List ℕ) → cs ≡ 124 ∷ inside → shared_at inside ≡ Some x → IsRead spell_routine WellRoutine cs x
unfolding shared_at
shared_takes cs inside x p e =
    let q = bind_some (past 34 inside) (λ i. text_from false i >>= λ t. past 124 t.1 >>= λ v. name_at v >>= λ n. Some (shared_routine t.0 n.0, n.1)) x e in
    let t = bind_some (text_from false q.0) (λ t. past 124 t.1 >>= λ v. name_at v >>= λ n. Some (shared_routine t.0 n.0, n.1)) x q.2 in
    let k = bind_some (past 124 t.0.1) (λ v. name_at v >>= λ n. Some (shared_routine t.0.0 n.0, n.1)) x t.2 in
    let n = bind_some (name_at k.0) (λ n. Some (shared_routine t.0.0 n.0, n.1)) x k.2 in
    let account = text_takes false q.0 t.0 t.1 in
    let name = name_takes k.0 n.0 n.1 in
    let made : RoutineTree × List ℕ = (shared_routine t.0.0 n.0.0, n.0.1) in
    subst (IsRead spell_routine WellRoutine cs) {x = made} (some_is made x n.2) (
      shared_cells cs inside q.0 t.0.1 k.0 t.0.0 n.0.0 n.0.1 p (past_takes 34 inside q.0 q.1) account.0 (past_takes 124 t.0.1 k.0 k.1) name.0,
      (account.1, name.1),
    )

routine_takes_by : (cs : List ℕ) (o : Option (List ℕ)) (x : RoutineTree × List ℕ) → past 124 cs ≡ o → routine_by cs o ≡ Some x
    → IsRead spell_routine WellRoutine cs x
routine_takes_by cs None x h e =
    let n = bind_some (name_at cs) (λ n. Some (own_routine n.0, n.1)) x e in
    subst (IsRead spell_routine WellRoutine cs) {x = (own_routine n.0.0, n.0.1)} (some_is (own_routine n.0.0, n.0.1) x n.2) (name_takes cs n.0 n.1)
routine_takes_by cs (Some inside) x h e = shared_takes cs inside x (past_takes 124 cs inside h) e

routine_takes : Takes spell_routine WellRoutine routine_at
unfolding routine_at
routine_takes cs x e = routine_takes_by cs (past 124 cs) x refl e

shared_again : (account name rest : List ℕ) → AllAre is_character account → IsName name → Stops is_name_rest rest
    → shared_at (34 ∷ (quoted account ++ 34 ∷ 124 ∷ (name ++ rest))) ≡ Some (shared_routine account name, rest)
unfolding shared_at
shared_again account name rest w v s = rw (text_again account (124 ∷ (name ++ rest)) w refl, name_again name rest v s) refl

routine_again : Again spell_routine WellRoutine (Stops is_name_rest) routine_at
unfolding routine_at
routine_again (own_routine name) rest w s =
    rw ((name_in_front (name ++ rest) (Begins-append is_name_start name rest (named name w))).3, name_again name rest w s) refl
routine_again (shared_routine account name) rest w s =
    ap (λ (y : List ℕ). routine_by y (past 124 y)) (shared_text account name rest) ∙ shared_again account name rest w.0 w.1 s

-- ---- entries

abbrev pub is_caret : ℕ → Bool
is_caret c = eqb c 94

-- what may follow an entry
abbrev pub EntryEnds : List ℕ → Type 0
EntryEnds rest = Stops is_name_rest rest × Stops is_caret rest

label_takes : (cs label t : List ℕ) (o : Option (List ℕ)) (x : EntryTree × List ℕ) → cs ≡ label ++ t → IsName label → past 94 t ≡ o → label_by label t o ≡ Some x → IsRead spell_entry WellEntry cs x
label_takes cs label t None x p w h e = subst (IsRead spell_entry WellEntry cs) {x = (at_label label, t)} (some_is (at_label label, t) x e) (p, w)
label_takes cs label t (Some rest) x p w h e =
    let r = bind_some (routine_at rest) (λ r. Some (at_label_in label r.0, r.1)) x e in
    let routine = routine_takes rest r.0 r.1 in
    subst (IsRead spell_entry WellEntry cs) {x = (at_label_in label r.0.0, r.0.1)} (some_is (at_label_in label r.0.0, r.0.1) x r.2)
    (joined_by 94 cs label t rest (spell_routine r.0.0) r.0.1 p (past_takes 94 t rest h) routine.0, (w, routine.1))

entry_takes_by : (cs : List ℕ) (o : Option (List ℕ)) (x : EntryTree × List ℕ) → past 94 cs ≡ o → entry_by cs o ≡ Some x → IsRead spell_entry WellEntry cs x
entry_takes_by cs None x h e =
    let n = bind_some (name_at cs) (λ n. label_by n.0 n.1 (past 94 n.1)) x e in
    let name = name_takes cs n.0 n.1 in
    label_takes cs n.0.0 n.0.1 (past 94 n.0.1) x name.0 name.1 refl n.2
entry_takes_by cs (Some rest) x h e =
    let r = bind_some (routine_at rest) (λ r. Some (at_routine r.0, r.1)) x e in
    let routine = routine_takes rest r.0 r.1 in
    subst (IsRead spell_entry WellEntry cs) {x = (at_routine r.0.0, r.0.1)} (some_is (at_routine r.0.0, r.0.1) x r.2)
    (past_takes 94 cs rest h ∙ ap (λ (y : List ℕ). 94 ∷ y) routine.0, routine.1)

pub entry_takes : Takes spell_entry WellEntry entry_at
unfolding entry_at
entry_takes cs x e = entry_takes_by cs (past 94 cs) x refl e

-- no `^` stands where a name begins
before_name : (name rest : List ℕ) → IsName name → past 94 (name ++ rest) ≡ None
before_name name rest w = (name_in_front (name ++ rest) (Begins-append is_name_start name rest (named name w))).0

pub entry_again : Again spell_entry WellEntry EntryEnds entry_at
unfolding entry_at
entry_again (at_label label) rest w s = rw (before_name label rest w, name_again label rest w s.0, not_past 94 rest s.1) refl
entry_again (at_label_in label routine) rest w s =
    let t : List ℕ = spell_routine routine ++ rest in
    let one : entry_by (label ++ 94 ∷ t) (past 94 (label ++ 94 ∷ t)) ≡ Some (at_label_in label routine, rest) =
    rw (before_name label (94 ∷ t) w.0, name_again label (94 ∷ t) w.0 refl, routine_again routine rest w.1 s.0) refl in
    ap (λ (y : List ℕ). entry_by y (past 94 y)) (append_assoc label (94 ∷ spell_routine routine) rest) ∙ one
entry_again (at_routine routine) rest w s = rw (routine_again routine rest w s.0) refl

-- ---- lists of actuals

-- what may follow an actual
abbrev pub ActualEnds : List ℕ → Type 0
ActualEnds rest = Begins is_actual_end rest

-- the text of actuals, as that of a list
bracketed : (a : ActualTree) (xs : List ActualTree) → spell_actuals (actuals_of (a ∷ xs)) ≡ 40 ∷ (spell_list spell_actual (a ∷ xs) ++ 41 ∷ [])
bracketed a xs =
    ap (λ (y : List ℕ). 40 ∷ (spell_actual a ++ (y ++ 41 ∷ []))) (more_actuals-list xs)
    ∙ ap (λ (y : List ℕ). 40 ∷ y) (sym (append_assoc (spell_actual a) (spell_more spell_actual xs) (41 ∷ [])))

actuals_are : (d : ℕ) (xs : List ActualTree) → WellList (WellHanded d) xs → (spell_actuals (actuals_of xs) ≡ 40 ∷ (spell_list spell_actual xs ++ 41 ∷ [])) × WellActuals d (actuals_of xs)
actuals_are d [] w = absurd w
actuals_are d (a ∷ xs) w = (bracketed a xs, (w.0.0, w.0.1, actuals_well d xs w.1))

no_list : (r : Readers) (rest : List ℕ) → Stops is_open rest → actuals_with r rest ≡ Some (no_actuals, rest)
unfolding actuals_with
no_list r [] s = refl
no_list r (c ∷ rest) s = rw s refl

list_step : (r : Readers) (cs : List ℕ) (xs : List ActualTree) (rest : List ℕ) → list_at (r.handed) cs ≡ Some (xs, 41 ∷ rest) → actuals_with r (40 ∷ cs) ≡ Some (actuals_of xs, rest)
unfolding actuals_with
list_step r cs xs rest h = rw h refl

module _ (d : ℕ) (r : Readers) (handed_takes : Takes spell_actual (WellHanded d) (r.handed)) where
  actuals_takes : Takes spell_actuals (WellActuals d) (actuals_with r)
  unfolding actuals_with
  actuals_takes [] x e = subst (IsRead spell_actuals (WellActuals d) []) {x = (no_actuals, [])} (some_is (no_actuals, []) x e) (refl, tt)
  actuals_takes (c ∷ cs) x e =
      elim (chosen (eqb c 40) (list_at (r.handed) cs >>= λ x. past 41 x.1 >>= λ rest. Some (actuals_of x.0, rest)) (Some (no_actuals, c ∷ cs)) (Some x) e) [
        | inl p ↦
            let b = bind_some (list_at (r.handed) cs) (λ x. past 41 x.1 >>= λ rest. Some (actuals_of x.0, rest)) x p.1 in
            let k = bind_some (past 41 b.0.1) (λ rest. Some (actuals_of b.0.0, rest)) x b.2 in
            let t = list_takes spell_actual (WellHanded d) (r.handed) handed_takes cs b.0 b.1 in
            let are = actuals_are d b.0.0 t.1 in
            subst (IsRead spell_actuals (WellActuals d) (c ∷ cs)) {x = (actuals_of b.0.0, k.0)} (some_is (actuals_of b.0.0, k.0) x k.2)
            (enclosed c cs (spell_list spell_actual b.0.0) b.0.1 k.0 (eqb-true _ _ p.0) t.0 (past_takes 41 b.0.1 k.0 k.1) ∙ ap (λ (y : List ℕ). y ++ k.0) (sym are.0), are.1)
        | inr p ↦ subst (IsRead spell_actuals (WellActuals d) (c ∷ cs)) {x = (no_actuals, c ∷ cs)} (some_is (no_actuals, c ∷ cs) x p.1) (refl, tt)
      ]

  pub called_takes : Takes spell_called (WellCalled d) (called_with r)
  unfolding called_with
  called_takes cs x e =
      let n = bind_some (entry_at cs) (λ e. actuals_with r e.1 >>= λ x. Some ((e.0, x.0), x.1)) x e in
      let s = bind_some (actuals_with r n.0.1) (λ x. Some ((n.0.0, x.0), x.1)) x n.2 in
      let entry = entry_takes cs n.0 n.1 in
      let list = actuals_takes n.0.1 s.0 s.1 in
      subst (IsRead spell_called (WellCalled d) cs) {x = ((n.0.0, s.0.0), s.0.1)} (some_is ((n.0.0, s.0.0), s.0.1) x s.2)
      (joined cs (spell_entry n.0.0) n.0.1 (spell_actuals s.0.0) s.0.1 (spell_actuals s.0.0) entry.0 list.0 refl, (entry.1, list.1))

entry_tests : (c : ℕ) → goes_on c ≡ false → (is_name_rest c ≡ false) × (is_caret c ≡ false)
entry_tests c h = (grind (arith, nat_tests), grind (arith, nat_tests))

pub entry_ends : (rest : List ℕ) → Stops goes_on rest → EntryEnds rest
entry_ends rest f = (Stops-weaker goes_on is_name_rest rest (λ c h. (entry_tests c h).0) f, Stops-weaker goes_on is_caret rest (λ c h. (entry_tests c h).1) f)

actuals_stop : (s : ActualsTree) (rest : List ℕ) → Stops goes_on rest → EntryEnds (spell_actuals s ++ rest)
actuals_stop no_actuals rest f = entry_ends rest f
actuals_stop (actuals a more) rest f = (refl, refl)

module _ (d : ℕ) (r : Readers) (handed_again : Again spell_actual (WellHanded d) ActualEnds (r.handed)) where
  actuals_again : Again spell_actuals (WellActuals d) (Stops goes_on) (actuals_with r)
  actuals_again no_actuals rest w f = no_list r rest (Stops-weaker goes_on is_open rest (λ c h. (name_or_open c h).1) f)
  actuals_again (actuals a more) rest w f =
      let xs = actuals_list more in
      let same : spell_actuals (actuals a more) ≡ 40 ∷ (spell_list spell_actual (a ∷ xs) ++ 41 ∷ []) = ap (λ (y : ActualsTree). spell_actuals (actuals a y)) (sym (actuals_back more)) ∙ bracketed a xs in
      let parts : spell_actuals (actuals a more) ++ rest ≡ 40 ∷ (spell_list spell_actual (a ∷ xs) ++ 41 ∷ rest) =
      ap (λ (y : List ℕ). y ++ rest) same ∙ ap (λ (y : List ℕ). 40 ∷ y) (append_assoc (spell_list spell_actual (a ∷ xs)) (41 ∷ []) rest) in
      let l = list_again spell_actual (WellHanded d) (r.handed) ActualEnds (λ more. refl) handed_again (a ∷ xs) (41 ∷ rest) ((w.0, w.1), actuals_inner d more w.0 w.2) (refl, refl) in
      ap (actuals_with r) parts ∙ list_step r (spell_list spell_actual (a ∷ xs) ++ 41 ∷ rest) (a ∷ xs) rest l
      ∙ ap (λ (y : ActualsTree). Some (actuals a y, rest)) (actuals_back more)

  pub called_again : Again spell_called (WellCalled d) (Stops goes_on) (called_with r)
  unfolding called_with
  called_again x rest w f =
      let entry = entry_again x.0 (spell_actuals x.1 ++ rest) w.0 (actuals_stop x.1 rest f) in
      let list = actuals_again x.1 rest w.1 f in
      ap (called_with r) (append_assoc (spell_entry x.0) (spell_actuals x.1) rest) ∙ rw (entry, list) refl

-- ---- what may follow an actual

end_tests : (c : ℕ) → is_actual_end c ≡ true → (goes_on c ≡ false) × (eqb c 64 ≡ false) × (is_operator c ≡ false)
end_tests c h = (grind (arith, nat_tests), grind (arith, nat_tests), grind (arith, nat_tests))

pub actual_ends : (rest : List ℕ) → ActualEnds rest → Ends rest
actual_ends [] b = absurd b
actual_ends (c ∷ cs) b = let t = end_tests c b in (rw (t.0, t.1) refl, t.2)
