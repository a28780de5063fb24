-- SPDX-License-Identifier: Apache-2.0
-- What is read as a line of a routine is spelled so, and what is spelled so is read.
use Rattle.mgrammar.proofs.GrammarWords.{◌≡◌, ◌↔◌, ℕ, zero, suc, ◌<◌, ◌≤◌, le-leb, inl, inr, is_name_start, Bool, true, false, cond, eqb, List, [], ◌∷◌, ◌++◌}
use Rattle.mgrammar.proofs.GrammarWords.{length, Option, Some, None, refl, sym, ap, subst, ◌∙◌, append_assoc, arith, replicate, length-append, filter, eqb-true}
use Rattle.mgrammar.proofs.GrammarWords.{nat_tests, length-replicate, is_letter, is_name_rest, IsName, SpacedTree, LineTree, spell_command, spell_commands}
use Rattle.mgrammar.proofs.GrammarWords.{spell_comment, spell, spell_list, spell_more, spell_names, WellCommands, WellAll, WellList, well, ◌>>=◌, run_of}
use Rattle.mgrammar.proofs.GrammarWords.{after_run, name_at, list_at, names_at, past, is_space, at_end, comment_at, line_at, BodyTree, short, spaced_out}
use Rattle.mgrammar.proofs.GrammarWords.{RoutineLineTree, dots_of_body, spell_dot, spell_dots, spell_body, spell_label, spell_formals, spell_routine_line}
use Rattle.mgrammar.proofs.GrammarWords.{WellLabel, WellFormals, WellBody, are_distinct, well_routine_line, has_formals, label_ends, label_by, label_at, unlike}
use Rattle.mgrammar.proofs.GrammarWords.{formals_by, listed_by, formals_at, formals_of, formals_behind, is_dot, is_space_or_dot, dots_in, dot_by, dot_at}
use Rattle.mgrammar.proofs.GrammarWords.{dots_at, body_by, body_at, routine_line_at}
use Rattle.mgrammar.specs.GrammarLaws.{TellsRoutineLine}
use Rattle.mgrammar.specs.Languages.{since_formals}
use Rattle.mgrammar.proofs.ReadingBasics.{IsRead, Stops, Stops-weaker, Begins-stops, Begins-append, bind_some, chosen, some_is, run_parts, run_again}
use Rattle.mgrammar.proofs.ReadingBasics.{past_takes, not_past, name_takes, name_again, unique, told}
use Rattle.mgrammar.proofs.ReadingLists.{each, many_takes, many_again, count_le, enclosed, list_takes, list_again}
use Rattle.mgrammar.proofs.ReadingArguments.{all_copies, copies_are}
use Rattle.mgrammar.proofs.ReadingCommands.{command_letter}
use Rattle.mgrammar.proofs.ReadingLines.{head_well, stop_commands, comment_ends, comment_takes, comment_again, line_takes, line_again}

-- ---- labels

label_takes_if : (cs : List ℕ) (name : List ℕ × List ℕ) (b : Bool) → (cs ≡ name.0 ++ name.1) × IsName name.0 → IsRead spell_label WellLabel cs (cond b (Some name.0, name.1) (None, cs))
label_takes_if cs name true t = t
label_takes_if cs name false t = (refl, tt)

label_takes_by : (lists : Bool) (cs : List ℕ) (o : Option (List ℕ × List ℕ)) → name_at cs ≡ o → IsRead spell_label WellLabel cs (label_by lists cs o)
label_takes_by lists cs None h = (refl, tt)
label_takes_by lists cs (Some name) h = label_takes_if cs name (label_ends lists name.1) (name_takes cs name h)

label_takes : (cs : List ℕ) → IsRead spell_label WellLabel cs (label_at true cs)
unfolding label_at
label_takes cs = label_takes_by true cs (name_at cs) refl

-- no name begins what comes after a label
no_name : (b : BodyTree) → name_at (spell_body b) ≡ None
unfolding name_at
no_name (short None) = refl
no_name (short (Some t)) = refl
no_name (spaced_out dots l) = refl

-- what comes after a label, if formal lists are read or there is none
abbrev Ending : Bool → List ℕ → Type 0
Ending lists rest = (label_ends lists rest ≡ true) × Stops is_name_rest rest

body_ends : (lists : Bool) (b : BodyTree) → Ending lists (spell_body b)
body_ends lists (short None) = (refl, tt)
body_ends lists (short (Some t)) = (refl, refl)
body_ends lists (spaced_out dots l) = (refl, refl)

formals_end : (n : ℕ) (formals : Option (List (List ℕ))) (b : BodyTree) → since_formals formals ≤ n → Ending (has_formals n) (spell_formals formals ++ spell_body b)
formals_end n None b h = body_ends (has_formals n) b
formals_end n (Some names) b h = (rw (le-leb 1 n h) refl, refl)

label_again : (n : ℕ) (label : Option (List ℕ)) (formals : Option (List (List ℕ))) (b : BodyTree) → WellLabel label → WellFormals label formals → since_formals formals ≤ n
    → label_at (has_formals n) (spell_label label ++ (spell_formals formals ++ spell_body b)) ≡ (label, spell_formals formals ++ spell_body b)
unfolding label_at
label_again n None None b w v h = rw (no_name b) refl
label_again n None (Some names) b w v h = absurd v
label_again n (Some name) formals b w v h =
    let ends = formals_end n formals b h in
    rw (name_again name (spell_formals formals ++ spell_body b) w ends.1, ends.0) refl

-- ---- formal lists

-- what was read of one after a label, if one begins
abbrev FormalsAre : List ℕ → List ℕ → Option (List (List ℕ)) × List ℕ → Type 0
FormalsAre label cs x = (cs ≡ spell_formals x.0 ++ x.1) × WellFormals (Some label) x.0

unlike_is : (x y : List (List ℕ) × List ℕ) → unlike x ≡ Some y → (are_distinct y.0 ≡ true) × (x ≡ y)
unlike_is x y e =
    elim (chosen (are_distinct x.0) (Some x) None (Some y) e) [
      | inl p ↦ let same = some_is x y p.1 in (ap (λ (z : List (List ℕ) × List ℕ). are_distinct z.0) (sym same) ∙ p.0, same)
      | inr p ↦ absurd (let clash : None ≡ Some y = p.1 in cc)
    ]

all_well : {A : Type 0} (P : A → Type 0) (xs : List A) → WellList P xs → WellAll P xs
all_well P [] w = absurd w
all_well P (x ∷ xs) w = w

list_well : {A : Type 0} (P : A → Type 0) (x : A) (xs : List A) → WellAll P (x ∷ xs) → WellList P (x ∷ xs)
list_well P x xs w = w

formals_take : (label cs : List ℕ) (o : Option (List ℕ)) (x : List (List ℕ) × List ℕ) → past 41 cs ≡ o → formals_by cs o ≡ Some x → FormalsAre label (40 ∷ cs) (Some x.0, x.1)
unfolding names_at
formals_take label cs None x h e =
    let b = bind_some (names_at cs) unlike x e in
    let is = unlike_is b.0 x b.2 in
    let n = bind_some (list_at name_at cs) (λ y. past 41 y.1 >>= λ rest. Some (y.0, rest)) b.0 b.1 in
    let k = bind_some (past 41 n.0.1) (λ rest. Some (n.0.0, rest)) b.0 n.2 in
    let t = list_takes (λ n. n) IsName name_at name_takes cs n.0 n.1 in
    let same : (n.0.0, k.0) ≡ x = some_is (n.0.0, k.0) b.0 k.2 ∙ is.1 in
    subst (λ (y : List (List ℕ) × List ℕ). FormalsAre label (40 ∷ cs) (Some y.0, y.1)) same (
      enclosed 40 cs (spell_list (λ n. n) n.0.0) n.0.1 k.0 refl t.0 (past_takes 41 n.0.1 k.0 k.1),
      (all_well IsName n.0.0 t.1, ap (λ (y : List (List ℕ) × List ℕ). are_distinct y.0) same ∙ is.0),
    )
formals_take label cs (Some rest) x h e =
    subst (λ (y : List (List ℕ) × List ℕ). FormalsAre label (40 ∷ cs) (Some y.0, y.1)) (some_is ([], rest) x e) (ap (λ (y : List ℕ). 40 ∷ y) (past_takes 41 cs rest h), (tt, refl))

listed_takes : (label cs : List ℕ) (o : Option (List (List ℕ) × List ℕ)) → (past 40 cs >>= λ inside. formals_by inside (past 41 inside)) ≡ o → FormalsAre label cs (listed_by cs o)
listed_takes label cs None h = (refl, tt)
listed_takes label cs (Some x) h =
    let b = bind_some (past 40 cs) (λ inside. formals_by inside (past 41 inside)) x h in
    let t = formals_take label b.0 (past 41 b.0) x refl b.2 in
    (past_takes 40 cs b.0 b.1 ∙ t.0, t.1)

formals_takes : (label : Option (List ℕ)) (cs : List ℕ) → (cs ≡ spell_formals (formals_at label cs).0 ++ (formals_at label cs).1) × WellFormals label (formals_at label cs).0
unfolding formals_at
formals_takes None cs = (refl, tt)
formals_takes (Some label) cs = listed_takes label cs (past 40 cs >>= λ inside. formals_by inside (past 41 inside)) refl

not_closed : (c : ℕ) → is_name_start c ≡ true → eqb c 41 ≡ false
not_closed c h = grind (arith, nat_tests)

-- a bracket does not close where a name begins
name_opens : (n : List ℕ) (rest : List ℕ) → IsName n → past 41 (n ++ rest) ≡ None
name_opens [] rest w = absurd w
name_opens (c ∷ n) rest w = rw (not_closed c w.0) refl

names_listed : (n : List ℕ) (ns : List (List ℕ)) (rest : List ℕ) → WellAll IsName (n ∷ ns) → names_at (spell_list (λ n. n) (n ∷ ns) ++ 41 ∷ rest) ≡ Some (n ∷ ns, rest)
unfolding names_at
names_listed n ns rest w =
    rw (list_again (λ n. n) IsName name_at (Stops is_name_rest) (λ cs. refl) name_again (n ∷ ns) (41 ∷ rest) (list_well IsName n ns w) (refl, refl)) refl

formals_listed : (names : List (List ℕ)) (rest : List ℕ) → WellAll IsName names → are_distinct names ≡ true → formals_by (spell_list (λ n. n) names ++ 41 ∷ rest) (past 41 (spell_list (λ n. n) names ++ 41 ∷ rest)) ≡ Some (names, rest)
formals_listed [] rest w d = refl
formals_listed (n ∷ ns) rest w d =
    let parts : spell_list (λ n. n) (n ∷ ns) ++ 41 ∷ rest ≡ n ++ (spell_more (λ n. n) ns ++ 41 ∷ rest) = append_assoc n (spell_more (λ n. n) ns) (41 ∷ rest) in
    rw (ap (past 41) parts ∙ name_opens n (spell_more (λ n. n) ns ++ 41 ∷ rest) w.0, names_listed n ns rest w, d) refl

no_list : (label : Option (List ℕ)) (b : BodyTree) → formals_at label (spell_body b) ≡ (None, spell_body b)
unfolding formals_at
no_list None b = refl
no_list (Some label) (short None) = refl
no_list (Some label) (short (Some t)) = refl
no_list (Some label) (spaced_out dots l) = refl

formals_again : (label : Option (List ℕ)) (formals : Option (List (List ℕ))) (b : BodyTree) → WellFormals label formals → formals_at label (spell_formals formals ++ spell_body b) ≡ (formals, spell_body b)
unfolding formals_at
formals_again label None b v = no_list label b
formals_again None (Some names) b v = absurd v
formals_again (Some label) (Some names) b v =
    let parts : spell_names names ++ spell_body b ≡ 40 ∷ (spell_list (λ n. n) names ++ 41 ∷ spell_body b) = ap (λ (y : List ℕ). 40 ∷ y) (append_assoc (spell_list (λ n. n) names) (41 ∷ []) (spell_body b)) in
    ap (λ (y : List ℕ). formals_at (Some label) y) parts ∙ rw (formals_listed names (spell_body b) v.0 v.1) refl

-- ---- dots

dots_each : (dots : List ℕ) → spell_dots dots ≡ each spell_dot dots
dots_each [] = refl
dots_each (n ∷ ns) = ap (λ (y : List ℕ). spell_dot n ++ y) (dots_each ns)

-- no test says more of a number of spaces
abbrev AnyNumber : ℕ → Type 0
AnyNumber n = Unit {0}

dot_takes_by : (cs : List ℕ) (o : Option (List ℕ)) (x : ℕ × List ℕ) → past 46 (after_run is_space cs) ≡ o → dot_by (length (run_of is_space cs)) o ≡ Some (Some x) → (cs ≡ spell_dot x.0 ++ x.1) × AnyNumber x.0
dot_takes_by cs None x h e = absurd cc
dot_takes_by cs (Some rest) x h e =
    let r = run_parts is_space cs in
    let copies : run_of is_space cs ≡ replicate (length (run_of is_space cs)) 32 = all_copies 32 (run_of is_space cs) r.1 in
    let parts : cs ≡ replicate (length (run_of is_space cs)) 32 ++ 46 ∷ rest = r.0 ∙ spaces_and cs (run_of is_space cs) (replicate (length (run_of is_space cs)) 32) (after_run is_space cs) (46 ∷ rest) copies (past_takes 46 (after_run is_space cs) rest h) in
    let whole : cs ≡ spell_dot (length (run_of is_space cs)) ++ rest = parts ∙ sym (append_assoc (replicate (length (run_of is_space cs)) 32) (46 ∷ []) rest) in
    subst (λ (y : ℕ × List ℕ). (cs ≡ spell_dot y.0 ++ y.1) × AnyNumber y.0) {x = (length (run_of is_space cs), rest)} (some_is (length (run_of is_space cs), rest) x (some_is (Some (length (run_of is_space cs), rest)) (Some x) e)) (whole, tt)
  where
    spaces_and : (cs a b c d : List ℕ) → a ≡ b → c ≡ d → a ++ c ≡ b ++ d
    spaces_and cs a b c d p q = rw (p, q) refl

dot_takes : (cs : List ℕ) (x : ℕ × List ℕ) → dot_at cs ≡ Some (Some x) → (cs ≡ spell_dot x.0 ++ x.1) × AnyNumber x.0
unfolding dot_at
dot_takes cs x e = dot_takes_by cs (past 46 (after_run is_space cs)) x refl e

dots_takes : (cs : List ℕ) (x : List ℕ × List ℕ) → dots_at cs ≡ Some x → cs ≡ spell_dots x.0 ++ x.1
unfolding dots_at
dots_takes cs x e =
    let t = many_takes spell_dot AnyNumber dot_at dot_takes (length cs) cs x e in
    t.0 ∙ ap (λ (y : List ℕ). y ++ x.1) (sym (dots_each x.0))

dot_again : (n : ℕ) (rest : List ℕ) → dot_at (spell_dot n ++ rest) ≡ Some (Some (n, rest))
unfolding dot_at
dot_again n rest =
    let r = run_again is_space (replicate n 32) (46 ∷ rest) (copies_are 32 n refl) refl in
    let parts : spell_dot n ++ rest ≡ replicate n 32 ++ 46 ∷ rest = append_assoc (replicate n 32) (46 ∷ []) rest in
    rw (parts, r.0, r.1, length-replicate {A = ℕ} n 32) refl

-- ---- what comes after the dots

letter_not_dot : (c : ℕ) → is_letter c ≡ true → is_space_or_dot c ≡ false
letter_not_dot c h = grind (arith, nat_tests)

end_not_dot : (rest : List ℕ) → at_end rest ≡ true → Stops is_space_or_dot rest
end_not_dot [] h = tt
end_not_dot (c ∷ cs) h = subst (λ (x : ℕ). Stops is_space_or_dot (x ∷ cs)) (sym (eqb-true c 59 h)) refl

commands_stop : (cs : List SpacedTree) (rest : List ℕ) → WellCommands cs → at_end rest ≡ true → Stops is_space_or_dot (spell_commands cs ++ rest)
commands_stop [] rest w h = end_not_dot rest h
commands_stop (c ∷ cs) rest w h =
    Begins-stops is_letter is_space_or_dot (spell_commands (c ∷ cs) ++ rest) letter_not_dot
    (Begins-append is_letter (spell_commands (c ∷ cs)) rest (Begins-append is_letter (spell_command c.0) (replicate c.1 32 ++ spell_commands cs) (command_letter c.0 (head_well c cs w))))

dot_or_space : (c : ℕ) → is_space_or_dot c ≡ false → eqb c 46 ≡ false
dot_or_space c h = grind (arith, nat_tests)

-- a line has no dots in front
no_dot : (l : LineTree) → well l → dot_at (spell l) ≡ Some None
unfolding dot_at
no_dot l w =
    let rest = spell_commands l.commands ++ spell_comment l.comment in
    let ends = comment_ends l.comment in
    let r = run_again is_space (replicate l.lead 32) rest (copies_are 32 l.lead refl) (stop_commands l.commands (spell_comment l.comment) w.0 ends) in
    let none = not_past 46 rest (Stops-weaker is_space_or_dot (λ c. eqb c 46) rest dot_or_space (commands_stop l.commands (spell_comment l.comment) w.0 ends)) in
    rw (r.1, none) refl

dots_again : (dots : List ℕ) (l : LineTree) → well l → dots_at (spell_dots dots ++ spell l) ≡ Some (dots, spell l)
unfolding dots_at
dots_again dots l w =
    let all : WellAll AnyNumber dots = any dots in
    rw (dots_each dots) (many_again spell_dot AnyNumber dot_at (λ rest. Unit {0}) (λ n rest v f. dot_again n rest) (λ n rest v. tt)
    (length (each spell_dot dots ++ spell l)) dots (spell l) (count_le spell_dot AnyNumber dot_at (λ n v. dot_long n) dots (spell l) all) all tt (no_dot l w))
  where
    any : (dots : List ℕ) → WellAll AnyNumber dots
    any [] = tt
    any (n ∷ ns) = (tt, any ns)

    dot_long : (n : ℕ) → 0 < length (spell_dot n)
    dot_long n = omega (arith, length-append {A = ℕ} (replicate n 32) (46 ∷ []))

-- ---- whole lines

body_takes_by : (cs : List ℕ) (o : Option (List ℕ)) (b : BodyTree) → past 32 cs ≡ o → body_by cs o ≡ Some b → (spell_body b ≡ cs) × WellBody b
body_takes_by cs None b h e =
    let k = bind_some (comment_at cs) (λ o. Some (short o)) b e in
    let t = comment_takes cs k.0 k.1 in
    subst (λ (y : BodyTree). (spell_body y ≡ cs) × WellBody y) {x = short k.0} (some_is (short k.0) b k.2) (sym t.0, t.1)
body_takes_by cs (Some rest) b h e =
    let d = bind_some (dots_at rest) (λ p. line_at p.1 >>= λ l. Some (spaced_out p.0 l)) b e in
    let l = bind_some (line_at d.0.1) (λ l. Some (spaced_out d.0.0 l)) b d.2 in
    let t = line_takes d.0.1 l.0 l.1 in
    let parts : rest ≡ spell_dots d.0.0 ++ spell l.0 = dots_takes rest d.0 d.1 ∙ ap (λ (y : List ℕ). spell_dots d.0.0 ++ y) (sym t.0) in
    subst (λ (y : BodyTree). (spell_body y ≡ cs) × WellBody y) {x = spaced_out d.0.0 l.0} (some_is (spaced_out d.0.0 l.0) b l.2)
    (sym (past_takes 32 cs rest h ∙ ap (λ (y : List ℕ). 32 ∷ y) parts), t.1)

body_takes : (cs : List ℕ) (b : BodyTree) → body_at cs ≡ Some b → (spell_body b ≡ cs) × WellBody b
unfolding body_at
body_takes cs b e = body_takes_by cs (past 32 cs) b refl e

body_again : (b : BodyTree) → WellBody b → body_at (spell_body b) ≡ Some b
unfolding body_at
body_again (short None) w = rw (comment_again None w) refl
body_again (short (Some t)) w = rw (comment_again (Some t) w) refl
body_again (spaced_out dots l) w = rw (dots_again dots l w, line_again l w) refl

routine_line_takes : (cs : List ℕ) (l : RoutineLineTree) → routine_line_at cs ≡ Some l → (spell_routine_line l ≡ cs) × well_routine_line l
unfolding routine_line_at
routine_line_takes cs l e =
    let front = label_at true cs in
    let list = formals_behind front in
    let b = bind_some (body_at list.1) (λ b. Some (record { label = front.0; formals = list.0; body = b })) l e in
    let label = label_takes cs in
    let formals = formals_takes front.0 front.1 in
    let body = body_takes list.1 b.0 b.1 in
    let made : RoutineLineTree = record { label = front.0; formals = list.0; body = b.0 } in
    let rest : spell_formals list.0 ++ spell_body b.0 ≡ front.1 = ap (λ (y : List ℕ). spell_formals list.0 ++ y) body.0 ∙ sym formals.0 in
    subst (λ (y : RoutineLineTree). (spell_routine_line y ≡ cs) × well_routine_line y) (some_is made l b.2)
    (ap (λ (y : List ℕ). spell_label front.0 ++ y) rest ∙ sym label.0, (label.1, formals.1, body.1))

formals_since : (formals : Option (List (List ℕ))) → since_formals formals ≤ 1
formals_since None = omega arith
formals_since (Some names) = omega arith

routine_line_again : (l : RoutineLineTree) → well_routine_line l → routine_line_at (spell_routine_line l) ≡ Some l
unfolding routine_line_at
routine_line_again l w = rw (label_again 1 l.label l.formals l.body w.0 w.1 (formals_since l.formals), formals_again l.label l.formals l.body w.1, body_again l.body w.2) refl

pub one_routine_tree : (s t : RoutineLineTree) → well_routine_line s → well_routine_line t → spell_routine_line s ≡ spell_routine_line t → s ≡ t
one_routine_tree = unique spell_routine_line well_routine_line routine_line_at routine_line_again

pub reads_its_routine_tree : (text : List ℕ) (l : RoutineLineTree) → (routine_line_at text ≡ Some l) ↔ ((spell_routine_line l ≡ text) × well_routine_line l)
reads_its_routine_tree = told spell_routine_line well_routine_line routine_line_at routine_line_again routine_line_takes

-- ---- what is read of a line

spaces_told : (n : ℕ) (rest : List ℕ) → length (filter is_dot (run_of is_space_or_dot (replicate n 32 ++ rest))) ≡ length (filter is_dot (run_of is_space_or_dot rest))
spaces_told zero rest = refl
spaces_told (suc n) rest = spaces_told n rest

nothing_told : (rest : List ℕ) → Stops is_space_or_dot rest → length (filter is_dot (run_of is_space_or_dot rest)) ≡ 0
nothing_told [] s = refl
nothing_told (c ∷ cs) s = rw s refl

dots_told : (dots : List ℕ) (l : LineTree) → well l → length (filter is_dot (run_of is_space_or_dot (spell_dots dots ++ spell l))) ≡ length dots
dots_told [] l w =
    spaces_told l.lead (spell_commands l.commands ++ spell_comment l.comment)
    ∙ nothing_told (spell_commands l.commands ++ spell_comment l.comment) (commands_stop l.commands (spell_comment l.comment) w.0 (comment_ends l.comment))
dots_told (n ∷ ns) l w =
    let rest : List ℕ = spell_dots ns ++ spell l in
    let parts : spell_dots (n ∷ ns) ++ spell l ≡ replicate n 32 ++ 46 ∷ rest = simp append_assoc in
    rw parts (spaces_told n (46 ∷ rest) ∙ ap suc (dots_told ns l w))

body_told : (b : BodyTree) → WellBody b → dots_in (spell_body b) ≡ dots_of_body b
body_told (short None) w = refl
body_told (short (Some t)) w = refl
body_told (spaced_out dots l) w = dots_told dots l w

told_again : (n : ℕ) (l : RoutineLineTree) → well_routine_line l → since_formals l.formals ≤ n → TellsRoutineLine n (spell_routine_line l) l
told_again n l w h =
    let label = label_again n l.label l.formals l.body w.0 w.1 h in
    let formals = ap formals_behind label ∙ formals_again l.label l.formals l.body w.1 in
    record {
      label = ap (λ (y : Option (List ℕ) × List ℕ). y.0) label;
      formals = ap (λ (y : Option (List (List ℕ)) × List ℕ). y.0) formals;
      dots = ap (λ (y : Option (List (List ℕ)) × List ℕ). dots_in y.1) formals ∙ body_told l.body w.2;
    }

pub told_of_its_tree : (n : ℕ) (text : List ℕ) (l : RoutineLineTree) → routine_line_at text ≡ Some l → since_formals l.formals ≤ n → TellsRoutineLine n text l
told_of_its_tree n text l e h =
    let t = routine_line_takes text l e in
    subst (λ (y : List ℕ). TellsRoutineLine n y l) t.0 (told_again n l t.1 h)

-- ---- the profile, where a bracket ends no label

profile_ends : (cs : List ℕ) → label_ends false cs ≡ true → past 40 cs ≡ None
profile_ends [] h = refl
profile_ends (c ∷ cs) h = let no : eqb c 40 ≡ false = grind (arith, nat_tests, h) in rw no refl

none_behind : (cs : List ℕ) (name : List ℕ × List ℕ) (b : Bool) → label_ends false name.1 ≡ b → (formals_behind (cond b (Some name.0, name.1) (None, cs))).0 ≡ None
unfolding formals_at
none_behind cs name true h = rw (profile_ends name.1 h) refl
none_behind cs name false h = refl

none_by : (cs : List ℕ) (o : Option (List ℕ × List ℕ)) → (formals_behind (label_by false cs o)).0 ≡ None
unfolding formals_at
none_by cs None = refl
none_by cs (Some name) = none_behind cs name (label_ends false name.1) refl

pub profile_has_no_list : (text : List ℕ) → formals_of 0 text ≡ None
unfolding label_at
profile_has_no_list text = none_by text (name_at text)
