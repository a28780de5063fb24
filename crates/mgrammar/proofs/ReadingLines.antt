-- SPDX-License-Identifier: Apache-2.0
-- What is read as a line is spelled so, and what is spelled so is read.
use Rattle.mgrammar.proofs.GrammarWords.{◌≡◌, ◌↔◌, ℕ, zero, suc, ◌≤◌, Bool, true, false, eqb, List, [], ◌∷◌, ◌++◌, length, Option, Some, None, inl, inr, refl}
use Rattle.mgrammar.proofs.GrammarWords.{sym, ap, subst, ◌∙◌, append_assoc, arith, replicate, length-append, nat_le, ◌||◌, eqb-true, nat_tests, append-nil}
use Rattle.mgrammar.proofs.GrammarWords.{length-replicate, is_letter, is_character, AllAre, ArgTree, CommandTree, SpacedTree, LineTree, spell_command}
use Rattle.mgrammar.proofs.GrammarWords.{spell_commands, spell_comment, spell, least_gap, WellCommand, WellCommands, WellComment, well, ◌>>=◌, run_of}
use Rattle.mgrammar.proofs.GrammarWords.{after_run, many, more_by, has_args, command_at, is_space, at_end, spaced, spaced_at, comment_by, comment_at, line_at}
use Rattle.mgrammar.proofs.ReadingBasics.{IsRead, Stops, Begins, Begins-append, Begins-long, bind_some, chosen, some_is, run_parts, run_again, unique, told}
use Rattle.mgrammar.proofs.ReadingArguments.{all_copies, copies_are}
use Rattle.mgrammar.proofs.ReadingCommands.{Closes, After, command_takes, command_again, command_letter}

-- ---- commands with spaces after them

-- enough spaces follow the command, unless nothing more than a comment follows
abbrev HasGap : SpacedTree → List ℕ → Type 0
HasGap c rest = at_end rest || nat_le (least_gap c.0.args) c.1 ≡ true

spaced_takes : (cs : List ℕ) (x : SpacedTree × List ℕ) → spaced_at cs ≡ Some (Some x) → (cs ≡ spell_command x.0.0 ++ (replicate x.0.1 32 ++ x.1)) × WellCommand x.0.0 × HasGap x.0 x.1
unfolding spaced_at
spaced_takes cs x e =
    elim (chosen (at_end cs) (Some None) (command_at cs >>= λ c. spaced c.0 (run_of is_space c.1) (after_run is_space c.1)) (Some (Some x)) e) [
      | inl p ↦ absurd cc
      | inr p ↦
          let b = bind_some (command_at cs) (λ c. spaced c.0 (run_of is_space c.1) (after_run is_space c.1)) (Some x) p.1 in
          let t = command_takes cs b.0 b.1 in
          let r = run_parts is_space b.0.1 in
          let copies : run_of is_space b.0.1 ≡ replicate (length (run_of is_space b.0.1)) 32 = all_copies 32 (run_of is_space b.0.1) r.1 in
          let gap : b.0.1 ≡ replicate (length (run_of is_space b.0.1)) 32 ++ after_run is_space b.0.1 = r.0 ∙ ap (λ (y : List ℕ). y ++ after_run is_space b.0.1) copies in
          elim (chosen (at_end (after_run is_space b.0.1) || nat_le (least_gap b.0.0.args) (length (run_of is_space b.0.1))) (Some (Some ((b.0.0, length (run_of is_space b.0.1)), after_run is_space b.0.1))) None (Some (Some x)) b.2) [
            | inl q ↦
                let is : ((b.0.0, length (run_of is_space b.0.1)), after_run is_space b.0.1) ≡ x = some_is _ x (some_is _ (Some x) q.1) in
                subst (λ (y : SpacedTree × List ℕ). (cs ≡ spell_command y.0.0 ++ (replicate y.0.1 32 ++ y.1)) × WellCommand y.0.0 × HasGap y.0 y.1) is
                (t.0 ∙ ap (λ (y : List ℕ). spell_command b.0.0 ++ y) gap, t.1, q.0)
            | inr q ↦ absurd cc
          ]
    ]

-- at the end no more commands are read
none_at_end : (n : ℕ) (cs : List ℕ) (x : List SpacedTree × List ℕ) → at_end cs ≡ true → many spaced_at n cs ≡ Some x → x.0 ≡ []
unfolding many spaced_at
none_at_end zero cs x h e = ap (λ (y : List SpacedTree × List ℕ). y.0) (sym (some_is ([], cs) x e))
none_at_end (suc n) cs x h e =
    let one : many spaced_at (suc n) cs ≡ Some ([], cs) = rw h refl in
    ap (λ (y : List SpacedTree × List ℕ). y.0) (sym (some_is ([], cs) x (sym one ∙ e)))

-- spaces stand before another command, where b is the test for the end
gap_before : (least n : ℕ) (d : SpacedTree) (ds : List SpacedTree) (b : Bool) → (b || nat_le least n ≡ true) → (b ≡ true → d ∷ ds ≡ []) → least ≤ n
gap_before least n d ds true h f = absurd (let e = f refl in let g : d ∷ ds ≡ [] = e in cc)
gap_before least n d ds false h f = grind (arith, nat_tests)

well_more : (c : SpacedTree) (ds : List SpacedTree) (rest : List ℕ) → WellCommand c.0 → HasGap c rest → (at_end rest ≡ true → ds ≡ []) → WellCommands ds → WellCommands (c ∷ ds)
well_more c [] rest w g f h = w
well_more c (d ∷ ds) rest w g f h = (w, gap_before (least_gap c.0.args) c.1 d ds (at_end rest) g f, h)

-- one turn
commands_by : (n : ℕ) (cs : List ℕ) (o : Option (SpacedTree × List ℕ)) (x : List SpacedTree × List ℕ) → spaced_at cs ≡ Some o
    → ((ds : List ℕ) (y : List SpacedTree × List ℕ) → many spaced_at n ds ≡ Some y → IsRead spell_commands WellCommands ds y) → more_by spaced_at (many spaced_at n) cs o ≡ Some x → IsRead spell_commands WellCommands cs x
commands_by n cs None x h i e = subst (IsRead spell_commands WellCommands cs) (some_is ([], cs) x e) (refl, tt)
commands_by n cs (Some y) x h i e =
    let b = bind_some (many spaced_at n y.1) (λ z. Some ((y.0 ∷ []) ++ z.0, z.1)) x e in
    let first = spaced_takes cs y h in
    let others = i y.1 b.0 b.1 in
    let parts : cs ≡ (spell_command y.0.0 ++ (replicate y.0.1 32 ++ spell_commands b.0.0)) ++ b.0.1 = three cs (spell_command y.0.0) (replicate y.0.1 32) y.1 (spell_commands b.0.0) b.0.1 first.0 others.0 in
    subst (IsRead spell_commands WellCommands cs) (some_is ((y.0 ∷ []) ++ b.0.0, b.0.1) x b.2) (parts, well_more y.0 b.0.0 y.1 first.1 first.2 (λ z. none_at_end n y.1 b.0 z b.1) others.1)
  where
    three : (cs a s r b c : List ℕ) → cs ≡ a ++ (s ++ r) → r ≡ b ++ c → cs ≡ (a ++ (s ++ b)) ++ c
    three cs a s r b c p q = rw (p, q) (simp append_assoc)

commands_takes : (n : ℕ) (cs : List ℕ) (x : List SpacedTree × List ℕ) → many spaced_at n cs ≡ Some x → IsRead spell_commands WellCommands cs x
unfolding many
commands_takes zero cs x e = subst (IsRead spell_commands WellCommands cs) (some_is ([], cs) x e) (refl, tt)
commands_takes (suc n) cs x e =
    let b = bind_some (spaced_at cs) (more_by spaced_at (many spaced_at n) cs) x e in
    commands_by n cs b.0 x b.1 (commands_takes n) b.2

letter_not_end : (c : ℕ) → is_letter c ≡ true → (eqb c 59 ≡ false) × (is_space c ≡ false)
letter_not_end c h = (grind (arith, nat_tests), grind (arith, nat_tests))

command_begins : (c : CommandTree) (rest : List ℕ) → WellCommand c → (at_end (spell_command c ++ rest) ≡ false) × Stops is_space (spell_command c ++ rest)
command_begins c rest h = letter_begins (spell_command c ++ rest) (Begins-append is_letter (spell_command c) rest (command_letter c h))
  where
    letter_begins : (cs : List ℕ) → Begins is_letter cs → (at_end cs ≡ false) × Stops is_space cs
    letter_begins [] b = absurd b
    letter_begins (c ∷ cs) b = letter_not_end c b

pub end_stops : (rest : List ℕ) → at_end rest ≡ true → Stops is_space rest
end_stops [] h = tt
end_stops (c ∷ cs) h = subst (λ (x : ℕ). Stops is_space (x ∷ cs)) (sym (eqb-true c 59 h)) refl

-- what may follow a command's last argument: the end, a comment, or a space
closes_end : (rest : List ℕ) → at_end rest ≡ true → Closes rest
closes_end [] h = (((tt, tt), tt, tt, tt), tt)
closes_end (c ∷ cs) h = subst (λ (x : ℕ). Closes (x ∷ cs)) (sym (eqb-true c 59 h)) (((refl, refl), refl, refl, refl), refl)

closes_space : (rest : List ℕ) → Closes (32 ∷ rest)
closes_space rest = (((refl, refl), refl, refl, refl), refl)

no_args : (rest : List ℕ) → at_end rest ≡ true → has_args rest ≡ false
no_args [] h = refl
no_args (c ∷ []) h = refl
no_args (c ∷ d ∷ cs) h = subst (λ (x : ℕ). has_args (x ∷ d ∷ cs) ≡ false) (sym (eqb-true c 59 h)) refl

end_follows : (args : List ArgTree) (rest : List ℕ) → at_end rest ≡ true → After args rest
end_follows [] rest h = (closes_end rest h, no_args rest h)
end_follows (a ∷ args) rest h = closes_end rest h

-- one space and the end, or a comment, are no arguments
one_space : (rest : List ℕ) → at_end rest ≡ true → has_args (32 ∷ rest) ≡ false
one_space [] h = refl
one_space (c ∷ cs) h = subst (λ (x : ℕ). has_args (32 ∷ x ∷ cs) ≡ false) (sym (eqb-true c 59 h)) refl

gap_follows : (args : List ArgTree) (n : ℕ) (rest : List ℕ) → (at_end rest || nat_le (least_gap args) n ≡ true) → After args (replicate n 32 ++ rest)
gap_follows [] zero rest h = end_follows [] rest (grind (arith, nat_tests))
gap_follows [] (suc zero) rest h = (closes_space rest, one_space rest (grind (arith, nat_tests)))
gap_follows [] (suc (suc n)) rest h = (closes_space (replicate (suc n) 32 ++ rest), refl)
gap_follows (a ∷ args) zero rest h = end_follows (a ∷ args) rest (grind (arith, nat_tests))
gap_follows (a ∷ args) (suc n) rest h = closes_space (replicate n 32 ++ rest)

spaced_again : (c : SpacedTree) (rest : List ℕ) → WellCommand c.0 → HasGap c rest → Stops is_space rest → spaced_at (spell_command c.0 ++ (replicate c.1 32 ++ rest)) ≡ Some (Some (c, rest))
unfolding spaced_at
spaced_again c rest w g s =
    let r = run_again is_space (replicate c.1 32) rest (copies_are 32 c.1 refl) s in
    let begins = command_begins c.0 (replicate c.1 32 ++ rest) w in
    rw (begins.0, command_again c.0 (replicate c.1 32 ++ rest) w (gap_follows c.0.args c.1 rest g), r.0, r.1, length-replicate {A = ℕ} c.1 32, g) refl

has_gap : (least n : ℕ) (rest : List ℕ) → least ≤ n → at_end rest || nat_le least n ≡ true
has_gap least n rest h = grind (arith, nat_tests)

at_end_gap : (least n : ℕ) (rest : List ℕ) → at_end rest ≡ true → at_end rest || nat_le least n ≡ true
at_end_gap least n rest h = rw h refl

commands_parts : (c : SpacedTree) (cs : List SpacedTree) (rest : List ℕ) → spell_commands (c ∷ cs) ++ rest ≡ spell_command c.0 ++ (replicate c.1 32 ++ (spell_commands cs ++ rest))
commands_parts c cs rest = simp append_assoc

-- one command more in front
commands_step : (n : ℕ) (c : SpacedTree) (cs : List SpacedTree) (rest : List ℕ) → WellCommand c.0 → HasGap c (spell_commands cs ++ rest) → Stops is_space (spell_commands cs ++ rest)
    → many spaced_at n (spell_commands cs ++ rest) ≡ Some (cs, rest) → many spaced_at (suc n) (spell_commands (c ∷ cs) ++ rest) ≡ Some (c ∷ cs, rest)
unfolding many
commands_step n c cs rest w g s i =
    ap (λ (t : List ℕ). many spaced_at (suc n) t) (commands_parts c cs rest) ∙ rw (spaced_again c (spell_commands cs ++ rest) w g s, i) refl

stops_at_end : (n : ℕ) (rest : List ℕ) → at_end rest ≡ true → many spaced_at n rest ≡ Some ([], rest)
unfolding many spaced_at
stops_at_end zero rest h = refl
stops_at_end (suc n) rest h = rw h refl

pub head_well : (c : SpacedTree) (cs : List SpacedTree) → WellCommands (c ∷ cs) → WellCommand c.0
head_well c [] w = w
head_well c (d ∷ cs) w = w.0

commands_again : (n : ℕ) (cs : List SpacedTree) (rest : List ℕ) → length cs ≤ n → WellCommands cs → at_end rest ≡ true → many spaced_at n (spell_commands cs ++ rest) ≡ Some (cs, rest)
commands_again n [] rest le w h = stops_at_end n rest h
commands_again zero (c ∷ cs) rest le w h = absurd (omega arith)
commands_again (suc n) (c ∷ []) rest le w h = commands_step n c [] rest w (at_end_gap (least_gap c.0.args) c.1 rest h) (end_stops rest h) (stops_at_end n rest h)
commands_again (suc n) (c ∷ d ∷ cs) rest le w h =
    let head : WellCommand d.0 = head_well d cs w.2 in
    let stop : Stops is_space (spell_commands (d ∷ cs) ++ rest) = rw (commands_parts d cs rest) ((command_begins d.0 (replicate d.1 32 ++ (spell_commands cs ++ rest)) head).1) in
    commands_step n c (d ∷ cs) rest w.0 (has_gap (least_gap c.0.args) c.1 (spell_commands (d ∷ cs) ++ rest) w.1) stop (commands_again n (d ∷ cs) rest (omega arith) w.2 h)

-- ---- comments and whole lines

tail_well : (c : SpacedTree) (cs : List SpacedTree) → WellCommands (c ∷ cs) → WellCommands cs
tail_well c [] w = tt
tail_well c (d ∷ cs) w = w.2

-- the count of the characters is enough turns
commands_count : (cs : List SpacedTree) (rest : List ℕ) → WellCommands cs → length cs ≤ length (spell_commands cs ++ rest)
commands_count [] rest w = omega arith
commands_count (c ∷ cs) rest w =
    let long = Begins-long is_letter (spell_command c.0) (command_letter c.0 (head_well c cs w)) in
    let more = commands_count cs rest (tail_well c cs w) in
    let parts = ap length (commands_parts c cs rest) in
    omega (arith, long, more, parts, length-append (spell_command c.0) (replicate c.1 32 ++ (spell_commands cs ++ rest)), length-append (replicate c.1 32) (spell_commands cs ++ rest))

comment_takes_by : (t after : List ℕ) (o : Option (List ℕ)) → AllAre is_character t → comment_by t after ≡ Some o → (59 ∷ (t ++ after) ≡ spell_comment o) × WellComment o
comment_takes_by t [] o w e = subst (λ (y : Option (List ℕ)). (59 ∷ (t ++ []) ≡ spell_comment y) × WellComment y) (some_is (Some t) o e) (ap (λ (y : List ℕ). 59 ∷ y) (append-nil t), w)
comment_takes_by t (c ∷ cs) o w e = absurd cc

pub comment_takes : (cs : List ℕ) (o : Option (List ℕ)) → comment_at cs ≡ Some o → (cs ≡ spell_comment o) × WellComment o
unfolding comment_at
comment_takes [] o e = subst (λ (y : Option (List ℕ)). ([] ≡ spell_comment y) × WellComment y) (some_is None o e) (refl, tt)
comment_takes (c ∷ cs) o e =
    elim (chosen (eqb c 59) (comment_by (run_of is_character cs) (after_run is_character cs)) None (Some o) e) [
      | inl p ↦
          let r = run_parts is_character cs in
          let t = comment_takes_by (run_of is_character cs) (after_run is_character cs) o r.1 p.1 in
          let at : c ≡ 59 = eqb-true _ _ p.0 in
          let whole : c ∷ cs ≡ 59 ∷ (run_of is_character cs ++ after_run is_character cs) = two c cs 59 _ at r.0 in
          (whole ∙ t.0, t.1)
      | inr p ↦ absurd cc
    ]
  where
    two : (c : ℕ) (cs : List ℕ) (a : ℕ) (bs : List ℕ) → c ≡ a → cs ≡ bs → c ∷ cs ≡ a ∷ bs
    two c cs a bs p q = cc

pub comment_again : (o : Option (List ℕ)) → WellComment o → comment_at (spell_comment o) ≡ Some o
unfolding comment_at
comment_again None w = refl
comment_again (Some t) w =
    let r = run_again is_character t [] w tt in
    let same : t ++ [] ≡ t = append-nil t in
    let text : run_of is_character t ≡ t = ap (run_of is_character) (sym same) ∙ r.0 in
    let after : after_run is_character t ≡ [] = ap (after_run is_character) (sym same) ∙ r.1 in
    rw (text, after) refl

pub comment_ends : (o : Option (List ℕ)) → at_end (spell_comment o) ≡ true
comment_ends None = refl
comment_ends (Some t) = refl

pub line_takes : (cs : List ℕ) (l : LineTree) → line_at cs ≡ Some l → (spell l ≡ cs) × well l
unfolding line_at
line_takes cs l e =
    let spaces = run_of is_space cs in
    let rest = after_run is_space cs in
    let b = bind_some (many spaced_at (length rest) rest) (λ x. comment_at x.1 >>= λ c. Some (record { lead = length spaces; commands = x.0; comment = c })) l e in
    let k = bind_some (comment_at b.0.1) (λ c. Some (record { lead = length spaces; commands = b.0.0; comment = c })) l b.2 in
    let r = run_parts is_space cs in
    let copies : spaces ≡ replicate (length spaces) 32 = all_copies 32 spaces r.1 in
    let c = commands_takes (length rest) rest b.0 b.1 in
    let o = comment_takes b.0.1 k.0 k.1 in
    let made : LineTree = record { lead = length spaces; commands = b.0.0; comment = k.0 } in
    let parts : spell made ≡ cs = sym (four cs spaces (replicate (length spaces) 32) rest (spell_commands b.0.0) b.0.1 (spell_comment k.0) r.0 copies c.0 o.0) in
    subst (λ (y : LineTree). (spell y ≡ cs) × well y) (some_is made l k.2) (parts, (c.1, o.1))
  where
    four : (cs a a' r b c d : List ℕ) → cs ≡ a ++ r → a ≡ a' → r ≡ b ++ c → c ≡ d → cs ≡ a' ++ (b ++ d)
    four cs a a' r b c d p q u v = cc

-- the spaces in front end where the commands begin
pub stop_commands : (cs : List SpacedTree) (rest : List ℕ) → WellCommands cs → at_end rest ≡ true → Stops is_space (spell_commands cs ++ rest)
stop_commands [] rest w h = end_stops rest h
stop_commands (c ∷ []) rest w h = rw (commands_parts c [] rest) ((command_begins c.0 (replicate c.1 32 ++ rest) w).1)
stop_commands (c ∷ d ∷ cs) rest w h = rw (commands_parts c (d ∷ cs) rest) ((command_begins c.0 (replicate c.1 32 ++ (spell_commands (d ∷ cs) ++ rest)) w.0).1)

pub line_again : (l : LineTree) → well l → line_at (spell l) ≡ Some l
unfolding line_at
line_again l w =
    let rest = spell_commands l.commands ++ spell_comment l.comment in
    let ends = comment_ends l.comment in
    let r = run_again is_space (replicate l.lead 32) rest (copies_are 32 l.lead refl) (stop_commands l.commands (spell_comment l.comment) w.0 ends) in
    let c : many spaced_at (length rest) rest ≡ Some (l.commands, spell_comment l.comment) = commands_again (length rest) l.commands (spell_comment l.comment) (commands_count l.commands (spell_comment l.comment) w.0) w.0 ends in
    rw (r.0, r.1, c, comment_again l.comment w.1, length-replicate {A = ℕ} l.lead 32) refl

-- no text has two trees: what is read of it is each of them
pub one_tree : (s t : LineTree) → well s → well t → spell s ≡ spell t → s ≡ t
one_tree = unique spell well line_at line_again

-- what is read of a text is the tree that spells it, and that is read
pub reads_its_tree : (text : List ℕ) (l : LineTree) → (line_at text ≡ Some l) ↔ ((spell l ≡ text) × well l)
reads_its_tree = told spell well line_at line_again line_takes

-- a text of which nothing is read has no tree
pub no_tree : (cs : List ℕ) → line_at cs ≡ None → (t : LineTree) → well t → spell t ≡ cs → ⊥
no_tree cs none t w same =
    let clash : None ≡ Some t = sym none ∙ ap line_at (sym same) ∙ line_again t w in
    cc
