-- SPDX-License-Identifier: Apache-2.0
-- GOTO on examples, as proved equations: a loop of six turns, each in an equation of its own.
use Rattle.mmeaning.proofs.MeaningWords.{zero, ◌*◌, ℕ, ◌^◌, suc, ap, ◌∙◌, insert, Plan, then_plan, perform, Locals, State, Outcome, Act, on_gives, Completion}
use Rattle.mmeaning.proofs.MeaningWords.{Go_on, Position, digits, canonical_value, size_text, no_locals, level_begun, value_of, assigned_to, name_at, line_in}
use Rattle.mmeaning.proofs.MeaningWords.{label_at, formals_at, routine_line_in, tree_none, tree_put, tree_again, text_none, text_put, text_again, value_some}
use Rattle.mmeaning.proofs.MeaningWords.{round_pos, text_1, text_2, text_3, text_4, text_8, text_16, bottom, multiply, loop, until, for_word, is, less, number}
use Rattle.mmeaning.proofs.MeaningWords.{text, reference, at_label, at_label_in, own_routine, shown, do_one, no_actuals, go_to, set_word, quit_word, write_word}
use Rattle.mmeaning.proofs.MeaningWords.{do_word, goto_word, CommandTree, LineTree, SpacedTree, RoutineLineTree, spaced_out, reads_in, Shared, act, commands_in}
use Rattle.mmeaning.proofs.MeaningWords.{home}
use Rattle.mmeaning.proofs.Calls.{assoc_plan}
use Rattle.std.specs.Prelude.{length}
use Rattle.mmeaning.proofs.ExampleAccount.{alice, of_profile}
use Rattle.mmeaning.proofs.LineRuns.{shut, entered, opened, text_opened}
use Rattle.mmeaning.proofs.LineTrees.{only, with_operator, named, set_to, command, command_if, line}
use Rattle.mmeaning.proofs.Running.{◌≡◌, List, [], ◌∷◌, Some, None, false, refl, codes, empty, gets, Globals, Text, opening, account, done, AreAnswered}
use Rattle.mmeaning.proofs.Running.{at_first, at_last, lines_in, asked, serving_in, at_column}

number_32 : size_text (32 * 10 ^ 18) ≡ codes "32"
unfolding size_text digits
number_32 = refl

number_50 : size_text (50 * 10 ^ 18) ≡ codes "50"
unfolding size_text digits
number_50 = refl

number_64 : size_text (64 * 10 ^ 18) ≡ codes "64"
unfolding size_text digits
number_64 = refl

ruleset more_numbers = (text_16, number_32, number_50, number_64)

-- the routine of the example, and the trees of its lines
abbrev doubling : List Text
doubling = codes "A S N=1" ∷ codes "B S N=N*2 G:N<50 B" ∷ codes " W N Q" ∷ []

abbrev of_label : Text → List SpacedTree → RoutineLineTree
of_label label cs = record { label = Some label; formals = None; body = spaced_out [] (line cs) }

abbrev doubling_1 : RoutineLineTree
doubling_1 = of_label (codes "A") ((command set_word 83 (set_to (named (codes "N")) (only (number (codes "1"))) ∷ []), 0) ∷ [])

abbrev doubling_2 : RoutineLineTree
doubling_2 =
    of_label (codes "B") ((command set_word 83 (set_to (named (codes "N")) (with_operator (reference (named (codes "N"))) multiply (number (codes "2"))) ∷ []), 1) ∷
    (command_if goto_word 71 (with_operator (reference (named (codes "N"))) (is less) (number (codes "50"))) (go_to (at_label (codes "B")) None ∷ []), 0) ∷ [])

abbrev doubling_3 : RoutineLineTree
doubling_3 = record {
  label = None;
  formals = None;
  body = spaced_out [] (line ((command write_word 87 (shown (only (reference (named (codes "N")))) ∷ []), 1) ∷ (command quit_word 81 [], 0) ∷ []));
}

doubling_1_read : routine_line_in 0 (codes "A S N=1") ≡ Some doubling_1
unfolding reads_in
doubling_1_read = refl

doubling_2_read : routine_line_in 0 (codes "B S N=N*2 G:N<50 B") ≡ Some doubling_2
unfolding reads_in
doubling_2_read = refl

doubling_3_read : routine_line_in 0 (codes " W N Q") ≡ Some doubling_3
unfolding reads_in
doubling_3_read = refl

-- D A^G W "."
abbrev goto_line : LineTree
goto_line =
    line ((command do_word 68 (do_one (at_label_in (codes "A") (own_routine (codes "G"))) no_actuals None ∷ []), 1) ∷ (command write_word 87 (shown (only (text (codes "."))) ∷ []), 0) ∷ [])

goto_read : line_in 0 (codes "D A^G W \".\"") ≡ Some goto_line
unfolding reads_in
goto_read = refl

ruleset variables = (tree_none, tree_put, tree_again, text_none, text_put, text_again)

ruleset by_number = (assoc_plan, value_some, round_pos, text_1, text_2, text_4, text_8, more_numbers)

-- ---- the turns of the loop, each from its line on

-- seven steps are a turn's
abbrev and_seven : ℕ → ℕ
and_seven n = suc (suc (suc (suc (suc (suc (suc n))))))

abbrev looping : List CommandTree
looping = commands_in doubling_2.body

-- variables of which N is one
record HaveNumber (locals : Text → Locals) : Type 0 where
  reads : (x : Text) → value_of (locals x) (codes "N") [] ≡ Some x
  sets : (x y : Text) → assigned_to (locals x) (codes "N") [] y ≡ locals y

-- in a level, and with such variables
module _ (levels : ℕ) (locals : Text → Locals) (have : HaveNumber locals) where
  abbrev in_store : Plan (Outcome Completion) → Shared → Outcome Completion × Shared
  in_store p w = perform (act alice 1 (codes "ALICE")) p w

  abbrev at_number : ℕ → Text → Text → State
  at_number steps x out = record { locals = locals x; naked = None; test = false; cursor = at_column (length out); out = out; steps = steps; given = of_profile }

  -- where the second line stands
  abbrev second : Position
  second = record { depth = record { levels = levels; indirections = 0; wants_value = false }; level = record { copy = doubling; next = Some 2; dots = 0 } }

  abbrev entered_at : ℕ → ℕ → Text → (Completion → Act Completion) → Shared → Outcome Completion × Shared
  entered_at n steps x f w = in_store (then_plan (entered (codes "ALICE") n second looping (at_number steps x [])) (on_gives f)) w

  abbrev shut_at : ℕ → ℕ → Text → (Completion → Act Completion) → Shared → Outcome Completion × Shared
  shut_at n steps x f w = in_store (then_plan ((shut (codes "ALICE") n).enter second looping (at_number steps x [])) (on_gives f)) w

  -- from one number to the next, and to the line once more
  abbrev Turn : Text → Text → Type 0
  Turn x y = (n steps : ℕ) (f : Completion → Act Completion) (w : Shared) → entered_at (suc n) (and_seven steps) x f w ≡ shut_at n steps y f w

  reopened : (n steps : ℕ) (x : Text) (f : Completion → Act Completion) (w : Shared) → shut_at n steps x f w ≡ entered_at n steps x f w
  reopened n steps x f w = ap (λ p. in_store (then_plan p (on_gives f)) w) (text_opened (codes "ALICE") n second looping (locals x) None false home [] steps of_profile)

  record Turns : Type 0 where
    from_1 : Turn (codes "1") (codes "2")
    from_2 : Turn (codes "2") (codes "4")
    from_4 : Turn (codes "4") (codes "8")
    from_8 : Turn (codes "8") (codes "16")
    from_16 : Turn (codes "16") (codes "32")

  turns : Turns
  unfolding name_at label_at formals_at
  turns = record {
    from_1 = λ n steps f w. simp (by_number, have.reads, have.sets, doubling_2_read);
    from_2 = λ n steps f w. simp (by_number, have.reads, have.sets, doubling_2_read);
    from_4 = λ n steps f w. simp (by_number, have.reads, have.sets, doubling_2_read);
    from_8 = λ n steps f w. simp (by_number, have.reads, have.sets, doubling_2_read);
    from_16 = λ n steps f w. simp (by_number, have.reads, have.sets, doubling_2_read);
  }

  -- six steps of the last turn, one of the third line and three of its commands
  last_turn : (n steps : ℕ) (f : Completion → Act Completion) (w : Shared) → entered_at (suc (suc n)) (suc (suc (suc (suc (suc (suc (suc (suc (suc (suc steps)))))))))) (codes "32") f w ≡ in_store (f Go_on (at_number steps (codes "64") (codes "64"))) w
  unfolding name_at label_at formals_at
  last_turn n steps f w = simp (by_number, text_opened, have.reads, have.sets, doubling_3_read)

  abbrev for_turns : ℕ → ℕ → ℕ
  for_turns zero steps = suc (suc (suc (suc (suc (suc (suc (suc (suc (suc steps)))))))))
  for_turns (suc k) steps = and_seven (for_turns k steps)

  all_turns : (n steps : ℕ) (f : Completion → Act Completion) (w : Shared) → shut_at (suc (suc (suc (suc (suc (suc (suc n))))))) (for_turns 5 steps) (codes "1") f w ≡ in_store (f Go_on (at_number steps (codes "64") (codes "64"))) w
  all_turns n steps f w =
      reopened (suc (suc (suc (suc (suc (suc (suc n))))))) (for_turns 5 steps) (codes "1") f w ∙ turns.from_1 (suc (suc (suc (suc (suc (suc n)))))) (for_turns 4 steps) f w
      ∙ reopened (suc (suc (suc (suc (suc (suc n)))))) (for_turns 4 steps) (codes "2") f w ∙ turns.from_2 (suc (suc (suc (suc (suc n))))) (for_turns 3 steps) f w
      ∙ reopened (suc (suc (suc (suc (suc n))))) (for_turns 3 steps) (codes "4") f w ∙ turns.from_4 (suc (suc (suc (suc n)))) (for_turns 2 steps) f w
      ∙ reopened (suc (suc (suc (suc n)))) (for_turns 2 steps) (codes "8") f w ∙ turns.from_8 (suc (suc (suc n))) (for_turns 1 steps) f w
      ∙ reopened (suc (suc (suc n))) (for_turns 1 steps) (codes "16") f w ∙ turns.from_16 (suc (suc n)) (for_turns 0 steps) f w
      ∙ reopened (suc (suc n)) (for_turns 0 steps) (codes "32") f w ∙ last_turn n steps f w

-- ---- in the level of a DO

abbrev in_do : Text → Locals
in_do x = level_begun (level_begun (record bottom { trees = insert empty (codes "N") (insert empty [] x) } ∷ []))

do_have : HaveNumber in_do
unfolding value_of assigned_to level_begun
do_have = record { reads = λ x. simp variables; sets = λ x y. simp variables }

do_turns : (f : Completion → Act Completion) (w : Shared) → shut_at 1 in_do do_have 1999 1995 (codes "1") f w ≡ in_store 1 in_do do_have (f Go_on (at_number 1 in_do do_have 1950 (codes "64") (codes "64"))) w
do_turns f w = all_turns 1 in_do do_have 1992 1950 f w

goto_in_routine : (g : Globals) → lines_in g (codes "G") ≡ doubling → AreAnswered account (opening g) (codes "D A^G W \".\"" ∷ []) (done (codes "64.") ∷ [])
unfolding name_at label_at formals_at no_locals level_begun value_of assigned_to canonical_value
goto_in_routine g h =
    at_last (Some goto_line) goto_read (simp (by_number, variables, gets, doubling_1_read, doubling_2_read, asked g (codes "G") doubling h, text_opened (codes "ALICE") 2000, do_turns))

-- ---- from a FOR of a terminal's line, which the GOTO leaves

-- F I=1:1:3 G A^G
abbrev for_line : LineTree
for_line =
    line ((command for_word 70 (loop (codes "I") (until (only (number (codes "1"))) (only (number (codes "1"))) (only (number (codes "3"))) ∷ []) ∷ []), 1) ∷
    (command goto_word 71 (go_to (at_label_in (codes "A") (own_routine (codes "G"))) None ∷ []), 0) ∷ [])

for_read : line_in 0 (codes "F I=1:1:3 G A^G") ≡ Some for_line
unfolding reads_in
for_read = refl

-- W I
abbrev index_line : LineTree
index_line = line ((command write_word 87 (shown (only (reference (named (codes "I")))) ∷ []), 0) ∷ [])

index_read : line_in 0 (codes "W I") ≡ Some index_line
unfolding reads_in
index_read = refl

-- the variables that stay, and in the level of the line
abbrev with_index : Text → Locals
with_index x = record bottom { trees = insert (insert empty (codes "I") (insert empty [] (codes "1"))) (codes "N") (insert empty [] x) } ∷ []

abbrev in_line : Text → Locals
in_line x = level_begun (with_index x)

line_have : HaveNumber in_line
unfolding value_of assigned_to level_begun
line_have = record { reads = λ x. simp variables; sets = λ x y. simp variables }

line_turns : (f : Completion → Act Completion) (w : Shared) → shut_at 0 in_line line_have 1999 1990 (codes "1") f w ≡ in_store 0 in_line line_have (f Go_on (at_number 0 in_line line_have 1945 (codes "64") (codes "64"))) w
line_turns f w = all_turns 0 in_line line_have 1992 1945 f w

goto_leaves_for : (g : Globals) → lines_in g (codes "G") ≡ doubling → AreAnswered account (opening g) (codes "F I=1:1:3 G A^G" ∷ codes "W I" ∷ []) (done (codes "64") ∷ done (codes "1") ∷ [])
unfolding name_at label_at formals_at no_locals level_begun value_of assigned_to canonical_value
goto_leaves_for g h =
    at_first (serving_in g (record { locals = with_index (codes "64"); naked = None; test = false; cursor = at_column 2 })) (Some for_line) for_read
    (simp (by_number, text_3, variables, gets, doubling_1_read, doubling_2_read, asked g (codes "G") doubling h, opened, text_opened (codes "ALICE") 2000, line_turns))
    (at_last (Some index_line) index_read (simp (variables, gets)))
