-- SPDX-License-Identifier: Apache-2.0
-- Control flow on examples, as proved equations.
use Rattle.mmeaning.proofs.MeaningWords.{World, M9, M15, Zover, Zsteps, no_locals, assigned_to, home}
use Rattle.mmeaning.proofs.Running.{[], ◌∷◌, None, true, false, refl, codes, empty, new_session, opening, with_steps, done, failed, AreAnswered, Answered}
use Rattle.mmeaning.proofs.Running.{serving, holding, at_first, at_last, Each, at_case, no_more, runs, running, numbers, at_column, holding_after}

-- what a line with this many steps leaves
abbrev turned_out : World
turned_out = serving (record { locals = assigned_to (assigned_to no_locals (codes "N") [] (codes "3")) (codes "I") [] (codes "4"); naked = None; test = false; cursor = home })

lines : Each (
    -- a FOR turns down to its limit if the increment is below zero
    (codes "F I=3:-1:1 W I", done (codes "321")) ∷
    -- parameters one after another, texts among them
    (codes "F I=\"a\",3:2:8,9 W I", done (codes "a3579")) ∷
    -- each parameter is evaluated when it is reached
    (codes "F I=1:1:2,I+5 W I", done (codes "127")) ∷
    -- an error in a parameter comes after the turns of those before it
    (codes "F I=1,1/0 W I", failed (codes "1") M9) ∷
    -- a text that is a parameter alone stays a text
    (codes "F I=\"3X\" W I", done (codes "3X")) ∷
    -- the start is a number before the increment is evaluated
    (codes "F I=\"1E30\":1/0:1", failed [] Zover) ∷
    -- the index grows from what it is after the turn
    (codes "F I=1:1:5 W I S I=I+1", done (codes "135")) ∷
    -- the limit is compared with the exact sum, not with the rounded one
    (codes "F I=999999999999999999:.1:999999999999999999 W 1", done (codes "1")) ∷
    -- a sum that is too large is an error if no limit ends the FOR before
    (codes "F I=9E17:9E17 W 1", failed (codes "1") Zover) ∷
    -- and none if one does
    (codes "F I=9E17:9E17:9E17 W 1", done (codes "1")) ∷
    -- a FOR in a FOR: QUIT ends the inner one
    (codes "F I=1:1:2 F J=1:1 Q:J=3  W J", done (codes "1212")) ∷
    -- QUIT ends the FOR with all its parameters
    (codes "F I=1,2,3 Q:I=2  W I", done (codes "1")) ∷
    -- an IF that is false ends the turn, and not the FOR
    (codes "F I=1:1:3 W I I I=2 W \"x\"", done (codes "12x3")) ∷
    -- an index that is undefined when it is to grow is an error, even if no turn could come
    (codes "F I=1:1:1 K I", failed [] M15) ∷
    -- a text as parameter reads no index
    (codes "F I=1,2 K I", done []) ∷
    -- an index that NEW hid is undefined
    (codes "F I=1:1:3 N I", failed [] M15) ∷
    -- of a command whose condition is false nothing is evaluated
    (codes "S:0 A=1/0 W 1", done (codes "1")) ∷
    -- QUIT ends the line if there is no FOR
    (codes "W 1 Q  W 2", done (codes "1")) ∷ [])
unfolding runs
lines =
    at_case _ refl (simp running) (at_case _ refl (simp running) (at_case _ refl (simp running) (at_case _ refl (simp running) (at_case _ refl (simp running)
    (at_case _ refl (simp running) (at_case _ refl (simp running) (at_case _ refl (simp (running, numbers.of_tenth, numbers.of_largest))
    (at_case _ refl (simp running) (at_case _ refl (simp running) (at_case _ refl (simp running) (at_case _ refl (simp running) (at_case _ refl (simp running)
    (at_case _ refl (simp running) (at_case _ refl (simp running) (at_case _ refl (simp running) (at_case _ refl (simp running)
    (at_case _ refl (simp running) no_more)))))))))))))))))

-- lines one after another
record Sessions : Type 0 where
  -- a FOR sets its index at each turn, up to its limit, and leaves it
  each_turn : Answered (codes "F I=1:1:3 W I" ∷ codes "W I" ∷ []) (done (codes "123") ∷ done (codes "3") ∷ [])
  -- a FOR without a turn, since its start is past the limit
  limit_passed : Answered (codes "F I=5:1:3 W \"x\"" ∷ codes "W I" ∷ []) (done [] ∷ done (codes "5") ∷ [])
  -- a start before an increment becomes a number
  start_is_number : Answered (codes "F I=\"3X\":1:1 W 1" ∷ codes "W I" ∷ []) (done [] ∷ done (codes "3") ∷ [])
  -- a FOR without an index turns until QUIT
  without_index : Answered (codes "S A=1 F  S A=A+1 Q:A=3" ∷ codes "W A" ∷ []) (done [] ∷ done (codes "3") ∷ [])
  -- Three steps for the FOR and its numbers, and three for each turn: the fourth turn has its index, and no step.
  steps_used_up : AreAnswered (with_steps 12) (opening empty) (codes "F I=1:1 S N=I" ∷ codes "W I,N" ∷ []) (failed [] Zsteps ∷ done (codes "43") ∷ [])
  -- $TEST lasts from line to line
  else_after_if : Answered (codes "I 0 W \"a\"" ∷ codes "E  W \"b\",$T" ∷ []) (done [] ∷ done (codes "b0") ∷ [])
  -- ELSE passes over the rest of the line if $TEST is 1
  else_passed_over : Answered (codes "I 1 W \"a\"" ∷ codes "E  W \"b\"" ∷ []) (done (codes "a") ∷ done [] ∷ [])
  -- IF goes on while its arguments are true, and each sets $TEST
  each_sets_test : Answered (codes "I 1,0 W 5" ∷ codes "W $T" ∷ []) (done [] ∷ done (codes "0") ∷ [])

sessions : Sessions
unfolding runs
sessions = record {
  each_turn = at_first (holding_after 3 (codes "I") (codes "3")) _ refl (simp running) (at_last _ refl (simp running));
  limit_passed = at_first (holding (codes "I") (codes "5")) _ refl (simp running) (at_last _ refl (simp running));
  start_is_number = at_first (holding (codes "I") (codes "3")) _ refl (simp running) (at_last _ refl (simp running));
  without_index = at_first (holding (codes "A") (codes "3")) _ refl (simp running) (at_last _ refl (simp running));
  steps_used_up = at_first turned_out _ refl (simp running) (at_last _ refl (simp running));
  else_after_if = at_first (serving new_session) _ refl (simp running) (at_last _ refl (simp running));
  else_passed_over = at_first (serving (record { locals = no_locals; naked = None; test = true; cursor = at_column 1 })) _ refl (simp running) (at_last _ refl (simp running));
  each_sets_test = at_first (serving new_session) _ refl (simp running) (at_last _ refl (simp running));
}
