-- SPDX-License-Identifier: Apache-2.0
-- Routines, DO, GOTO and XECUTE on examples, as proved equations.
use Rattle.mmeaning.proofs.MeaningWords.{M13, Zsyntax, Zsteps, no_locals, assigned_to, home}
use Rattle.mmeaning.proofs.Running.{[], ◌∷◌, None, false, refl, codes, done, failed, at_first, at_last, asked, serving_in, With, WithSteps, Anywhere}
use Rattle.mmeaning.proofs.Running.{computed_operations, WithEach, at_case, no_more, runs, running, at_column}

record Routines : Type 0 where
  routine_with_new : WithEach (codes "R") (codes "T N V S V=2 D U W V Q" ∷ codes "U S V=V+1 Q" ∷ []) (
      -- NEW ends with its level: the variable of the level above comes back
      (codes "S V=9 D T^R W V", done (codes "39")) ∷
      -- no line has the label
      (codes "D NO^R", failed [] M13) ∷ [])
  -- nor has a line of a terminal one to go to
  no_lines : Anywhere (codes "W 1 D U" ∷ []) (failed (codes "1") M13 ∷ [])
  -- a routine without lines
  no_routine : With (codes "R") [] (codes "D ^R" ∷ []) (failed [] M13 ∷ [])
  -- GOTO leaves the FOR of its line
  goto_leaves_for : With (codes "G") (codes "A W 1" ∷ codes " Q" ∷ []) (codes "F I=1:1:3 G A^G" ∷ codes "W I" ∷ []) (done (codes "1") ∷ done (codes "1") ∷ [])
  -- what an argument of GOTO has as condition
  goto_where_true : With (codes "G") (codes "A W 1 Q" ∷ codes "B W 2 Q" ∷ []) (codes "G A^G:0,B^G" ∷ []) (done (codes "2") ∷ [])
  goto_in_xecute : WithEach (codes "T") (codes "T W 1 X \"G U\" W 2 Q" ∷ codes "U W 3 Q" ∷ []) (
      -- GOTO in a text of XECUTE stays in the level of the XECUTE, and the line of the XECUTE goes on
      (codes "D T^T", done (codes "132")) ∷
      -- a GOTO brings lines to a text of XECUTE
      (codes "X \"G U^T\" W \".\"", done (codes "3.")) ∷ [])
  -- which has those of its line, and a line of a terminal has none
  label_in_xecute : Anywhere (codes "X \"D U\"" ∷ []) (failed [] M13 ∷ [])
  read_where_reached : WithEach (codes "T") (codes "T W 1" ∷ codes "U )" ∷ codes "V(" ∷ []) (
      -- a line is read when it is reached, and not before
      (codes "D T^T", failed (codes "1") Zsyntax) ∷
      -- its label is found before
      (codes "D U^T", failed [] Zsyntax) ∷
      -- no label ends at a bracket
      (codes "D V^T", failed [] M13) ∷ [])
  -- lines one after another, and their end
  lines_in_order : With (codes "T") (codes " W 0" ∷ codes " W 1" ∷ codes " W 2" ∷ []) (codes "D ^T" ∷ []) (done (codes "012") ∷ [])
  -- of two lines with a label the first is meant
  first_label : With (codes "T") (codes "T Q" ∷ codes "U W 1 Q" ∷ codes "U W 2 Q" ∷ []) (codes "D U^T" ∷ []) (done (codes "1") ∷ [])
  -- arguments one after another, each if its own condition holds
  arguments_of_do : With (codes "T") (codes "T W 1 Q" ∷ codes "U W 2 Q" ∷ []) (codes "D U^T:1,T^T:0,^T" ∷ []) (done (codes "21") ∷ [])
  -- XECUTE of several texts, and of one whose condition is false
  texts : Anywhere (codes "X \"S A=4\":1,\"W A*A\",\"W 1/0\":0" ∷ []) (done (codes "16") ∷ [])
  -- a text that is no line
  no_text : Anywhere (codes "W 1 X \"W\"" ∷ []) (failed (codes "1") Zsyntax ∷ [])
  -- XECUTE in the turns of a FOR
  xecute_in_for : Anywhere (codes "F I=1:1:3 X \"W I\"" ∷ []) (done (codes "123") ∷ [])
  -- QUIT ends the FOR of its text, and not the one around it
  for_in_xecute : Anywhere (codes "F I=1:1:2 X \"F J=1:1:2 W I,J Q:I=2\"" ∷ []) (done (codes "111221") ∷ [])
  -- a DO costs its word and each line that it reaches, an empty one too
  steps_of_lines : WithSteps 10 (codes "T") (codes "T" ∷ codes "" ∷ codes " S A=1" ∷ []) (codes "D ^T F %N=1:1" ∷ codes "W %N" ∷ []) (failed [] Zsteps ∷ done (codes "2") ∷ [])
  -- a routine that takes its own lines away is still run
  own_lines_killed : With (codes "K") (codes "A K ^ROUTINE W \"k\"" ∷ codes " W \"ept\"" ∷ []) (codes "D A^K" ∷ []) (done (codes "kept") ∷ [])
  -- NEW in a text of XECUTE ends with its level
  new_in_xecute : Anywhere (codes "S V=1 X \"N V S V=2\" W V" ∷ []) (done (codes "1") ∷ [])
  -- DO leaves $TEST as its lines leave it
  test_of_do : With (codes "T") (codes "T I 0" ∷ []) (codes "I 1 D T^T W $T" ∷ []) (done (codes "0") ∷ [])
  -- DO in a text of XECUTE seeks a label where the line of that does
  do_in_xecute : With (codes "T") (codes "T X \"D U\" W 2 Q" ∷ codes "U W 1 Q" ∷ []) (codes "D T^T" ∷ []) (done (codes "12") ∷ [])
  -- DO in the turns of a FOR
  do_in_for : With (codes "T") (codes " W I" ∷ []) (codes "F I=1:1:3 D ^T" ∷ []) (done (codes "123") ∷ [])
  -- QUIT ends the FOR of its line first, and the level only if there is none
  quit_of_for : With (codes "T") (codes "T F I=1:1 W I Q:I=2" ∷ codes " W \"e\" Q  W 9" ∷ []) (codes "D ^T W \".\"" ∷ []) (done (codes "12e.") ∷ [])

routines : Routines
unfolding runs
routines = record {
  routine_with_new = λ g h. at_case _ refl (simp (running, asked g _ _ h)) (at_case _ refl (simp (running, asked g _ _ h)) no_more);
  no_lines = λ g. at_last _ refl (simp running);
  no_routine = λ g h. at_last _ refl (simp (running, asked g _ _ h));
  goto_leaves_for = λ g h. at_first (serving_in g (record { locals = assigned_to no_locals (codes "I") [] (codes "1"); naked = None; test = false; cursor = at_column 1 })) _ refl (simp (running, asked g _ _ h)) (at_last _ refl (simp running));
  goto_where_true = λ g h. at_last _ refl (simp (running, asked g _ _ h));
  goto_in_xecute = λ g h. at_case _ refl (simp (running, asked g _ _ h)) (at_case _ refl (simp (running, asked g _ _ h)) no_more);
  label_in_xecute = λ g. at_last _ refl (simp running);
  read_where_reached = λ g h. at_case _ refl (simp (running, asked g _ _ h)) (at_case _ refl (simp (running, asked g _ _ h)) (at_case _ refl (simp (running, asked g _ _ h)) no_more));
  lines_in_order = λ g h. at_last _ refl (simp (running, asked g _ _ h));
  first_label = λ g h. at_last _ refl (simp (running, asked g _ _ h));
  arguments_of_do = λ g h. at_last _ refl (simp (running, asked g _ _ h));
  texts = λ g. at_last _ refl (simp running);
  no_text = λ g. at_last _ refl (simp running);
  xecute_in_for = λ g. at_last _ refl (simp running);
  for_in_xecute = λ g. at_last _ refl (simp running);
  steps_of_lines = λ g h. at_first (serving_in g (record { locals = assigned_to (assigned_to no_locals (codes "A") [] (codes "1")) (codes "%N") [] (codes "2"); naked = None; test = false; cursor = home })) _ refl (simp (running, asked g _ _ h)) (at_last _ refl (simp running));
  own_lines_killed = λ g h. at_last _ refl (simp (running, computed_operations, asked g _ _ h));
  new_in_xecute = λ g. at_last _ refl (simp running);
  test_of_do = λ g h. at_last _ refl (simp (running, asked g _ _ h));
  do_in_xecute = λ g h. at_last _ refl (simp (running, asked g _ _ h));
  do_in_for = λ g h. at_last _ refl (simp (running, asked g _ _ h));
  quit_of_for = λ g h. at_last _ refl (simp (running, asked g _ _ h));
}
