-- SPDX-License-Identifier: Apache-2.0
-- Variables on examples, as proved equations.
use Rattle.mmeaning.proofs.MeaningWords.{M9, Zsub, Zarg, computes, reads_in}
use Rattle.mmeaning.proofs.Running.{[], ◌∷◌, refl, codes, gets, done, failed, Answered, holding, at_first, at_last, Each, at_case, no_more, runs, running}
use Rattle.mmeaning.proofs.Running.{numbers, holding_after}

refusals : Each (
    -- and none but 1 and -1
    (codes "W $O(A(1),.9)", failed [] Zarg) ∷
    -- a subscript that is empty
    (codes "S L(\"\")=1", failed [] Zsub) ∷
    -- $ORDER without a subscript
    (codes "W $O(L)", failed [] Zarg) ∷ [])
unfolding reads_in computes
refusals = at_case _ refl (simp gets) (at_case _ refl (simp gets) (at_case _ refl (simp gets) no_more))

values : Each (
    -- a variable has its own text and texts at subscripts
    (codes "S A=1,A(1)=2,A(1,\"x\")=3 W A,A(1),A(1,\"x\")", done (codes "123")) ∷
    -- a number and its canonical text are one subscript, and other texts are others
    (codes "S A(1)=5 W A(\"1\"),$D(A(\"01\"))", done (codes "50")) ∷
    -- $DATA tells a text from texts below
    (codes "S A(1,1)=5 W $D(A),$D(A(1)),$D(A(1,1)),$D(A(2)) S A(1)=6 W $D(A(1)),A(1,1)", done (codes "101010115")) ∷
    -- a default if there is no text
    (codes "W $G(A(1),\"d\") S A(1)=5 W $G(A(1),\"d\"),$G(B)", done (codes "d5")) ∷
    -- $ORDER goes through numbers and then other texts, forward and backward
    (codes "S L(2)=1,L(\"x\")=1,L(10)=1 W $O(L(\"\")),$O(L(2)),$O(L(\"x\"),-1)", done (codes "21010")) ∷
    -- among the subscripts that stand below the same ones, each once
    (codes "S L(1,5)=1,L(1,7,2)=1,L(1,7,3)=1,L(2)=1 W $O(L(1,5)),$O(L(\"\")),$O(L(1,7,\"\"),-1),$O(L(2))", done (codes "713")) ∷
    -- a direction is a number without its fraction
    (codes "S A(1)=1,A(2)=2 W $O(A(1),1.9),$O(A(2),-1.9)", done (codes "21")) ∷
    -- KILL takes a node with what is below it, and nothing beside it
    (codes "S A=1,A(1)=2,A(1,1)=3,A(2)=4 K A(1) W $D(A),A,A(2),$D(A(1)) K A W $D(A)", done (codes "111400")) ∷
    -- of all variables those named in brackets are spared
    (codes "S A=1,B=2,C=3 K (A,B) W $D(A),$D(B),$D(C)", done (codes "110")) ∷
    -- and none if no name is given
    (codes "S A=1,B(1)=2 K  W $D(A),$D(B)", done (codes "00")) ∷ [])
unfolding runs
values =
    at_case _ refl (simp running) (at_case _ refl (simp running) (at_case _ refl (simp running) (at_case _ refl (simp running)
    (at_case _ refl (simp running) (at_case _ refl (simp running) (at_case _ refl (simp (running, numbers.of_1_point_9)) (at_case _ refl (simp running)
    (at_case _ refl (simp running) (at_case _ refl (simp running) no_more)))))))))

record Hidden : Type 0 where
  -- what NEW hides comes back after the line
  new_ends_with_line : Answered (codes "S A=1" ∷ codes "N A W $D(A) S A=2 W A" ∷ codes "W A" ∷ []) (done [] ∷ done (codes "02") ∷ done (codes "1") ∷ [])
  -- NEW of all variables but those named; a second list keeps the names that both have
  new_spares : Answered (codes "S A=1,B=2,C=3 N (A,B) N (B,C) W $D(A),$D(B),$D(C)" ∷ []) (done (codes "010") ∷ [])
  -- what a NEW before it hid already stays as it is
  new_after_new : Answered (codes "S A=1" ∷ codes "N A S A=2 N (A) W A" ∷ []) (done [] ∷ done (codes "2") ∷ [])
  -- KILL of all variables leaves those that are hidden
  kill_where_hidden : Answered (codes "S B=2" ∷ codes "N B S B=3 K (A) W $D(B)" ∷ codes "W B" ∷ []) (done [] ∷ done (codes "0") ∷ done (codes "2") ∷ [])
  -- even after an error what NEW hid comes back, and what was set stays
  undone_after_error : Answered (codes "S A=1" ∷ codes "N A S A=2 W 1/0" ∷ codes "W A" ∷ []) (done [] ∷ failed [] M9 ∷ done (codes "1") ∷ [])

hidden : Hidden
unfolding runs
hidden = record {
  new_ends_with_line = at_first (holding (codes "A") (codes "1")) _ refl (simp running) (at_first (holding_after 2 (codes "A") (codes "1")) _ refl (simp running) (at_last _ refl (simp running)));
  new_spares = at_last _ refl (simp running);
  new_after_new = at_first (holding (codes "A") (codes "1")) _ refl (simp running) (at_last _ refl (simp running));
  kill_where_hidden = at_first (holding (codes "B") (codes "2")) _ refl (simp running) (at_first (holding_after 1 (codes "B") (codes "2")) _ refl (simp running) (at_last _ refl (simp running)));
  undone_after_error = at_first (holding (codes "A") (codes "1")) _ refl (simp running) (at_first (holding (codes "A") (codes "1")) _ refl (simp running) (at_last _ refl (simp running)));
}
