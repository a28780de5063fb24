-- SPDX-License-Identifier: Apache-2.0
-- Formal lists, actuals and the value of QUIT on examples, as proved equations.
use Rattle.mmeaning.proofs.MeaningWords.{M6, M11, M13, M16, M20, M58, Zsyntax, List}
use Rattle.mmeaning.proofs.ExampleAccount.{alice_in}
use Rattle.mmeaning.proofs.LineRuns.{AreAnsweredEach}
use Rattle.mmeaning.proofs.Running.{[], ◌∷◌, refl, codes, done, failed, empty, opening, Text, asked, WithEachIn, at_case, no_more, runs, running}

abbrev lines : List Text
lines = codes "T W 1 Q" ∷ codes "U(A,B) W $D(A),$D(B) S A=2 W A Q" ∷ codes "V W 3" ∷ codes "W(A) W 4" ∷ codes "X D  Q" ∷ codes "Y(A) . W 5" ∷ codes "Z(A,A) W 6" ∷ []

record FormalLists : Type 0 where
  of_first_language : WithEachIn 1 (codes "T") lines (
      -- a level's formal parameters are variables of its own
      (codes "S A=9 D U^T W A", done (codes "0029")) ∷
      -- no line falls into one with a formal list, none goes there, and no block begins with one
      (codes "D V^T", failed (codes "3") M11) ∷
      (codes "G U^T", failed [] M11) ∷
      (codes "D X^T", failed [] M11) ∷
      -- with two equal names it is no formal list, and the line has no tree
      (codes "D Z^T", failed [] Zsyntax) ∷ [])
  of_profile : WithEachIn 0 (codes "T") lines (
      (codes "D U^T", failed [] M13) ∷
      (codes "D V^T", failed (codes "3") Zsyntax) ∷ [])

formal_lists : FormalLists
unfolding runs
formal_lists = record {
  of_first_language = λ g h.
      at_case _ refl (simp (running, asked g _ _ h)) (at_case _ refl (simp (running, asked g _ _ h)) (at_case _ refl (simp (running, asked g _ _ h)) (
      at_case _ refl (simp (running, asked g _ _ h)) (at_case _ refl (simp (running, asked g _ _ h)) no_more))));
  of_profile = λ g h. at_case _ refl (simp (running, asked g _ _ h)) (at_case _ refl (simp (running, asked g _ _ h)) no_more);
}

-- a value is evaluated, and then nobody wants it
unwanted : AreAnsweredEach (alice_in 1) (opening empty) (
    (codes "W 1 Q 5 W 2", failed (codes "1") M16) ∷
    (codes "Q NO", failed [] M6) ∷
    (codes "F I=1:1:3 W I Q:I=2 5", failed (codes "12") M16) ∷
    (codes "X \"Q 5\" W 1", failed [] M16) ∷
    (codes "W 1 Q:0 5 W 2", done (codes "12")) ∷
    (codes "S A=\"B\",B=7 Q @A", failed [] M16) ∷
    (codes "W $Q,$QUIT", done (codes "00")) ∷ [])
unfolding runs
unwanted =
    at_case _ refl (simp running) (at_case _ refl (simp running) (at_case _ refl (simp running) (at_case _ refl (simp running)
    (at_case _ refl (simp running) (at_case _ refl (simp running) (at_case _ refl (simp running) no_more))))))

unwanted_in_levels : WithEachIn 1 (codes "T") (codes "T Q 5" ∷ codes "B D  W 2 Q" ∷ codes " . Q 5" ∷ []) (
    (codes "D T^T W 1", failed [] M16) ∷
    (codes "D B^T W 1", failed [] M16) ∷ [])
unfolding runs
unwanted_in_levels = λ g h. at_case _ refl (simp (running, asked g _ _ h)) (at_case _ refl (simp (running, asked g _ _ h)) no_more)

-- ---- actuals

abbrev called : List Text
called =
    codes "T W 1 Q" ∷ codes "TWO(A,B) W $D(A),$D(B) Q" ∷ codes "SUM(A,B) W A,B Q" ∷ codes "SET(A) S A=7 Q" ∷ codes "SWAP(A,B) N C S C=A,A=B,B=C Q" ∷ codes "KILL(A) K A W $D(X) S A(2)=3 Q" ∷
    codes "NEW(A) N A S A=3 Q" ∷ codes "X N X D SET(.X) W X Q" ∷ []

record Actuals : Type 0 where
  -- values, and nothing: a formal parameter that no actual stands for has no value
  by_value : WithEachIn 1 (codes "T") called (
      (codes "D SUM^T(1,\"a\")", done (codes "1a")) ∷
      (codes "S A=5,B=6 D SUM^T(B,A) W A,B", done (codes "6556")) ∷
      (codes "D TWO^T(,5)", done (codes "01")) ∷
      (codes "D TWO^T(5)", done (codes "10")) ∷
      (codes "S A=5 D TWO^T()", done (codes "00")) ∷
      (codes "S A=5 D TWO^T", done (codes "00")) ∷ [])
  -- other names of the caller's variables, however these are called there
  by_reference : WithEachIn 1 (codes "T") called (
      (codes "S X=1 D SET^T(.X) W X", done (codes "7")) ∷
      (codes "D SET^T(.X) W X", done (codes "7")) ∷
      (codes "S A=1,B=2 D SWAP^T(.B,.A) W A,B", done (codes "21")) ∷
      (codes "S N=\"X\",X=1 D SET^T(.@N) W X", done (codes "7")) ∷
      -- KILL of one name empties the variable of both, and they stay joined; NEW parts them
      (codes "S X(1)=1 D KILL^T(.X) W $D(X(1)),X(2)", done (codes "003")) ∷
      (codes "S X=1 D NEW^T(.X) W X", done (codes "1")) ∷
      -- a variable of a level in between
      (codes "S X=1 D X^T W X", done (codes "71")) ∷ [])
  refused : WithEachIn 1 (codes "T") called (
      (codes "D T^T(1)", failed [] M20) ∷
      (codes "D T^T()", failed [] M20) ∷
      (codes "D T^T", done (codes "1")) ∷
      (codes "D TWO^T(1,2,3)", failed [] M58) ∷
      (codes "D TWO^T(,,)", failed [] M58) ∷
      -- the actuals are evaluated before the line is looked for, and before they are counted
      (codes "D NONE^T(NO)", failed [] M6) ∷
      (codes "D NONE^T(1)", failed [] M13) ∷
      (codes "D T^T(1,2,NO)", failed [] M6) ∷
      -- the condition of an argument comes first
      (codes "D T^T(NO):0 W 2", done (codes "2")) ∷
      -- an operand gives a name, and nothing more
      (codes "S N=\"X(1)\" D SET^T(.@N)", failed [] Zsyntax) ∷
      (codes "S N=\"@X\" D SET^T(.@N)", failed [] Zsyntax) ∷ [])

actuals : Actuals
unfolding runs
actuals = record {
  by_value = λ g h.
      at_case _ refl (simp (running, asked g _ _ h)) (at_case _ refl (simp (running, asked g _ _ h)) (at_case _ refl (simp (running, asked g _ _ h)) (
      at_case _ refl (simp (running, asked g _ _ h)) (at_case _ refl (simp (running, asked g _ _ h)) (at_case _ refl (simp (running, asked g _ _ h)) no_more)))));
  by_reference = λ g h.
      at_case _ refl (simp (running, asked g _ _ h)) (at_case _ refl (simp (running, asked g _ _ h)) (at_case _ refl (simp (running, asked g _ _ h)) (
      at_case _ refl (simp (running, asked g _ _ h)) (at_case _ refl (simp (running, asked g _ _ h)) (at_case _ refl (simp (running, asked g _ _ h)) (
      at_case _ refl (simp (running, asked g _ _ h)) no_more))))));
  refused = λ g h.
      at_case _ refl (simp (running, asked g _ _ h)) (at_case _ refl (simp (running, asked g _ _ h)) (at_case _ refl (simp (running, asked g _ _ h)) (
      at_case _ refl (simp (running, asked g _ _ h)) (at_case _ refl (simp (running, asked g _ _ h)) (at_case _ refl (simp running) (
      at_case _ refl (simp (running, asked g _ _ h)) (at_case _ refl (simp running) (at_case _ refl (simp running) (
      at_case _ refl (simp running) (at_case _ refl (simp running) no_more))))))))));
}
