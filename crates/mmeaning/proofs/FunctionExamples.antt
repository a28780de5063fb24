-- SPDX-License-Identifier: Apache-2.0
-- Functions on examples, as proved equations.
use Rattle.mmeaning.proofs.MeaningWords.{◌≡◌, ℕ, M6, M11, M13, M16, M17, M20, M58, Zsteps, Zsyntax, Halted, List}
use Rattle.mmeaning.proofs.ExampleAccount.{alice_in}
use Rattle.mmeaning.proofs.LineRuns.{Cases, AreAnsweredEach}
use Rattle.mmeaning.proofs.Running.{[], ◌∷◌, refl, codes, done, failed, Globals, opening, lines_in, Text, asked, WithEachIn, at_case, no_more, runs, running}

abbrev lines : List Text
lines =
    codes "T Q 1" ∷ codes "ONE() Q 1" ∷ codes "ADD(A,B) Q A_B" ∷ codes "SET(A) S A=A_1 Q A" ∷ codes "SHOW(A) W A Q" ∷ codes "TEST(A) I A" ∷ codes " Q 5" ∷
    codes "WANT() X \"W $QUIT\" Q $Q" ∷ codes "BLOCK() D  Q $T" ∷ codes " . W $Q I 1" ∷ codes "HALT() H" ∷ codes "NO() Q" ∷ codes "LOOP() F I=1:1:3 Q:I=2 I" ∷
    codes "GO() G ONE" ∷ codes "LAST(N) Q:N=1 1 Q N_$$LAST(1)" ∷ codes "END() S X=1" ∷ []

record Functions : Type 0 where
  -- what functions give, a list of actuals written or not
  values : WithEachIn 1 (codes "T") lines (
      (codes "W $$ONE^T,$$ONE^T()", done (codes "11")) ∷
      (codes "W $$ADD^T(\"a\",$$ADD^T(\"b\",\"c\"))", done (codes "abc")) ∷
      (codes "D SHOW^T($$ONE^T)", done (codes "1")) ∷
      (codes "X \"W $$ADD^T(1,2)\"", done (codes "12")) ∷
      (codes "W $$LAST^T(2)", done (codes "21")) ∷ [])
  -- in a subscript, also after an indirection, after a variable, and in $SELECT, of which what is passed by calls nothing
  anywhere : WithEachIn 1 (codes "T") lines (
      (codes "S A(1)=\"y\" W A($$ONE^T)", done (codes "y")) ∷
      (codes "S A(1)=\"y\",C=\"A\" W @C@($$ONE^T)", done (codes "y")) ∷
      (codes "W $G(A,$$ONE^T)", done (codes "1")) ∷
      (codes "W $S(0:$$NO^T(),$$ONE^T:2,1:$$NO^T())", done (codes "2")) ∷ [])
  -- from left to right; $TEST is afterwards what it was, and HALT ends the session from within
  effects : WithEachIn 1 (codes "T") lines (
      (codes "S A=\"x\" W A_$$SET^T(.A)_A", done (codes "xx1x1")) ∷
      (codes "I 1 S X=$$TEST^T(0) W X,$T", done (codes "51")) ∷
      (codes "W $$WANT^T()", done (codes "01")) ∷
      (codes "W 1,$$BLOCK^T(),2", done (codes "1002")) ∷
      (codes "W 1,$$HALT^T() W 2", record { out = codes "1"; ending = Halted }) ∷ [])
  -- a function has a formal list, and ends with a value; the text of a name calls none, and that of arguments does
  refused : WithEachIn 1 (codes "T") lines (
      (codes "W $$T^T", failed [] M20) ∷
      (codes "W $$ADD^T(1,2,3)", failed [] M58) ∷
      (codes "W $$NO^T()", failed [] M17) ∷
      (codes "W $$END^T()", failed [] M17) ∷
      (codes "W $$LOOP^T()", failed [] M16) ∷
      (codes "W $$GO^T()", failed [] M11) ∷
      (codes "W $$NONE^T(NO)", failed [] M6) ∷
      (codes "W $$NONE^T()", failed [] M13) ∷
      (codes "S C=\"A($$ONE^T)\" W 1 S @C=1", failed (codes "1") Zsyntax) ∷
      (codes "S C=\"$$ONE^T\" W @C", done (codes "1")) ∷ [])

functions : Functions
unfolding runs
functions = record {
  values = λ g h.
      at_case _ refl (simp (running, asked g _ _ h)) (at_case _ refl (simp (running, asked g _ _ h)) (at_case _ refl (simp (running, asked g _ _ h)) (
      at_case _ refl (simp (running, asked g _ _ h)) (at_case _ refl (simp (running, asked g _ _ h)) no_more))));
  anywhere = λ g h.
      at_case _ refl (simp (running, asked g _ _ h)) (at_case _ refl (simp (running, asked g _ _ h)) (
      at_case _ refl (simp (running, asked g _ _ h)) (at_case _ refl (simp (running, asked g _ _ h)) no_more)));
  effects = λ g h.
      at_case _ refl (simp (running, asked g _ _ h)) (at_case _ refl (simp (running, asked g _ _ h)) (at_case _ refl (simp (running, asked g _ _ h)) (
      at_case _ refl (simp (running, asked g _ _ h)) (at_case _ refl (simp (running, asked g _ _ h)) no_more))));
  refused = λ g h.
      at_case _ refl (simp (running, asked g _ _ h)) (at_case _ refl (simp (running, asked g _ _ h)) (at_case _ refl (simp (running, asked g _ _ h)) (
      at_case _ refl (simp (running, asked g _ _ h)) (at_case _ refl (simp (running, asked g _ _ h)) (at_case _ refl (simp (running, asked g _ _ h)) (
      at_case _ refl (simp running) (at_case _ refl (simp (running, asked g _ _ h)) (at_case _ refl (simp running) (
      at_case _ refl (simp (running, asked g _ _ h)) no_more)))))))));
}

-- a call costs the step of its primary and that of its line, besides those of its actuals and of the commands
abbrev InSteps : ℕ → Cases → Type 0
InSteps n cases = (g : Globals) → lines_in g (codes "T") ≡ lines → AreAnsweredEach (record (alice_in 1) { steps = n }) (opening g) cases

record Steps : Type 0 where
  enough_for_call : InSteps 5 (
      (codes "W $$ONE^T()", done (codes "1")) ∷
      (codes "D NO^T() W 1", done (codes "1")) ∷ [])
  too_few_for_call : InSteps 4 (
      (codes "W $$ONE^T()", failed [] Zsteps) ∷
      -- a value that nobody wants is evaluated
      (codes "D ONE^T()", failed [] M16) ∷ [])
  too_few_for_value : InSteps 3 (
      (codes "D ONE^T()", failed [] Zsteps) ∷ [])

steps : Steps
unfolding runs
steps = record {
  enough_for_call = λ g h. at_case _ refl (simp (running, asked g _ _ h)) (at_case _ refl (simp (running, asked g _ _ h)) no_more);
  too_few_for_call = λ g h. at_case _ refl (simp (running, asked g _ _ h)) (at_case _ refl (simp (running, asked g _ _ h)) no_more);
  too_few_for_value = λ g h. at_case _ refl (simp (running, asked g _ _ h)) no_more;
}
