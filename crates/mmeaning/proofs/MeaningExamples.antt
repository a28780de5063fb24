-- SPDX-License-Identifier: Apache-2.0
-- The interpreter on examples, as proved equations.
use Rattle.mmeaning.proofs.MeaningWords.{ℕ, ◌++◌, Option, map, replicate, line_in, Done, perform, State, Outcome, Gives, Fails, Completion, replies, computes}
use Rattle.mmeaning.proofs.MeaningWords.{join, Code, M4, M6, M9, M10, Zlong, Zsyntax, Zover, Zarg, Zchar, Zline, Zterm, Zsteps, Event, Reply, begun, text_run}
use Rattle.mmeaning.specs.Operators.{binary}
use Rattle.mmeaning.specs.Transition.{act}
use Rattle.mmeaning.proofs.ExampleAccount.{alice}
use Rattle.mmeaning.proofs.Running.{◌≡◌, List, [], ◌∷◌, Some, None, refl, codes, empty, gets, Text, new_session, opening, account, with_steps, done, failed}
use Rattle.mmeaning.proofs.Running.{AreAnswered, Answered, holding, at_first, at_last, Each, at_case, no_more, runs, running, numbers}

abbrev event : ℕ × Text → Event
event e = record { terminal = e.0; text = e.1 }

abbrev answers : List (ℕ × Text) → List Reply
answers lines = replies alice (opening empty) (map event lines)

-- what a line over no locals writes, and the code that it ends with
abbrev shown_by : Outcome Completion → Text × Option Code
shown_by (Gives completion s) = (s.out, None)
shown_by (Fails code s) = (s.out, Some code)

abbrev shown : Text → Text × Option Code
shown t = shown_by (perform (act alice 1 account.name) (text_run account.name (line_in 0 t) (begun 1 account new_session)) (opening empty).shared).0

abbrev Rows : Type 0
Rows = List (Text × (Text × Option Code))

abbrev AreShown : Rows → Type 0
AreShown rows = map (λ r. shown r.0) rows ≡ map (λ r. r.1) rows

shown_by_lines : AreShown (
    -- operators from left to right, numbers and their rounding
    (codes "WRITE 1+2*3", (codes "9", None)) ∷
    (codes "W (1+2)*3,1+(2*3)", (codes "97", None)) ∷
    (codes "W 2/3,\"|\",-7\\2,\"|\",-7#3", (codes ".666666666666666667|-3|2", None)) ∷
    (codes "W \"1.0\"=1,\"--3X\"+0,\"1E3\"+0", (codes "031000", None)) ∷
    (codes "W 12.34567890123456785", (codes "12.3456789012345679", None)) ∷
    (codes "W 999999999999999+1", (codes "1000000000000000", None)) ∷
    (codes "W +\"1234567890123456\"", (codes "1234567890123456", None)) ∷
    (codes "W 999999999999999999+1", ([], Some Zover)) ∷
    (codes "W 999999999999999*10000", ([], Some Zover)) ∷
    (codes "W 1E17", (codes "100000000000000000", None)) ∷
    (codes "W 1E18", ([], Some Zover)) ∷
    (codes "W 1/0", ([], Some M9)) ∷
    (codes "W 1,1#0", (codes "1", Some M9)) ∷
    (codes "W .5+.25,-.5", (codes ".75-.5", None)) ∷
    -- comparisons, logic and the order of subscripts
    (codes "W 10]]9,10]9,\"A\"]]10,2]]\"01\"", (codes "1010", None)) ∷
    (codes "W 1'=2,1'<2,'0", (codes "101", None)) ∷
    (codes "W \"ab\"[\"b\",\"ab\"[\"c\",\"b\"]\"a\"", (codes "101", None)) ∷
    (codes "W 1&2,0!0,1'&0,0'!0,''5", (codes "10111", None)) ∷
    -- patterns, and counts that no text can have
    (codes "W \"AB-12\"?2U1\"-\"1.N,\"\"?.E", (codes "11", None)) ∷
    (codes "W \"a\"?3.1A", ([], Some M10)) ∷
    (codes "W \"\"?1N3.1A", ([], Some M10)) ∷
    (codes "W 1/0?3.1A", ([], Some M9)) ∷
    (codes "W 1?00001N", ([], Some Zsyntax)) ∷
    (codes "W \"\"?3\"\",\"x55\"?1E.5N,\"x\"?.1N1A", (codes "111", None)) ∷
    (codes "W 12'?2n,12'?1NA", (codes "01", None)) ∷
    -- functions and their bounds
    (codes "W $P(\"a,b,,d\",\",\",2,3),$F(\"abcabc\",\"bc\",3),$L(\"\",\",\")", (codes "b,71", None)) ∷
    (codes "W $J(\"ab\",4),$TR(\"banana\",\"an\",\"o\"),$A(\"AB\",2),$C(72,105),$E(\"hello\",2,3),$L(\"abc\")", (codes "  abbooo66Hiel3", None)) ∷
    (codes "W $P(\"aaa\",\"aa\",1),\"|\",$P(\"aaa\",\"aa\",2),$L(\"aaa\",\"aa\")", (codes "|a2", None)) ∷
    (codes "W $P(\"a,b\",\",\",0),$E(\"ab\",-1),$E(\"ab\",-1,1),$F(\"abc\",\"\",9),$F(\"aa\",\"a\",-9),$L($C(-.5)),$L($C(-1))", (codes "a9210", None)) ∷
    (codes "W $C(200,\"1E30\")", ([], Some Zover)) ∷
    (codes "W $P(\"a\",\"\",\"1E30\")", ([], Some Zover)) ∷
    (codes "W $A(\"\",\"1E30\")", ([], Some Zover)) ∷
    (codes "W $S(0:1)", ([], Some M4)) ∷
    (codes "W $s(0:B,1:2,1:C)", (codes "2", None)) ∷
    (codes "W $C(200)", ([], Some Zchar)) ∷
    (codes "W $SELECT(1:1/0)", ([], Some M9)) ∷
    -- what is evaluated before an error, and what is no syntax
    (codes "W \"1E30\"+1", ([], Some Zover)) ∷
    (codes "W -+-3,-\"1E2X\",+\"A\"", (codes "3-1000", None)) ∷
    (codes "W 007,123456789012345678", (codes "7123456789012345678", None)) ∷
    (codes "W 1..5", ([], Some Zsyntax)) ∷
    (codes "S (A)=", ([], Some Zsyntax)) ∷
    (codes "W $X(1)", ([], Some Zsyntax)) ∷ [])
unfolding runs computes
shown_by_lines = refl

cases : Each (
    -- targets of SET, from left to right
    (codes "S (A,B)=3 W A+B", done (codes "6")) ∷
    (codes "S P=\"a\" S $P(P,\"-\",3)=\"z\" W P", done (codes "a--z")) ∷
    (codes "S (B,$P(B,\",\",2))=\"x\" W B", done (codes "x,x")) ∷
    (codes "S $P(A,\"\",\"1E30\")=1", failed [] Zover) ∷
    (codes "S $P(A,\"\",1)=1", failed [] Zarg) ∷
    (codes "S $P(A,\",\",2.9)=1 W A", done (codes ",1")) ∷
    (codes "S $P(A,1/0)=B", failed [] M9) ∷
    -- a line end is the byte 255
    (codes "SET A=\"x\" W A_1,!,A-1*2", done (codes "x1" ++ (255 ∷ codes "-2"))) ∷
    (codes "W 1,\"a\"_B", failed (codes "1") M6) ∷
    -- both operands are evaluated before they become numbers
    (codes "W \"1E30\"+B", failed [] M6) ∷ [])
unfolding runs
cases =
    at_case _ refl (simp running) (at_case _ refl (simp running) (at_case _ refl (simp running) (at_case _ refl (simp running)
    (at_case _ refl (simp running) (at_case _ refl (simp (running, numbers.of_2_point_9)) (at_case _ refl (simp running) (at_case _ refl (simp running)
    (at_case _ refl (simp running) (at_case _ refl (simp running) no_more)))))))))

-- lines one after another
record Sessions : Type 0 where
  place_too_far : Answered (codes "S B=1,$P(B,\",\",501)=2" ∷ codes "W B" ∷ []) (failed [] Zarg ∷ done (codes "1") ∷ [])
  -- locals last from line to line
  locals_last : Answered (codes "S A=5" ∷ codes "W A,A+1" ∷ []) (done [] ∷ done (codes "56") ∷ [])
  -- what comes before an error stands, and what comes after it is not done
  set_stops_at_fault : Answered (codes "S A=1,B=1/0,C=3" ∷ codes "W A,$D(B),$D(C)" ∷ []) (failed [] M9 ∷ done (codes "100") ∷ [])
  -- a step for each command and each primary, and none for the targets of SET and what is in their brackets
  steps_of_set : AreAnswered (with_steps 7) (opening empty) (codes "S (A,B)=1 S $P(A,\",\",2)=(1)" ∷ []) (done [] ∷ [])
  step_of_set_too_few : AreAnswered (with_steps 6) (opening empty) (codes "S (A,B)=1 S $P(A,\",\",2)=(1)" ∷ []) (failed [] Zsteps ∷ [])
  steps_of_kill : AreAnswered (with_steps 6) (opening empty) (codes "K A(1) I $D(A(1))+1" ∷ []) (done [] ∷ [])
  step_of_kill_too_few : AreAnswered (with_steps 5) (opening empty) (codes "K A(1) I $D(A(1))+1" ∷ []) (failed [] Zsteps ∷ [])

sessions : Sessions
unfolding runs
sessions = record {
  place_too_far = at_first (holding (codes "B") (codes "1")) _ refl (simp (running, numbers.of_501)) (at_last _ refl (simp running));
  locals_last = at_first (holding (codes "A") (codes "5")) _ refl (simp running) (at_last _ refl (simp running));
  set_stops_at_fault = at_first (holding (codes "A") (codes "1")) _ refl (simp running) (at_last _ refl (simp running));
  steps_of_set = at_last _ refl (simp running);
  step_of_set_too_few = at_last _ refl (simp running);
  steps_of_kill = at_last _ refl (simp running);
  step_of_kill_too_few = at_last _ refl (simp running);
}

-- the checks in their order
unknown_terminal : answers ((2, codes "W 1") ∷ (1, codes "W 1 2") ∷ (1, codes "") ∷ []) ≡ (failed [] Zterm ∷ failed [] Zsyntax ∷ done [] ∷ [])
unfolding runs computes
unknown_terminal = simp gets

-- a comment of 254 letters is the longest line, a longer one is refused, and so is a character that is not ASCII
line_lengths : answers ((1, 59 ∷ replicate 254 65) ∷ (1, 59 ∷ replicate 255 65) ∷ (1, codes "W " ++ (34 ∷ 195 ∷ 169 ∷ 34 ∷ [])) ∷ []) ≡ (done [] ∷ failed [] Zline ∷ failed [] Zchar ∷ [])
unfolding runs computes
line_lengths = simp gets

-- a text of 4,095 characters is the longest
max_text : (s : State) → binary join (replicate 2048 65) (replicate 2047 65) s ≡ Done (Gives (replicate 4095 65) s)
max_text s = refl

text_too_long : (s : State) → binary join (replicate 2048 65) (replicate 2048 65) s ≡ Done (Fails Zlong s)
text_too_long s = refl
