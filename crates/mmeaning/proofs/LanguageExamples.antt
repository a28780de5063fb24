-- SPDX-License-Identifier: Apache-2.0
-- Languages on examples, as proved equations: what the lines of an account do whose language has a form, and of one whose language does
-- not.
use Rattle.mmeaning.proofs.MeaningWords.{ℕ, Bool, true, false, ◌++◌, List, Some, None, M6, M9, M10, M13, M28, M94, Zover, Zsteps, Zsyntax, State, Act}
use Rattle.mmeaning.proofs.MeaningWords.{give_some, ◌>>=◌, Done, Gives, Fails, computes, reads_in, rules}
use Rattle.mgrammar.specs.IndirectTexts.{pattern_of}
use Rattle.mmeaning.specs.Operators.{raising, matching}
use Rattle.std.specs.Prelude.{pos, negsuc}
use Rattle.mmeaning.specs.LineMeaning.{coded_character}
use Rattle.mmeaning.proofs.ExampleAccount.{alice_in}
use Rattle.mmeaning.proofs.LineRuns.{Cases, AreAnsweredEach}
use Rattle.mmeaning.proofs.Running.{◌≡◌, [], ◌∷◌, refl, codes, empty, Text, opening, done, failed, at_case, no_more, asked, WithEachIn, runs, running}

abbrev EachIn : ℕ → Cases → Type 0
EachIn language cases = AreAnsweredEach (alice_in language) (opening empty) cases

profile : EachIn 0 (
    -- no command of such a line is done
    (codes "W $RE(\"abc\")", failed [] Zsyntax) ∷
    (codes "W 1 W $REVERSE(\"abc\")", failed [] Zsyntax) ∷
    (codes "W 1,#", failed [] Zsyntax) ∷
    (codes "W 1,*65", failed [] Zsyntax) ∷
    -- a text that a line gives is read when it is reached, as the line was
    (codes "W 1 X \"W $RE(2)\"", failed (codes "1") Zsyntax) ∷
    (codes "W 1,@\"$RE(2)\"", failed (codes "1") Zsyntax) ∷
    (codes "W 1,$G(@\"B($RE(2))\",3)", failed (codes "1") Zsyntax) ∷
    (codes "W $J", failed [] Zsyntax) ∷
    (codes "W 1 H 1", failed [] Zsyntax) ∷
    (codes "W $QL(\"A\")", failed [] Zsyntax) ∷
    (codes "W $QS(\"A\",0)", failed [] Zsyntax) ∷
    (codes "W 1?@\"1N\"", failed [] Zsyntax) ∷ [])
unfolding runs
profile =
    at_case _ refl (simp running) (at_case _ refl (simp running) (at_case _ refl (simp running) (at_case _ refl (simp running) (at_case _ refl (simp running)
    (at_case _ refl (simp running) (at_case _ refl (simp running) (at_case _ refl (simp running) (at_case _ refl (simp running)
    (at_case _ refl (simp running) (at_case _ refl (simp running) (at_case _ refl (simp running) no_more)))))))))))

first_language : EachIn 1 (
    (codes "W $RE(\"abc\")", done (codes "cba")) ∷
    (codes "W 1 W $REVERSE(\"abc\"),$RE(\"\")", done (codes "1cba")) ∷
    (codes "W 1 X \"W $RE(2)\"", done (codes "12")) ∷
    (codes "W 1,@\"$RE(2)\"", done (codes "12")) ∷
    (codes "W 1,$G(@\"B($RE(2))\",3)", done (codes "13")) ∷
    -- the number of the terminal
    (codes "W $I,$IO,$J,$JOB,$P,$PRINCIPAL", done (codes "111111")) ∷
    -- nothing waits; what is evaluated is to be a number
    (codes "W 1 H 9,0 HANG 1 W 2", done (codes "12")) ∷
    (codes "W 1 H:0 X HANG X W 2", failed (codes "1") M6) ∷
    -- formats of WRITE, and characters by their codes
    (codes "W 1,#!,*16,*2", done (codes "1" ++ 12 ∷ 255 ∷ 16 ∷ 2 ∷ [])) ∷
    -- and what the profile has
    (codes "W $L(\"abc\")", done (codes "3")) ∷
    -- what no language has
    (codes "W $RE(1,2)", failed [] Zsyntax) ∷ [])
unfolding runs
first_language =
    at_case _ refl (simp running) (at_case _ refl (simp running) (at_case _ refl (simp running) (at_case _ refl (simp running)
    (at_case _ refl (simp running) (at_case _ refl (simp running) (at_case _ refl (simp running) (at_case _ refl (simp running)
    (at_case _ refl (simp running) (at_case _ refl (simp running) (at_case _ refl (simp running) no_more))))))))))

-- the characters that codes have
codes_of_characters : (coded_character (pos 0) ≡ Some 0) × (coded_character (pos 127) ≡ Some 127) × (coded_character (pos 128) ≡ None) × (coded_character (negsuc 0) ≡ None)
codes_of_characters = (refl, refl, refl, refl)

-- the pattern that a text is: it is read once the operand is evaluated, and a reversed count in it is an error as in one that is written
patterns : EachIn 1 (
    (codes "W 1?@\"1N\",\"a\"?@\"1N\",1'?@\"1N\"", done (codes "100")) ∷
    (codes "W 1,1?@\"\"", failed (codes "1") Zsyntax) ∷
    (codes "W 1?@\"@P\"", failed [] Zsyntax) ∷
    (codes "W 1?@\"2.1N\"", failed [] M10) ∷
    (codes "W 1?@P", failed [] M6) ∷ [])
unfolding runs
patterns =
    at_case _ refl (simp running) (at_case _ refl (simp running) (at_case _ refl (simp running) (at_case _ refl (simp running)
    (at_case _ refl (simp running) no_more))))

-- a routine's line is read in the language of the line that enters it; its label is read without that
abbrev lines : List Text
lines = codes "T W $RE(\"ab\")" ∷ codes "U W 3" ∷ []

routine_of_profile : WithEachIn 0 (codes "T") lines (
    (codes "W 1 D T^T", failed (codes "1") Zsyntax) ∷
    (codes "D U^T", done (codes "3")) ∷
    (codes "D V^T", failed [] M13) ∷ [])
unfolding runs
routine_of_profile = λ g h. at_case _ refl (simp (running, asked g _ _ h)) (at_case _ refl (simp (running, asked g _ _ h)) (at_case _ refl (simp (running, asked g _ _ h)) no_more))

routine_of_first_language : WithEachIn 1 (codes "T") lines (
    (codes "W 1 D T^T", done (codes "1ba3")) ∷
    (codes "D U^T", done (codes "3")) ∷ [])
unfolding runs
routine_of_first_language = λ g h. at_case _ refl (simp (running, asked g _ _ h)) (at_case _ refl (simp (running, asked g _ _ h)) no_more)

-- `**`, with this many steps left: what it gives, and the steps that it leaves
record Powers (s : State) : Type 0 where
  above_zero : raising (codes "2") (codes "3") (record s { steps = 3 }) ≡ Done (Gives (codes "8") (record s { steps = 0 }))
  below_zero : raising (codes "2") (codes "-3") (record s { steps = 4 }) ≡ Done (Gives (codes ".125") (record s { steps = 1 }))
  of_zero : raising (codes "-5") (codes "0") s ≡ Done (Gives (codes "1") s)
  each_is_rounded : raising (codes "1.5") (codes "-3") (record s { steps = 3 }) ≡ Done (Gives (codes ".296296296296296297") (record s { steps = 0 }))
  a_step_too_few : raising (codes "1") (codes "3") (record s { steps = 2 }) ≡ Done (Fails Zsteps (record s { steps = 0 }))
  too_large : raising (codes "1000000000") (codes "2") (record s { steps = 2 }) ≡ Done (Fails Zover (record s { steps = 0 }))
  of_a_fraction : raising (codes "4") (codes ".5") s ≡ Done (Fails M28 s)
  zero_to_zero : raising [] [] s ≡ Done (Fails M94 s)
  zero_below_zero : raising (codes "0") (codes "-1") (record s { steps = 1 }) ≡ Done (Fails M9 (record s { steps = 0 }))

powers : (s : State) → Powers s
unfolding computes
powers s = search rules

-- whether a text matches a pattern that is written so
abbrev matches_written : Text → Text → Act Bool
matches_written x t = do
  atoms ← give_some Zsyntax (pattern_of t)
  matching atoms x

-- groups, with this many steps left: whether a text matches, and the steps that are left
record Groups (s : State) : Type 0 where
  first_of_two : matches_written (codes "A") (codes "1(1\"A\",2N)") (record s { steps = 1 }) ≡ Done (Gives true (record s { steps = 0 }))
  second_of_two : matches_written (codes "12") (codes "1(1\"A\",2N)") (record s { steps = 1 }) ≡ Done (Gives true (record s { steps = 0 }))
  neither : matches_written (codes "1") (codes "1(1\"A\",2N)") (record s { steps = 1 }) ≡ Done (Gives false (record s { steps = 0 }))
  -- the turns that it takes at most, and those of what is within in each of them
  many : matches_written (codes "1a") (codes ".(1N,1A)") (record s { steps = 3 }) ≡ Done (Gives true (record s { steps = 1 }))
  within : matches_written (codes "1a") (codes "2(1(1N,1A))") (record s { steps = 5 }) ≡ Done (Gives true (record s { steps = 1 }))
  a_step_too_few : matches_written (codes "1a") (codes "2(1N,1A)") (record s { steps = 1 }) ≡ Done (Fails Zsteps (record s { steps = 0 }))
  -- without a turn there is no step
  no_turn : matches_written [] (codes "0(1N)") s ≡ Done (Gives true s)
  no_group : matches_written (codes "1a") (codes "1N1A") s ≡ Done (Gives true s)
  -- a count that is reversed is an error before any step
  reversed : matches_written (codes "1a") (codes "2(1N,3.2A)") s ≡ Done (Fails M10 s)
  reversed_within : matches_written [] (codes "0(1N,1(1A,2.1N))") s ≡ Done (Fails M10 s)

groups : (s : State) → Groups s
unfolding reads_in
groups s = search rules
