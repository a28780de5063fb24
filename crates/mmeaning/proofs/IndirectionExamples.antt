-- SPDX-License-Identifier: Apache-2.0
-- Indirection on examples, as proved equations. What is read of the texts that stand for an `@` is beside the lines.
use Rattle.mmeaning.proofs.MeaningWords.{ℕ, ◌++◌, rules, replicate, M6, M9, Zsteps, Zsyntax, Zdepth, no_locals, assigned_to, divide, ExprTree, number, text}
use Rattle.mmeaning.proofs.MeaningWords.{reference, local, exprs, no_exprs, set_argument, kill_argument, new_argument, if_argument, write_argument}
use Rattle.mmeaning.proofs.MeaningWords.{xecute_argument, formats, shown, kill_one, new_one, tested, executed, indirect_args, ref_in, args_in, reads_in}
use Rattle.mmeaning.proofs.MeaningWords.{line_end, home}
use Rattle.mmeaning.proofs.LineTrees.{only, with_operator, named, set_to}
use Rattle.mmeaning.proofs.Running.{◌≡◌, List, [], ◌∷◌, Some, None, true, false, refl, codes, empty, Text, opening, with_steps, done, failed, AreAnswered}
use Rattle.mmeaning.proofs.Running.{Answered, serving, at_first, at_last, Each, at_case, no_more, runs, running, holding_after}

-- ---- what is read of the texts

abbrev digit : List ℕ → ExprTree
digit t = only (number t)

abbrev variable : List ℕ → ExprTree
variable name = only (reference (named name))

record TextsRead : Type 0 where
  name_a : ref_in 0 (codes "A") ≡ Some (named (codes "A"))
  name_b : ref_in 0 (codes "B") ≡ Some (named (codes "B"))
  name_c : ref_in 0 (codes "C") ≡ Some (named (codes "C"))
  indexed_b : ref_in 0 (codes "B(C)") ≡ Some (local (codes "B") (exprs (variable (codes "C")) no_exprs))
  indexed_a : ref_in 0 (codes "A(1)") ≡ Some (local (codes "A") (exprs (digit (codes "1")) no_exprs))
  two_names : ref_in 0 (codes "B C") ≡ None
  two_strings : ref_in 0 (codes "\"W 5\",\"W 6\"") ≡ None
  shown_b : args_in write_argument 0 (codes "B") ≡ Some (shown (variable (codes "B")) ∷ [])
  shown_i : args_in write_argument 0 (codes "I") ≡ Some (shown (variable (codes "I")) ∷ [])
  shown_1 : args_in write_argument 0 (codes "1") ≡ Some (shown (digit (codes "1")) ∷ [])
  shown_a : args_in write_argument 0 (codes "A") ≡ Some (shown (variable (codes "A")) ∷ [])
  nothing_shown : args_in write_argument 0 [] ≡ None
  shown_until_error : args_in write_argument 0 (codes "1,!,2,1/0") ≡ Some (shown (digit (codes "1")) ∷ formats (codes "!") None ∷ shown (digit (codes "2")) ∷ shown (with_operator (number (codes "1")) divide (number (codes "0"))) ∷ [])
  two_assignments : args_in set_argument 0 (codes "B=4,C=5") ≡ Some (set_to (named (codes "B")) (digit (codes "4")) ∷ set_to (named (codes "C")) (digit (codes "5")) ∷ [])
  two_texts : args_in xecute_argument 0 (codes "\"W 5\",\"W 6\"") ≡ Some (executed (only (text (codes "W 5"))) None ∷ executed (only (text (codes "W 6"))) None ∷ [])
  two_removals : args_in kill_argument 0 (codes "A,B") ≡ Some (kill_one (named (codes "A")) ∷ kill_one (named (codes "B")) ∷ [])
  hidden_a : args_in new_argument 0 (codes "A") ≡ Some (new_one (codes "A") ∷ [])
  two_conditions : args_in if_argument 0 (codes "1,0") ≡ Some (tested (digit (codes "1")) ∷ tested (digit (codes "0")) ∷ [])
  itself_shown : args_in write_argument 0 (codes "@A") ≡ Some (indirect_args write_argument (reference (named (codes "A"))) ∷ [])

texts_read : TextsRead
unfolding reads_in
texts_read = search rules

-- lines one after another
record Sessions : Type 0 where
  -- the variable that a text names costs no step of its own: of ten steps eight are used before the turns
  name_costs_nothing : AreAnswered (with_steps 10) (opening empty) (codes "S A=1 I +@\"A\"  F %N=1:1" ∷ codes "W %N" ∷ []) (failed [] Zsteps ∷ done (codes "3") ∷ [])
  -- IF: a false condition of the text skips the rest of the line
  given_conditions : Answered (codes "I @\"1,0\" W 1" ∷ codes "W $T" ∷ []) (done [] ∷ done (codes "0") ∷ [])
  -- the argument itself costs no step: of ten six are used before the turns
  argument_costs_operand : AreAnswered (with_steps 10) (opening empty) (codes "W @\"1\"  F %N=1:1" ∷ codes "W %N" ∷ []) (failed (codes "1") Zsteps ∷ done (codes "5") ∷ [])

sessions : Sessions
unfolding runs
sessions = record {
  name_costs_nothing = at_first (serving (record { locals = assigned_to (assigned_to no_locals (codes "A") [] (codes "1")) (codes "%N") [] (codes "3"); naked = None; test = true; cursor = home })) _ refl (simp running) (at_last _ refl (simp running));
  given_conditions = at_first (serving (record { locals = no_locals; naked = None; test = false; cursor = home })) _ refl (simp running) (at_last _ refl (simp running));
  argument_costs_operand = at_first (holding_after 1 (codes "%N") (codes "5")) _ refl (simp running) (at_last _ refl (simp running));
}

-- ---- depth of texts and of indirections

-- an operand is one place deeper, forty at most, and each text is by itself
abbrev operands : ℕ → Text
operands n = codes "W " ++ (replicate n 64 ++ codes "A")

abbrev in_brackets : ℕ → Text → Text
in_brackets n t = replicate n 40 ++ (t ++ replicate n 41)

lines : Each (
    -- name indirection
    -- arguments that a text gives, and a variable that it names with subscripts after it
    (codes "S A=\"B\",B=7 W @A,@\"A\"@(1)", failed (codes "7") M6) ∷
    -- what a text names is set, with or without subscripts after it
    (codes "S A=\"B\",@A=1,@A@(2)=3 W B,B(2)", done (codes "13")) ∷
    -- a text's own parts are evaluated before the subscripts after it
    (codes "W @\"B(C)\"@(1/0)", failed [] M6) ∷
    -- and the text is read before that
    (codes "W @\"B C\"@(1/0)", failed [] Zsyntax) ∷
    -- then the subscripts are evaluated
    (codes "W @\"B\"@(1/0)", failed [] M9) ∷
    -- subscripts belong to the innermost indirection, whose value is a text again
    (codes "S C(1)=\"B\",B=5 W @@\"C\"@(1)", done (codes "5")) ∷
    -- and so do others to the one around it
    (codes "S C(1)=\"B\",B(2)=6 W @@\"C\"@(1)@(2)", done (codes "6")) ∷
    -- argument indirection
    -- SET
    (codes "S A=\"B=4,C=5\" S @A W B+C", done (codes "9")) ∷
    -- XECUTE
    (codes "S A=\"\"\"W 5\"\",\"\"W 6\"\"\" X @A", done (codes "56")) ∷
    -- with a postconditional it is a name that the text has to give
    (codes "S A=\"\"\"W 5\"\",\"\"W 6\"\"\" X @A:1", failed [] Zsyntax) ∷
    (codes "S A=\"B\",B=\"W 5\" X @A:1", done (codes "5")) ∷
    -- and DO takes none
    (codes "W 1 D @\"U^T\":1", failed [] Zsyntax) ∷
    -- KILL and NEW
    (codes "S A=1,B=2 K @\"A,B\" W $D(A),$D(B)", done (codes "00")) ∷
    (codes "S A=1 N @\"A\" W $D(A)", done (codes "0")) ∷
    -- WRITE, again at each turn of a FOR
    (codes "F I=1:1:2 W @\"I\"", done (codes "12")) ∷
    -- what comes before an error in the text is written
    (codes "W @\"1,!,2,1/0\"", failed (codes "1" ++ line_end ∷ codes "2") M9) ∷
    -- a text gives one argument at least
    (codes "W @\"\"", failed [] Zsyntax) ∷
    (operands 40, failed [] M6) ∷
    (operands 41, failed [] Zsyntax) ∷
    ((codes "S A=1 W " ++ in_brackets 39 (codes "@\"A\"")), done (codes "1")) ∷
    ((codes "S A(1)=1 W " ++ in_brackets 39 (codes "@\"A(1)\"@(2)")), failed [] M6) ∷
    ((codes "W " ++ in_brackets 40 (codes "@\"A\"")), failed [] Zsyntax) ∷
    -- a text that stands for itself: 32 indirections are under evaluation when it is refused
    (codes "S A=\"@A\" W @A", failed [] Zdepth) ∷ [])
unfolding runs
lines =
    at_case _ refl (simp running) (at_case _ refl (simp running) (at_case _ refl (simp running) (at_case _ refl (simp running)
    (at_case _ refl (simp running) (at_case _ refl (simp running) (at_case _ refl (simp running) (at_case _ refl (simp running)
    (at_case _ refl (simp running) (at_case _ refl (simp running) (at_case _ refl (simp running) (at_case _ refl (simp running)
    (at_case _ refl (simp running) (at_case _ refl (simp running) (at_case _ refl (simp running) (at_case _ refl (simp running)
    (at_case _ refl (simp running) (at_case _ refl (simp (running, running)) (at_case _ refl (simp (running, running)) (at_case _ refl (simp (running, running))
    (at_case _ refl (simp (running, running)) (at_case _ refl (simp (running, running)) (at_case _ refl (simp (running, running)) no_more))))))))))))))))))))))
