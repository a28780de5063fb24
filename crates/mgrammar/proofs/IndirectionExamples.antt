-- SPDX-License-Identifier: Apache-2.0
-- Indirection on examples, as proved equations: texts with their trees, and texts that have none.
use Rattle.mgrammar.proofs.GrammarWords.{◌≡◌, ℕ, zero, suc, ◌≢◌, List, [], ◌∷◌, ◌++◌, Some, None, refl, rules, codes, plus, add, apply, expr, no_tails, tail}
use Rattle.mgrammar.proofs.GrammarWords.{operand, PrimaryTree, number, text, reference, bracket, ReferenceTree, local, naked, indirect, no_exprs, exprs}
use Rattle.mgrammar.proofs.GrammarWords.{variable, one, several, set_argument, kill_argument, new_argument, if_argument, write_argument, do_argument}
use Rattle.mgrammar.proofs.GrammarWords.{goto_argument, xecute_argument, assign, formats, shown, kill_one, do_one, no_actuals, executed, indirect_args}
use Rattle.mgrammar.proofs.GrammarWords.{set_word, kill_word, new_word, if_word, write_word, do_word, goto_word, execute_word, line_at, ref_at, args_of}
use Rattle.mgrammar.proofs.GrammarWords.{replicate}
use Rattle.mgrammar.proofs.Computing.{reads}
use Rattle.mgrammar.proofs.ShortTrees.{IsRead, HaveNone, only, own_label, named, of_one}

-- ---- short forms

-- a variable without subscripts, A
abbrev a : PrimaryTree
a = reference (named (codes "A"))

-- `@` and an operand
abbrev at : PrimaryTree → ReferenceTree
at p = indirect p no_exprs

-- with one subscript, a digit
abbrev at_digit : PrimaryTree → List ℕ → ReferenceTree
at_digit p t = indirect p (exprs (only (number t)) no_exprs)

-- ---- depth: an operand is one place deeper

abbrev signs : ℕ → List ℕ
signs n = codes "W " ++ (replicate n 64 ++ codes "A")

abbrev deep : ℕ → PrimaryTree → PrimaryTree
deep zero p = p
deep (suc n) p = reference (at (deep n p))

-- beside brackets
abbrev brackets : ℕ → List ℕ → List ℕ
brackets n t = codes "W " ++ (replicate n 40 ++ (t ++ replicate n 41))

bracket_and_operand : (line_at (brackets 40 (codes "@A")) ≡ None) × (line_at (brackets 40 (codes "A")) ≢ None) × (line_at (brackets 39 (codes "@A@(1)")) ≢ None)
unfolding reads
bracket_and_operand = (refl, λ e. cc, λ e. cc)

record Read : Type 0 where
  -- name indirection
  -- in the place of a variable; with subscripts after a further `@`; and those belong to the innermost `@` that has none yet
  operand_and_subscripts : IsRead (codes "W @A+1,@A@(1),@@A@(1)@(2),+@@A@(1)") (of_one write_word (codes "W") (shown (expr (operand [] (reference (at a))) (tail (apply add (operand [] (number (codes "1")))) no_tails)) ∷ shown (only (reference (at_digit a (codes "1")))) ∷ shown (only (reference (at_digit (reference (at_digit a (codes "1"))) (codes "2")))) ∷ shown (expr (operand (plus ∷ []) (reference (at (reference (at_digit a (codes "1")))))) no_tails) ∷ []))
  -- a target of SET, and what KILL takes away
  targets : IsRead (codes "S @A=1,(@A,B)=@A") (of_one set_word (codes "S") (assign (one (variable (at a))) (only (number (codes "1"))) ∷ assign (several (variable (at a) ∷ variable (named (codes "B")) ∷ [])) (only (reference (at a))) ∷ []))
  -- a postconditional makes it an expression
  conditioned_text : IsRead (codes "X @A:1") (of_one execute_word (codes "X") (executed (only (reference (at a))) (Some (only (number (codes "1")))) ∷ []))
  -- argument indirection
  -- WRITE: beside other arguments
  write_argument_given : IsRead (codes "W @A,1,@@A,@\"A\"") (of_one write_word (codes "W") (indirect_args write_argument a ∷ shown (only (number (codes "1"))) ∷ indirect_args write_argument (reference (at a)) ∷ indirect_args write_argument (text (codes "A")) ∷ []))
  -- SET
  set_argument_given : IsRead (codes "S @A,@@A") (of_one set_word (codes "S") (indirect_args set_argument a ∷ indirect_args set_argument (reference (at a)) ∷ []))
  -- KILL
  kill_argument_given : IsRead (codes "K @A,@@A") (of_one kill_word (codes "K") (indirect_args kill_argument a ∷ indirect_args kill_argument (reference (at a)) ∷ []))
  -- NEW
  new_argument_given : IsRead (codes "N @A,@@A") (of_one new_word (codes "N") (indirect_args new_argument a ∷ indirect_args new_argument (reference (at a)) ∷ []))
  -- IF
  if_argument_given : IsRead (codes "I @A,@@A") (of_one if_word (codes "I") (indirect_args if_argument a ∷ indirect_args if_argument (reference (at a)) ∷ []))
  -- DO
  do_argument_given : IsRead (codes "D @A,@@A") (of_one do_word (codes "D") (indirect_args do_argument a ∷ indirect_args do_argument (reference (at a)) ∷ []))
  -- GOTO
  goto_argument_given : IsRead (codes "G @A,@@A") (of_one goto_word (codes "G") (indirect_args goto_argument a ∷ indirect_args goto_argument (reference (at a)) ∷ []))
  -- XECUTE
  xecute_argument_given : IsRead (codes "X @A,@@A") (of_one execute_word (codes "X") (indirect_args xecute_argument a ∷ indirect_args xecute_argument (reference (at a)) ∷ []))
  -- subscripts after a further `@` make it a variable
  removal_named : IsRead (codes "K @A@(1),@(A)") (of_one kill_word (codes "K") (kill_one (at_digit a (codes "1")) ∷ indirect_args kill_argument (bracket (only a)) ∷ []))
  -- texts without a tree
  -- FOR and QUIT take none; and no name, label or routine alone is given so
  none_of_commands : HaveNone (
      codes "F @A" ∷ codes "N @A@(1)" ∷ codes "N (@A)" ∷ codes "D @A@(1)" ∷ codes "D @A^R" ∷ codes "D A^@R" ∷ codes "G @A:1" ∷
      codes "D @A:1" ∷ codes "S @A:1" ∷ [])
  -- an operand is a primary, and has subscripts once
  none_of_operands : HaveNone (
      codes "W @" ∷ codes "W @-A" ∷ codes "W @A@(1)@(2)" ∷ codes "W @@A@" ∷ codes "W A@(1)" ∷ codes "W @A(" ∷ codes "W @A@()" ∷ codes "W @A 1" ∷ [])
  forty_deep : IsRead (signs 40) (of_one write_word (codes "W") (indirect_args write_argument (deep 39 a) ∷ []))
  one_deeper : HaveNone ((signs 41) ∷ [])
  -- texts that stand for an `@`
  references : (ref_at (codes "B(1)") ≡ Some (local (codes "B") (exprs (only (number (codes "1"))) no_exprs))) × (ref_at (codes "@A") ≡ Some (at a)) × (ref_at (codes "^(1)") ≡ Some (naked (exprs (only (number (codes "1"))) no_exprs)))
  no_references : (ref_at [] ≡ None) × (ref_at (codes "B C") ≡ None) × (ref_at (codes " B") ≡ None) × (ref_at (codes "B,C") ≡ None) × (ref_at (codes "1") ≡ None) × (ref_at (codes "B ") ≡ None)
  argument_lists : (args_of write_argument (codes "1,!!,@A") ≡ Some (shown (only (number (codes "1"))) ∷ formats (codes "!!") None ∷ indirect_args write_argument a ∷ []))
      × (args_of set_argument (codes "B=4,@A") ≡ Some (assign (one (variable (named (codes "B")))) (only (number (codes "4"))) ∷ indirect_args set_argument a ∷ []))
      × (args_of do_argument (codes "U^T:1") ≡ Some (do_one (own_label (codes "U") (codes "T")) no_actuals (Some (only (number (codes "1")))) ∷ []))
  no_argument_lists : (args_of write_argument [] ≡ None) × (args_of write_argument (codes "1 1") ≡ None) × (args_of write_argument (codes "1,") ≡ None) × (args_of kill_argument (codes "1") ≡ None) × (args_of set_argument (codes "B") ≡ None) × (args_of do_argument (codes " A") ≡ None)

all_read : Read
unfolding reads
all_read = search rules
