-- SPDX-License-Identifier: Apache-2.0
-- Trees of lines, in a short notation: for examples of lines whose text takes long to read by `simp`.
use Rattle.mmeaning.proofs.MeaningWords.{ℕ, List, [], ◌∷◌, Some, None, Text, ExprTree, expr, no_tails, tail, BinaryTree, apply, OperandTree, operand}
use Rattle.mmeaning.proofs.MeaningWords.{PrimaryTree, minus, ReferenceTree, local, no_exprs, variable, one, KeywordTree, ArgTree, assign, CommandTree}
use Rattle.mmeaning.proofs.MeaningWords.{SpacedTree, LineTree}

abbrev pub plain : PrimaryTree → OperandTree
plain p = operand [] p

abbrev pub only : PrimaryTree → ExprTree
only p = expr (plain p) no_tails

abbrev pub negative : PrimaryTree → ExprTree
negative p = expr (operand (minus ∷ []) p) no_tails

-- two operands with an operator between
abbrev pub with_operator : PrimaryTree → BinaryTree → PrimaryTree → ExprTree
with_operator p b q = expr (plain p) (tail (apply b (plain q)) no_tails)

abbrev pub named : Text → ReferenceTree
named name = local name no_exprs

abbrev pub set_to : ReferenceTree → ExprTree → ArgTree
set_to r e = assign (one (variable r)) e

-- a command of one letter
abbrev pub command : KeywordTree → ℕ → List ArgTree → CommandTree
command k letter args = record { keyword = k; word = letter ∷ []; condition = None; args = args }

abbrev pub command_if : KeywordTree → ℕ → ExprTree → List ArgTree → CommandTree
command_if k letter e args = record { keyword = k; word = letter ∷ []; condition = Some e; args = args }

-- each with the spaces after it
abbrev pub line : List SpacedTree → LineTree
line cs = record { lead = 0; commands = cs; comment = None }
