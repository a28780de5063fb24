-- SPDX-License-Identifier: Apache-2.0
-- The grammar on examples, as proved equations: texts that have no tree.
use Rattle.mgrammar.proofs.GrammarWords.{[], ◌∷◌, rules, codes}
use Rattle.mgrammar.proofs.Computing.{reads}
use Rattle.mgrammar.proofs.ShortTrees.{HaveNone}

record Refused : Type 0 where
  -- commands and their arguments
  no_commands : HaveNone (codes "W" ∷ codes "W 1," ∷ codes "W 1 2" ∷ codes "WRI 1" ∷ codes "W  1" ∷ codes "W \"a\"W 1" ∷ codes "W ,1" ∷ [])
  -- strings and names
  no_names : HaveNone (codes "W \"a" ∷ codes "W A234567890123456789012345678901X" ∷ [])
  -- numbers: `E` belongs to one only if a digit, or a sign and a digit, follows
  no_numbers : HaveNone (codes "W 1..5" ∷ codes "W 1." ∷ codes "W ." ∷ codes "W 1E" ∷ codes "W 1E+" ∷ codes "W 1E5E5" ∷ codes "W 1A" ∷ [])
  -- operators
  no_operators : HaveNone (codes "W 1+" ∷ codes "W 1*" ∷ codes "W **1" ∷ codes "W 1'2" ∷ codes "W 1'+2" ∷ codes "W 1]]]2" ∷ codes "W 1@2" ∷ [])
  -- patterns: a count has at most four digits, and something that it counts
  no_patterns : HaveNone (
      codes "W 1?00001N" ∷ codes "W 1?1.00001N" ∷ codes "W 1?N" ∷ codes "W 1?1" ∷ codes "W 1?" ∷ codes "W 1?1X" ∷ codes "W 1?\"a\"" ∷ codes "W 1'?" ∷
      codes "W 1?1N \"a\"" ∷ [])
  -- brackets
  no_brackets : HaveNone (codes "W ()" ∷ codes "W (1" ∷ codes "W 1)" ∷ codes "W (1,2)" ∷ [])
  -- functions: the number of arguments, and the form of $SELECT
  no_functions : HaveNone (
      codes "W $C()" ∷ codes "W $P(A)" ∷ codes "W $L(1,2,3)" ∷ codes "W $S(1)" ∷ codes "W $S(1:2,3)" ∷ codes "W $L(1:2)" ∷ codes "W $X(1)" ∷
      codes "W $L" ∷ codes "W $ST(1)" ∷ codes "W $L(1" ∷ [])
  -- left sides of a SET
  no_targets : HaveNone (
      codes "S A=" ∷ codes "S 1=2" ∷ codes "S ()=1" ∷ codes "S $L(A)=1" ∷ codes "S $P(A)=1" ∷ codes "S $P(1,2)=1" ∷ codes "S $P(A,1,2,3,4)=1" ∷
      codes "S (A=1" ∷ codes "S (A,1)=1" ∷ codes "S ((A))=1" ∷ codes "S (A)" ∷ [])
  -- subscripts, functions of a variable and special variables
  no_variables : HaveNone (
      codes "W L()" ∷ codes "W L(1" ∷ codes "W L(1)(2)" ∷ codes "W $D(1)" ∷ codes "W $D(L,1)" ∷ codes "W $G(L,1,2)" ∷ codes "W $O()" ∷ codes "W $T(1)" ∷
      codes "W $TE" ∷ codes "W $D" ∷ codes "W $QU" ∷ [])
  -- a `^` stands before a name, or before a bracket with some subscript; FOR, NEW and the brackets of KILL have plain names
  no_globals : HaveNone (
      codes "W ^" ∷ codes "W ^()" ∷ codes "W ^1" ∷ codes "W ^^X" ∷ codes "W ^ X" ∷ codes "W ^X()" ∷ codes "W ^(1" ∷ codes "W ^(1)(2)" ∷ codes "W 1^X" ∷
      codes "S ^=1" ∷ codes "K (^X)" ∷ codes "N ^X" ∷ codes "F ^X=1" ∷ codes "W $D(^)" ∷ [])
  -- one space after a command without arguments, and a postconditional where none may stand
  no_flow : HaveNone (
      codes "Q W 1" ∷ codes "E W 1" ∷ codes "K  A" ∷ codes "I:1 1" ∷ codes "E:1" ∷ codes "F:1 I=1" ∷ codes "S: A=1" ∷ codes "E 1" ∷ [])
  -- arguments of KILL, NEW, IF and FOR
  no_arguments : HaveNone (
      codes "K ()" ∷ codes "K (A(1))" ∷ codes "K 1" ∷ codes "N A(1)" ∷ codes "N (A,)" ∷ codes "I 1," ∷ codes "F I=" ∷ codes "F I" ∷ codes "F I(1)=1" ∷
      codes "F I=1:2:3:4" ∷ [])

refused : Refused
unfolding reads
refused = search rules
