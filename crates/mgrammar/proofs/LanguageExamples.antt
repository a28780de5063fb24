-- SPDX-License-Identifier: Apache-2.0
-- Languages on examples, as proved equations: which of them has a text, wherever in it the form stands that is not of all.
use Rattle.mgrammar.proofs.GrammarWords.{◌≡◌, ℕ, List, [], ◌∷◌, Some, None, Bool, true, false, map, rules, codes, text, call, expr, exprs, no_exprs, tail}
use Rattle.mgrammar.proofs.GrammarWords.{no_tails, reference, matches_indirect, matches_not_indirect, extrinsic, EntryTree, at_label_in, at_routine}
use Rattle.mgrammar.proofs.GrammarWords.{shared_routine, do_one, go_to, do_word, goto_word, actuals, name_actual, value_actual, no_actuals, number, coded}
use Rattle.mgrammar.proofs.GrammarWords.{formats, shown, set_argument, write_word}
use Rattle.std.specs.Prelude.{is_some}
use Rattle.mgrammar.specs.Languages.{line_in, routine_line_in, ref_in, args_in}
use Rattle.mgrammar.specs.IndirectTexts.{pattern_of}
use Rattle.mgrammar.proofs.Computing.{reads_in}
use Rattle.mgrammar.proofs.ShortTrees.{only, plain, the_one, own_label, named, of_one}

-- the tree of a text, by its first language and by later ones
record IsRead : Type 0 where
  never_earlier : line_in 0 (codes "W $RE(\"abc\")") ≡ None
  from_its_language : line_in 1 (codes "W $RE(\"abc\")") ≡ Some (of_one write_word (codes "W") (shown (only (call (codes "RE") (exprs (only (text (codes "abc"))) no_exprs))) ∷ []))
  formats_read : line_in 1 (codes "W #!,*1") ≡ Some (of_one write_word (codes "W") (formats (codes "#!") None ∷ coded (only (number (codes "1"))) ∷ []))
  and_later : line_in 2 (codes "w $reverse(\"abc\")") ≡ Some (of_one write_word (codes "w") (shown (only (call (codes "reverse") (exprs (only (text (codes "abc"))) no_exprs))) ∷ []))

is_read : IsRead
unfolding reads_in
is_read = search rules

-- texts that language 1 has, and the profile has not
abbrev AreOfOne : (ℕ → List ℕ → Bool) → List (List ℕ) → Type 0
AreOfOne has ts = (map (has 0) ts ≡ map (λ t. false) ts) × (map (has 1) ts ≡ map (λ t. true) ts)

-- those that both have
abbrev AreOfBoth : (ℕ → List ℕ → Bool) → List (List ℕ) → Type 0
AreOfBoth has ts = (map (has 0) ts ≡ map (λ t. true) ts) × (map (has 1) ts ≡ map (λ t. true) ts)

-- those that none has
abbrev AreOfNone : (ℕ → List ℕ → Bool) → List (List ℕ) → Type 0
AreOfNone has ts = (map (has 0) ts ≡ map (λ t. false) ts) × (map (has 2) ts ≡ map (λ t. false) ts)

abbrev has_line : ℕ → List ℕ → Bool
has_line n t = is_some (line_in n t)

abbrev has_routine_line : ℕ → List ℕ → Bool
has_routine_line n t = is_some (routine_line_in n t)

abbrev has_ref : ℕ → List ℕ → Bool
has_ref n t = is_some (ref_in n t)

abbrev has_args : ℕ → List ℕ → Bool
has_args n t = is_some (args_in set_argument n t)

-- the tree of a match with a pattern that a text is
record IsMatched : Type 0 where
  matched : line_in 1 (codes "W A?@B") ≡ Some (of_one write_word (codes "W") (shown (expr (plain (reference (named (codes "A")))) (tail (matches_indirect (reference (named (codes "B")))) no_tails)) ∷ []))
  not_matched : line_in 1 (codes "W A'?@B") ≡ Some (of_one write_word (codes "W") (shown (expr (plain (reference (named (codes "A")))) (tail (matches_not_indirect (reference (named (codes "B")))) no_tails)) ∷ []))

-- and of a call
record IsCalled : Type 0 where
  called : line_in 1 (codes "W $$F^R(.A,1)")
      ≡ Some (of_one write_word (codes "W") (
      shown (only (extrinsic (own_label (codes "F") (codes "R")) (actuals (name_actual (codes "A")) (actuals (value_actual the_one) no_actuals)))) ∷ []))

is_called : IsCalled
unfolding reads_in
is_called = search rules

-- of routines of another account, of which a quote is doubled within the account's text
abbrev shared_label : EntryTree
shared_label = at_label_in (codes "L") (shared_routine (codes "LIB") (codes "R"))

record AreShared : Type 0 where
  done : line_in 1 (codes "D L^|\"LIB\"|R(1)") ≡ Some (of_one do_word (codes "D") (do_one shared_label (actuals (value_actual the_one) no_actuals) None ∷ []))
  never_earlier : line_in 0 (codes "D L^|\"LIB\"|R") ≡ None
  first_line : line_in 1 (codes "D ^|\"LIB\"|R")
      ≡ Some (of_one do_word (codes "D") (do_one (at_routine (shared_routine (codes "LIB") (codes "R"))) no_actuals None ∷ []))
  left_for : line_in 1 (codes "G L^|\"LIB\"|R:1") ≡ Some (of_one goto_word (codes "G") (go_to shared_label (Some the_one) ∷ []))
  quotes : line_in 1 (codes "G ^|\"A\"\"B\"|R")
      ≡ Some (of_one goto_word (codes "G") (go_to (at_routine (shared_routine (codes "A\"B") (codes "R"))) None ∷ []))
  called : line_in 1 (codes "W $$L^|\"LIB\"|R(.A)")
      ≡ Some (of_one write_word (codes "W") (shown (only (extrinsic shared_label (actuals (name_actual (codes "A")) no_actuals))) ∷ []))

are_shared : AreShared
unfolding reads_in
are_shared = search rules

is_matched : IsMatched
unfolding reads_in
is_matched = search rules

-- texts of patterns, read whole, and texts that are none
record AreTexts : Type 0 where
  patterns : map (λ t. is_some (pattern_of t)) (codes "1N" ∷ codes ".A1\"x\"" ∷ codes "3.1N" ∷ codes "1.NAP.e" ∷ []) ≡ true ∷ true ∷ true ∷ true ∷ []
  none : map (λ t. is_some (pattern_of t)) ([] ∷ codes "N" ∷ codes "1" ∷ codes "1N " ∷ codes "1N=1" ∷ codes "?1N" ∷ codes "@B" ∷ codes "00001N" ∷ []) ≡ false ∷ false ∷ false ∷ false ∷ false ∷ false ∷ false ∷ false ∷ []

are_texts : AreTexts
unfolding reads_in
are_texts = search rules

record Languages : Type 0 where
  -- in an operand, in brackets, in subscripts, in calls, in choices and in an environment
  expressions : AreOfOne has_line (
      codes "W 1+$RE(A)" ∷ codes "W (1_$RE(A))" ∷ codes "W A(1,$RE(A))" ∷ codes "W ^A($RE(A))" ∷ codes "W ^($RE(A))" ∷ codes "W $L($RE(A))" ∷
      codes "W $RE($L(A))" ∷ codes "W $S(1:$RE(A))" ∷ codes "W $S($RE(A):1)" ∷ codes "W $G(A($RE(A)))" ∷ codes "W $G(A,$RE(A))" ∷ codes "W ^|$RE(A)|X" ∷
      codes "W ^|A|X($RE(A))" ∷ codes "W @$RE(A)" ∷ codes "W @A@($RE(A))" ∷ [])
  -- special variables, by each of their words
  specials : AreOfOne has_line (
      codes "W $I" ∷ codes "W $io" ∷ codes "W $J" ∷ codes "W $JOB" ∷ codes "W $p" ∷ codes "W $PRINCIPAL" ∷ codes "W $S" ∷ codes "W $STORAGE" ∷
      codes "S ^A($J,$T)=1" ∷ codes "W $S($S:1)" ∷ codes "W $P($P,1)" ∷ [])
  -- the seconds of HANG, by each of its words
  seconds : AreOfOne has_line (
      codes "H 5" ∷ codes "h A,.5" ∷ codes "HANG 5" ∷ codes "hang:A 1" ∷ codes "H:A 1 W 2" ∷ codes "H @A" ∷ codes "HANG @A,1" ∷ [])
  -- MERGE, by each of its words, of variables of all kinds, and by a text
  merges : AreOfOne has_line (
      codes "M A=B" ∷ codes "m A(1)=^B" ∷ codes "MERGE ^A=^(1),B=@C" ∷ codes "merge:A @B@(1)=^|\"X\"|C(2) W 1" ∷ codes "M @A" ∷ codes "M @A,B=C" ∷ [])
  no_merges : AreOfNone has_line (
      codes "M" ∷ codes "M A" ∷ codes "M A=1" ∷ codes "M (A,B)=C" ∷ codes "M A=B:1" ∷ codes "M A=(B)" ∷ codes "M @A@(1)" ∷ codes "M A=B_C" ∷
      codes "M $P(A,1)=B" ∷ codes "ME A=B" ∷ [])
  -- $INCREMENT, by each of its words, of a variable and with a number; alone the word is that of a special variable
  increments : AreOfOne has_line (
      codes "W $I(A)" ∷ codes "S ^A($i(^B(1),-2))=1" ∷ codes "W $INCREMENT(@A)" ∷ codes "W $increment(^(1),$I)" ∷ [])
  no_increments : AreOfNone has_line (
      codes "W $I()" ∷ codes "W $I(1)" ∷ codes "W $I(A,1,2)" ∷ codes "W $INC(A)" ∷ codes "S $I(A)=1" ∷ codes "W $I(A_1)" ∷ [])
  -- the value of QUIT, one alone, which no text gives
  values_of_quit : AreOfOne has_line (
      codes "Q 1" ∷ codes "quit A_B W 1" ∷ codes "Q:A -1" ∷ codes "Q @A" ∷ codes "Q ^A(1)" ∷ codes "W $Q" ∷ codes "Q $quit" ∷ codes "Q (1)" ∷ [])
  no_values_of_quit : AreOfNone has_line (codes "Q 1,2" ∷ codes "Q 1:A" ∷ codes "Q W 1" ∷ codes "Q ." ∷ codes "S $Q=1" ∷ codes "W $Q(1)" ∷ [])
  -- actuals of DO, with a form in them or none
  actuals_of_do : AreOfOne has_line (
      codes "D A(1)" ∷ codes "D A()" ∷ codes "D A^R(.B,,C)" ∷ codes "D ^R(.@B):C" ∷ codes "D A($RE(1))" ∷ codes "D A,B(1)" ∷ codes "d A(1) W 1" ∷ [])
  -- calls of functions, with actuals or without a list, where they can be carried out a step at a time
  calls : AreOfOne has_line (
      codes "W $$A" ∷ codes "W $$A()" ∷ codes "W $$A^R(1)" ∷ codes "W $$^R(.B,,C)" ∷ codes "S A=-$$A(1)+$$B" ∷ codes "S A(1)=$$A,(B,C)=$$A" ∷ codes "W ($$A_1)**$$B" ∷
      codes "W $L($$A),!,*$$A,?$$A" ∷ codes "D A($$B,.C)" ∷ codes "D A(.@$$B)" ∷ codes "D A:$$B(1)" ∷ codes "G A:$$B" ∷ codes "X $$A:$$B" ∷ codes "I $$A,'$$A" ∷
      codes "H $$A" ∷ codes "Q $$A($$A(1))" ∷ codes "Q:$$A  W 1" ∷ codes "F A=1:1 Q:$$B" ∷ [])
  -- in subscripts, in the account of a variable, in functions of a variable, in $SELECT, and as the operand of an indirection
  calls_in_operands : AreOfOne has_line (
      codes "W A($$B(1))" ∷ codes "W ^A($$B)" ∷ codes "W ^($$B)" ∷ codes "W ^|$$A|B" ∷ codes "W $G(A($$B))" ∷ codes "W $G(A,$$B)" ∷ codes "W $S($$A:$$B)" ∷
      codes "W $S(A:$$B)" ∷ codes "W 1_@$$A@(1)" ∷ codes "W 1?@$$A" ∷ codes "W $$A(B($$C))" ∷ codes "Q:A($$B)  W 1" ∷ codes "Q:'$S($$B:1)" ∷
      codes "S A=^B($$C($$D),1)" ∷ codes "W $D(@$$A)_$O(^A($$B),$$C)" ∷ codes "W A(B(C($$D)))" ∷ [])
  -- in a target of SET, in what KILL and LOCK name, in a timeout, in the parameters of FOR, and as the operand of an indirection of arguments
  calls_in_arguments : AreOfOne has_line (
      codes "W @$$A" ∷ codes "S A($$B)=1" ∷ codes "S (A,B($$C))=$$C" ∷ codes "S $P(A,$$B)=1" ∷ codes "S @$$A" ∷ codes "K A($$B)" ∷ codes "L A($$B)" ∷
      codes "L (A,B($$C))" ∷ codes "L A:$$B" ∷ codes "D @$$A" ∷ codes "F A=$$B" ∷ codes "F A=1:$$B" ∷ codes "F A=$$B:1:2" ∷ codes "F A=1:1:$$B" ∷
      codes "M A($$B)=C" ∷ codes "M A=B($$C)" ∷ codes "M @$$A" ∷ codes "W 1,A($$B),2 Q" ∷ [])
  -- in the subscripts after an indirection
  calls_after_texts : AreOfOne has_line (
      codes "W @A@($$B)" ∷ codes "S X=@A@($$B)" ∷ codes "S @A@($$B)=1" ∷ codes "K @A@($$B)" ∷
      codes "M A=@A@($$B)" ∷ codes "F A=1:1:@A@($$B)" ∷ codes "W 1,@A@($$B),2 Q" ∷ [])
  -- routines of another account, whose environment is a string
  shared : AreOfOne has_line (
      codes "D L^|\"LIB\"|R(X)" ∷ codes "D ^|\"LIB\"|R" ∷ codes "G L^|\"LIB\"|R" ∷ codes "G ^|\"LIB\"|R:A" ∷
      codes "D A,^|\"\"|R:A,B" ∷ codes "D ^|\"A\"\"B\"|R" ∷ codes "G:A ^|\"1 2\"|%R" ∷ [])
  shared_calls : AreOfOne has_line (codes "W $$L^|\"LIB\"|R(X)" ∷ codes "W $$^|\"LIB\"|R" ∷ codes "D L^|\"LIB\"|R($$^|\"LIB\"|R)" ∷ [])
  no_shared : AreOfNone has_line (
      codes "D ^|LIB|R" ∷ codes "G L^|A|R" ∷ codes "D ^||R" ∷ codes "D ^|\"LIB\"R" ∷ codes "D ^|\"LIB|R" ∷ codes "D ^|\"LIB\"|" ∷
      codes "G ^|\"A\"_\"B\"|R" ∷ codes "D |\"LIB\"|R" ∷
      codes "D L|\"LIB\"|^R" ∷ codes "D ^|\"LIB\"|1" ∷ codes "D ^|\"LIB\"|R|" ∷ codes "D ^|(\"LIB\")|R" ∷ codes "D ^| \"LIB\"|R" ∷ codes "W $$^|LIB|R" ∷ [])
  no_calls : AreOfNone has_line (
      codes "W $$" ∷ codes "W $$1" ∷ codes "W $$$A" ∷ codes "W $$A^" ∷ codes "W $$A^R^S" ∷ codes "S $$A=1" ∷ codes "W $$A(1" ∷ codes "W $$A(1)(2)" ∷ codes "W $$A(.B(1))" ∷ codes "W $ $A" ∷
      codes "W $$@A" ∷ codes "K $$A" ∷ codes "D $$A" ∷ [])
  -- a third value of $JUSTIFY
  values : AreOfOne has_line (codes "W $J(A,1,2)" ∷ codes "W $justify(A,1,2)" ∷ codes "W 1,$J(A,1,$J(B,1))" ∷ codes "I $L($J(A,1,2))" ∷ [])
  -- `**`
  powers : AreOfOne has_line (codes "W 2**3" ∷ codes "W A*B**-C" ∷ codes "W (1**A)_2" ∷ codes "W $L(A**'B)" ∷ codes "S A(2**A)=1" ∷ codes "Q:A**2" ∷ [])
  -- a number in a format
  formats : AreOfOne has_line (codes "W $FN(A,B)" ∷ codes "W $fnumber(A,\",\",2)" ∷ codes "S A=$FN($FN(A,B),C,2)" ∷ [])
  -- of SET, characters of a variable, and pieces of several places
  targets : AreOfOne has_line (
      codes "S $E(A)=1" ∷ codes "S $extract(A,1)=1" ∷ codes "S $E(^A(1),1,2)=1" ∷ codes "S (A,$E(^(1),1,2))=1" ∷ codes "S $P(A,1,2,3)=1" ∷ codes "S (A,$piece(@A,1,2,3))=1" ∷
      codes "S $P(A($RE(A)),1)=1" ∷ [])
  no_targets : AreOfNone has_line (
      codes "S $E()=1" ∷ codes "S $E(A,1,2,3)=1" ∷ codes "S $P(A)=1" ∷ codes "S $P(A,1,2,3,4)=1" ∷ codes "S $E(\"A\",1)=1" ∷ codes "S $E(A" ∷ codes "S $L(A)=1" ∷ codes "S $E=1" ∷ [])
  -- formats of WRITE, and characters by their codes
  outputs : AreOfOne has_line (codes "W #" ∷ codes "W !#!,1" ∷ codes "W ?5" ∷ codes "W !#?A+1,1" ∷ codes "W $X,$y" ∷ codes "W *65" ∷ codes "W 1,*A+1,!" ∷ codes "W:A #" ∷ [])
  -- a pattern that a text is; and a form within its operand
  patterns : AreOfOne has_line (
      codes "W A?@B" ∷ codes "W A'?@B" ∷ codes "W A?@\"1N\"=1" ∷ codes "W A?@@B@(1)" ∷ codes "W A?@(B_1)?@B" ∷ codes "W A?@$RE(B)" ∷ codes "W A(B?@C)" ∷ [])
  -- groups in a pattern
  groups : AreOfOne has_line (
      codes "W A?1(1N)" ∷ codes "W A'?.(1\"A\",2N)" ∷ codes "W A?1N2.4(1N1A,1(1A))1A=1" ∷ codes "S A(B?1(1N,1A))=1" ∷ codes "I 1_(A?1(1N))" ∷ [])
  no_groups : AreOfNone has_line (codes "W A?1()" ∷ codes "W A?1(1N" ∷ codes "W A?1(1N,)" ∷ codes "W A?(1N)" ∷ codes "W A?1(@B)" ∷ codes "W A?1N(1N)" ∷ [])
  -- in each kind of argument, in a condition, and in whichever command of a line
  arguments : AreOfOne has_line (
      codes "W $QL(A)" ∷ codes "W $qlength(A)" ∷ codes "W $QS(A,1)" ∷ codes "W $QSUBSCRIPT(A,-1)" ∷
      codes "W $NA(A)" ∷ codes "W $name(^A(1),2)" ∷ codes "W $NA(^(1),A)" ∷
      codes "W $Q(A)" ∷ codes "W $query(^A(1),-1)" ∷ codes "W $Q(^(\"\"),A)" ∷
      codes "S A=$RE(A)" ∷ codes "S A($RE(A))=1" ∷ codes "S $P(A,$RE(A))=1" ∷ codes "S $P(A,1,$RE(A))=1" ∷ codes "S (A,B($RE(A)))=1" ∷ codes "K A($RE(A))" ∷
      codes "I $RE(A)" ∷ codes "F I=$RE(A)" ∷ codes "F I=1:$RE(A)" ∷ codes "F I=1:1:$RE(A)" ∷ codes "D A:$RE(A)" ∷ codes "G A:$RE(A)" ∷ codes "X $RE(A)" ∷
      codes "X A:$RE(A)" ∷ codes "L A($RE(A))" ∷ codes "L (A,B($RE(A)))" ∷ codes "L A:$RE(A)" ∷ codes "Q:$RE(A)" ∷ codes "S @$RE(A)" ∷
      codes "W 1 W 2,$RE(A) Q" ∷ [])
  routine_lines : AreOfOne has_routine_line (
      codes "T W $RE(A)" ∷ codes " . . W $RE(A)" ∷ codes "L(A) W 1" ∷ codes "L()" ∷ codes "L Q $$A" ∷ codes "L Q A($$B)" ∷ codes "L Q @A@($$B)" ∷
      codes " . K @A@($$B)" ∷ [])
  -- the text of a name has a tree with calls too, which fail once they are reached
  references : AreOfOne has_ref (codes "A($RE(A))" ∷ codes "@$RE(A)" ∷ codes "A($$B)" ∷ codes "@$$A" ∷ [])
  argument_texts : AreOfOne has_args (
      codes "A=$RE(A)" ∷ codes "A=1,B=$RE(A)" ∷ codes "A=$$B" ∷ codes "A=1,B=$S($$A:1)" ∷ codes "A($$B)=1" ∷ codes "@$$A" ∷ codes "A=1,B=@C@($$A)" ∷
      codes "@A@($$B)=1" ∷ [])
  -- in a string and in a comment it is no form
  all_the_same : AreOfBoth has_line (
      codes "W \"$RE(A)\"" ∷ codes "W 1 ;$RE(A)" ∷ codes "S RE=1,REVERSE=2" ∷ codes "W $J(A,1),$J($P(A,B,1,2),3)" ∷ codes "W !!,1#2,1*2,!" ∷
      codes "S $P(A,1)=1,$P(A,1,2)=$E(A,1,2)" ∷ codes "W $T,$TEST" ∷ codes "Q  W 1" ∷ codes "Q:A  W 1" ∷ codes "Q ;1" ∷ codes "H" ∷ codes "h:A  W 1" ∷ codes "HALT" ∷ codes "HALT:A" ∷ [])
  -- an operand is a primary, and one alone
  no_patterns : AreOfNone has_line (codes "W A?@" ∷ codes "W A?@+B" ∷ codes "W A?@B@(1)" ∷ codes "W A?@@B@" ∷ codes "W A?1N@B" ∷ codes "W A?@1N" ∷ [])
  -- of one value, by either of its words; a word before a bracket is a function's
  no_forms : AreOfNone has_line (
      codes "W $I(1)" ∷ codes "W $JO" ∷ codes "W $IOS" ∷ codes "S $I=1" ∷ codes "S $J=1" ∷ codes "HANG" ∷ codes "HANG:A" ∷ codes "HALT 1" ∷ codes "H 1," ∷ codes "H 1:A" ∷
      codes "W $QL(1,2)" ∷ codes "W $QS(1)" ∷ codes "W $QS(1,2,3)" ∷ codes "S $QS(A,1)=1" ∷
      codes "W $NA()" ∷ codes "W $NA(1)" ∷ codes "W $NA(A,1,2)" ∷ codes "S $NA(A)=1" ∷
      codes "W $J(A)" ∷ codes "W $J(A,1,2,3)" ∷ codes "W $FN(A)" ∷ codes "W $FN(A,B,1,2)" ∷ codes "W $RE()" ∷ codes "W $RE(1,2)" ∷ codes "W $RE" ∷ codes "W $REV(1)" ∷ codes "S $RE(A)=1" ∷
      codes "W 2**" ∷ codes "W **2" ∷ codes "W 2***3" ∷ codes "W 2** 3" ∷ codes "W 2* *3" ∷ codes "W 2'**3" ∷
      codes "W ?5!" ∷ codes "W ?" ∷ codes "W !?" ∷ codes "W !*1" ∷ codes "W *" ∷ codes "W *1!" ∷ codes "W #A" ∷ codes "W !A" ∷ codes "W *1#" ∷ codes "W #@A" ∷ [])

languages : Languages
unfolding reads_in
languages = search rules
