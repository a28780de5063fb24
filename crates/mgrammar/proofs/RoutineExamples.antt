-- SPDX-License-Identifier: Apache-2.0
-- DO, GOTO, XECUTE and the lines of routines on examples, as proved equations: texts with their trees, and texts that have none.
use Rattle.mgrammar.proofs.GrammarWords.{◌≡◌, ℕ, List, [], ◌∷◌, Some, None, replicate, rules, codes, ExprTree, number, text, reference, actuals, missing_actual}
use Rattle.mgrammar.proofs.GrammarWords.{value_actual, name_actual, indirect_actual, at_label, ArgTree, shown, do_one, no_actuals, go_to, executed, KeywordTree}
use Rattle.mgrammar.proofs.GrammarWords.{do_word, goto_word, execute_word, write_word, SpacedTree, LineTree, name_at, RoutineLineTree, short, spaced_out}
use Rattle.mgrammar.proofs.GrammarWords.{spell_routine_line, formals_at, formals_of, label_at, label_of, dots_of, names_at, list_at, many, routine_line_at}
use Rattle.mgrammar.proofs.Computing.{reads}
use Rattle.mgrammar.proofs.ShortTrees.{IsRead, HaveNone, only, the_one, own_label, own, named, command, conditional, of_commands, of_one}

-- ---- short forms

abbrev variable : List ℕ → ExprTree
variable name = only (reference (named name))

-- a command, with the spaces after it
abbrev spaced : KeywordTree → List ℕ → List ArgTree → ℕ → SpacedTree
spaced k word args n = (command k word args, n)

-- W 1
abbrev write_one : LineTree
write_one = of_one write_word (codes "W") (shown the_one ∷ [])

-- ---- lines of routines

abbrev IsRoutineLine : List ℕ → RoutineLineTree → Type 0
IsRoutineLine t l = (spell_routine_line l ≡ t) × (routine_line_at t ≡ Some l)

abbrev HasNoLine : List ℕ → Type 0
HasNoLine t = routine_line_at t ≡ None

record Read : Type 0 where
  -- commands
  -- each form of an entry, with a postconditional of its own or none
  entries : IsRead (codes "D A,%1^R:1,^R") (
      of_commands (spaced do_word (codes "D") (
      do_one (at_label (codes "A")) no_actuals None ∷ do_one (own_label (codes "%1") (codes "R")) no_actuals (Some the_one) ∷
      do_one (own (codes "R")) no_actuals None ∷ []) 0 ∷ []))
  -- with actuals: a value, a name, what an operand gives, nothing
  with_actuals : IsRead (codes "D A(1,.%B,.@C,),^R():1,A(.5)") (
      of_one do_word (codes "D") (
      do_one (at_label (codes "A")) (actuals (value_actual the_one) (actuals (name_actual (codes "%B")) (actuals (indirect_actual (reference (named (codes "C")))) (actuals missing_actual no_actuals)))) None ∷
      do_one (own (codes "R")) (actuals missing_actual no_actuals) (Some the_one) ∷
      do_one (at_label (codes "A")) (actuals (value_actual (only (number (codes ".5")))) no_actuals) None ∷ []))
  -- by reference a name alone is handed over
  none_of_actuals : HaveNone (
      codes "D A(.B(1))" ∷ codes "D A(.^B)" ∷ codes "D A(.)" ∷ codes "D A(.1.)" ∷ codes "D A(. B)" ∷ codes "D A(1)(2)" ∷ codes "D A(1 )" ∷ codes "D A (1)" ∷ codes "D A(.@)" ∷
      codes "G A(1)" ∷ codes "D A(@.B)" ∷ codes "D A(.@B@(1))" ∷ [])
  -- beside one of the command
  conditions : IsRead (codes "goto:1 A:A,B") (of_commands ((conditional goto_word (codes "goto") the_one (go_to (at_label (codes "A")) (Some (variable (codes "A"))) ∷ go_to (at_label (codes "B")) None ∷ []), 0) ∷ []))
  -- texts, and an argumentless DO, which two spaces follow
  texts : IsRead (codes "X \"W 1\":A,A D  W 1") (of_commands (spaced execute_word (codes "X") (executed (only (text (codes "W 1"))) (Some (variable (codes "A"))) ∷ executed (variable (codes "A")) None ∷ []) 1 ∷ spaced do_word (codes "D") [] 2 ∷ spaced write_word (codes "W") (shown the_one ∷ []) 0 ∷ []))
  -- an entry is names alone; GOTO and XECUTE have some argument
  none_of_commands : HaveNone (
      codes "G" ∷ codes "X" ∷ codes "G:1" ∷ codes "D  A" ∷ codes "D A B" ∷ codes "D A^" ∷ codes "D ^" ∷ codes "D ^1" ∷ codes "D 1" ∷
      codes "D A(1,2" ∷ codes "D A^B^C" ∷ codes "D \"A\"" ∷ codes "D A:" ∷ codes "D A," ∷ codes "G A+1" ∷ codes "X 1:2:3" ∷ codes "XE 1" ∷
      codes "D W 1" ∷ codes ". W 1" ∷ [])
  -- with a label and without, and with nothing or a comment after it
  short_lines :
      IsRoutineLine [] (record { label = None; formals = None; body = short None })
      × IsRoutineLine (codes ";c") (record { label = None; formals = None; body = short (Some (codes "c")) })
      × IsRoutineLine (codes "L") (record { label = Some (codes "L"); formals = None; body = short None })
      × IsRoutineLine (codes "L;c") (record { label = Some (codes "L"); formals = None; body = short (Some (codes "c")) })
      × IsRoutineLine (codes " ") (record { label = None; formals = None; body = spaced_out [] (of_commands []) })
  -- with commands, after dots or none: each dot with the spaces in front of it, the first space of all apart
  dotted_lines :
      IsRoutineLine (codes "L W 1") (record { label = Some (codes "L"); formals = None; body = spaced_out [] write_one })
      × IsRoutineLine (codes "  W 1") (record { label = None; formals = None; body = spaced_out [] (record write_one { lead = 1 }) })
      × IsRoutineLine (codes " .W 1") (record { label = None; formals = None; body = spaced_out (0 ∷ []) write_one })
      × IsRoutineLine (codes "L  . . W 1") (record { label = Some (codes "L"); formals = None; body = spaced_out (1 ∷ 1 ∷ []) (record write_one { lead = 1 }) })
      × IsRoutineLine (codes " ..;c") (record { label = None; formals = None; body = spaced_out (0 ∷ 0 ∷ []) (record { lead = 0; commands = []; comment = Some (codes "c") }) })
  -- after a label comes the end, a space or a comment, and a command comes after a space
  none_of_lines :
      HasNoLine (codes "L. W 1")
      × HasNoLine (codes "W 1")
      × HasNoLine (codes "1 W 1")
      × HasNoLine (codes ". W 1")
      × HasNoLine (codes " .5")
      × HasNoLine (codes " W 1 . W 1")
      × HasNoLine (codes "L )")
  -- a formal list stands right after the label, and has each name once
  formal_lines :
      IsRoutineLine (codes "L(A,%B) W 1") (record { label = Some (codes "L"); formals = Some (codes "A" ∷ codes "%B" ∷ []); body = spaced_out [] write_one })
      × IsRoutineLine (codes "L()") (record { label = Some (codes "L"); formals = Some []; body = short None })
      × IsRoutineLine (codes "L(A);c") (record { label = Some (codes "L"); formals = Some (codes "A" ∷ []); body = short (Some (codes "c")) })
      × IsRoutineLine (codes "L(A) .W 1") (record { label = Some (codes "L"); formals = Some (codes "A" ∷ []); body = spaced_out (0 ∷ []) write_one })
  none_of_formal_lines :
      HasNoLine (codes "L(A,A) W 1")
      × HasNoLine (codes "L(A,) W 1")
      × HasNoLine (codes "L(1) W 1")
      × HasNoLine (codes "L(A(1)) W 1")
      × HasNoLine (codes "L (A) W 1")
      × HasNoLine (codes "L(A W 1")
      × HasNoLine (codes "L(A)W 1")
      × HasNoLine (codes "L(A). W 1")
      × HasNoLine (codes "(A) W 1")
  -- labels and dots of texts that have a tree or none
  labels :
      (label_of 0 (codes "L )") ≡ Some (codes "L"))
      × (label_of 0 (codes "%A1;") ≡ Some (codes "%A1"))
      × (label_of 0 (codes "L") ≡ Some (codes "L"))
      × (label_of 0 (codes "L. W 1") ≡ None)
      × (label_of 0 (codes "V(") ≡ None)
      × (label_of 0 (codes " L") ≡ None)
      × (label_of 0 (codes "1") ≡ None)
      × (label_of 0 [] ≡ None)
      × (label_of 0 (replicate 31 65) ≡ Some (replicate 31 65))
      × (label_of 0 (replicate 32 65) ≡ None)
  -- before there are formal lists, a bracket ends no label; afterwards it does even if no list begins
  labels_of_lists :
      (label_of 0 (codes "L(A) W 1") ≡ None)
      × (label_of 1 (codes "L(A) W 1") ≡ Some (codes "L"))
      × (label_of 1 (codes "L(A,A) W 1") ≡ Some (codes "L"))
      × (label_of 1 (codes "L( )") ≡ Some (codes "L"))
      × (formals_of 0 (codes "L(A)") ≡ None)
      × (formals_of 1 (codes "L(A)") ≡ Some (codes "A" ∷ []))
      × (formals_of 1 (codes "L(A) )") ≡ Some (codes "A" ∷ []))
      × (formals_of 1 (codes "L(A,A)") ≡ None)
      × (formals_of 1 (codes "L( )") ≡ None)
      × (formals_of 1 (codes "L") ≡ None)
      × (dots_of 0 (codes "L(A) . W 1") ≡ 0)
      × (dots_of 1 (codes "L(A) . W 1") ≡ 1)
      × (dots_of 1 (codes "L(A,A) . W 1") ≡ 0)
  dots :
      (dots_of 0 (codes " .5") ≡ 1)
      × (dots_of 0 (codes "L. W 1") ≡ 0)
      × (dots_of 0 (codes "M ..;x") ≡ 2)
      × (dots_of 0 (codes "L . .  . )") ≡ 3)
      × (dots_of 0 (codes ". W 1") ≡ 0)
      × (dots_of 0 (codes " W . .") ≡ 0)
      × (dots_of 0 (codes "L") ≡ 0)

all_read : Read
unfolding reads name_at label_at formals_at names_at list_at many
all_read = search rules
