-- SPDX-License-Identifier: Apache-2.0
-- The grammar on examples, as proved equations: texts with their trees, and how deep brackets may lie.
use Rattle.mgrammar.proofs.GrammarWords.{ℕ, zero, suc, List, [], ◌∷◌, ◌++◌, Option, Some, None, rules, codes, plus, minus, negate, equals, less, greater}
use Rattle.mgrammar.proofs.GrammarWords.{contains, follows, sorts_after, both, either, add, subtract, multiply, divide, divide_whole, remainder, join, is}
use Rattle.mgrammar.proofs.GrammarWords.{is_not, CountTree, RepeatedTree, classes, copies, AtomTree, OperandTree, ExprTree, expr, TailTree, tails_of, apply}
use Rattle.mgrammar.proofs.GrammarWords.{matches, matches_not, raise, operand, number, text, special, reference, bracket, call, select, refer, ReferenceTree}
use Rattle.mgrammar.proofs.GrammarWords.{local, global, naked, no_exprs, exprs_of, choices_of, variable, part, DestinationTree, one, several, once, onward}
use Rattle.mgrammar.proofs.GrammarWords.{until, assign, formats, shown, kill_one, kill_others, new_one, new_others, tested, loop, set_word, kill_word, new_word}
use Rattle.mgrammar.proofs.GrammarWords.{if_word, else_word, for_word, quit_word, write_word, LineTree, line_at, replicate}
use Rattle.mgrammar.proofs.Computing.{reads}
use Rattle.mgrammar.proofs.ShortTrees.{IsRead, HaveNone, plain, named, command, conditional, of_commands}

-- ---- short forms

abbrev digits : List ℕ → OperandTree
digits t = plain (number t)

abbrev name : List ℕ → OperandTree
name t = plain (reference (named t))

abbrev taken : OperandTree → List TailTree → ExprTree
taken o tails = expr o (tails_of tails)

abbrev alone : OperandTree → ExprTree
alone o = taken o []

-- a line of one WRITE, by the letter W
abbrev written : ExprTree → LineTree
written e = of_commands ((command write_word (codes "W") (shown e ∷ []), 0) ∷ [])

-- a line of one SET, by the letter S
abbrev assigned : DestinationTree → ExprTree → LineTree
assigned t e = of_commands ((command set_word (codes "S") (assign t e ∷ []), 0) ∷ [])

abbrev count : List ℕ → Option (List ℕ) → CountTree
count front behind = record { front = front; behind = behind }

abbrev atom : CountTree → RepeatedTree → AtomTree
atom n p = record { count = n; repeated = p }

abbrev one_digit : List ℕ → ExprTree
one_digit t = alone (digits t)

-- with one subscript, after the `^` of a naked reference
abbrev naked_digit : List ℕ → ReferenceTree
naked_digit t = naked (exprs_of (one_digit t ∷ []))

abbrev one_global : List ℕ → ReferenceTree
one_global t = global (codes "X") (exprs_of (one_digit t ∷ []))

-- ---- how deep brackets may lie

-- a number in this many brackets
abbrev in_brackets : ℕ → List ℕ
in_brackets n = replicate n 40 ++ (49 ∷ replicate n 41)

abbrev IsSome : {A : Type 0} → Option A → Type 0
IsSome None = ⊥
IsSome (Some a) = Unit {0}

-- a number in the subscripts of this many variables, one within another
abbrev subscripts_opened : ℕ → List ℕ
subscripts_opened zero = []
subscripts_opened (suc n) = 65 ∷ 40 ∷ subscripts_opened n

abbrev in_subscripts : ℕ → List ℕ
in_subscripts n = subscripts_opened n ++ (49 ∷ replicate n 41)

record Read : Type 0 where
  -- texts with their trees
  -- `W 1+2*3`: operators have no ranks, so it is a run of steps
  sum_and_product : IsRead (codes "W 1+2*3") (written (taken (digits (codes "1")) (apply add (digits (codes "2")) ∷ apply multiply (digits (codes "3")) ∷ [])))
  -- a quote within a string, two spaces between commands, and a comment
  two_commands : IsRead (codes " s A=\"x\"\"y\"  w A,!!;c") (record {
    lead = 1;
    commands = (command set_word (codes "s") (assign (one (variable (named (codes "A")))) (alone (plain (text (codes "x\"y")))) ∷ []), 2)
        ∷ (command write_word (codes "w") (shown (alone (name (codes "A"))) ∷ formats (codes "!!") None ∷ []), 0) ∷ [];
    comment = Some (codes "c");
  })
  -- signs, a name with `%`, and a word in full
  signs_in_front : IsRead (codes "WrItE -'+%a1_-\"\" ") (record {
    lead = 0;
    commands = (
      command write_word (codes "WrItE") (shown (taken (operand (minus ∷ negate ∷ plus ∷ []) (reference (named (codes "%a1"))))
          (apply join (operand (minus ∷ []) (text [])) ∷ [])) ∷ []),
      1,
    ) ∷ [];
    comment = None;
  })
  nothing : IsRead (codes "") (record { lead = 0; commands = []; comment = None })
  comment_alone : IsRead (codes "  ;W 1") (record { lead = 2; commands = []; comment = Some (codes "W 1") })
  -- a fraction, a fraction alone, and exponents
  numbers : IsRead (codes "W 1.50_.5_2E3_2E-03_.2E+1") (
      written (taken (digits (codes "1.50")) (apply join (digits (codes ".5")) ∷ apply join (digits (codes "2E3"))
      ∷ apply join (digits (codes "2E-03")) ∷ apply join (digits (codes ".2E+1")) ∷ [])))
  arithmetic_operators : IsRead (codes "W 1-2/3\\4#5") (
      written (taken (digits (codes "1")) (apply subtract (digits (codes "2")) ∷ apply divide (digits (codes "3"))
      ∷ apply divide_whole (digits (codes "4")) ∷ apply remainder (digits (codes "5")) ∷ [])))
  -- `**` is one operator: the longest
  powers : IsRead (codes "W 2*3**-4*5") (
      written (taken (digits (codes "2")) (apply multiply (digits (codes "3"))
      ∷ raise (operand (minus ∷ []) (number (codes "4"))) ∷ apply multiply (digits (codes "5")) ∷ [])))
  -- `]]` is one operator: the longest
  truth_operators : IsRead (codes "W 1=2<3>4[5]6]]7&8!9") (
      written (taken (digits (codes "1")) (apply (is equals) (digits (codes "2")) ∷ apply (is less) (digits (codes "3"))
      ∷ apply (is greater) (digits (codes "4")) ∷ apply (is contains) (digits (codes "5"))
      ∷ apply (is follows) (digits (codes "6")) ∷ apply (is sorts_after) (digits (codes "7"))
      ∷ apply (is both) (digits (codes "8")) ∷ apply (is either) (digits (codes "9")) ∷ [])))
  -- a `'` before an operator belongs to it, and one after it is a sign
  negated_operators : IsRead (codes "W 1'=2']3']]4'!5='6") (
      written (taken (digits (codes "1")) (apply (is_not equals) (digits (codes "2"))
      ∷ apply (is_not follows) (digits (codes "3")) ∷ apply (is_not sorts_after) (digits (codes "4"))
      ∷ apply (is_not either) (digits (codes "5")) ∷ apply (is equals) (operand (negate ∷ []) (number (codes "6"))) ∷ [])))
  -- each form of a count; `E` is a class here; a string, and letters in either case
  patterns : IsRead (codes "W A?1N.E2.aUn.3\"x\"1.2P") (
      written (taken (name (codes "A")) (matches (atom (count (codes "1") None) (classes (codes "N"))
      ∷ atom (count [] (Some [])) (classes (codes "E")) ∷ atom (count (codes "2") (Some [])) (classes (codes "aUn"))
      ∷ atom (count [] (Some (codes "3"))) (copies (codes "x"))
      ∷ atom (count (codes "1") (Some (codes "2"))) (classes (codes "P")) ∷ []) ∷ [])))
  -- an expression goes on after a pattern
  pattern_within : IsRead (codes "W A'?1N_1?0001C") (
      written (taken (name (codes "A")) (matches_not (atom (count (codes "1") None) (classes (codes "N")) ∷ [])
      ∷ apply join (digits (codes "1")) ∷ matches (atom (count (codes "0001") None) (classes (codes "C")) ∷ []) ∷ [])))
  brackets : IsRead (codes "W -(1+2)*(A)") (
      written (taken (operand (minus ∷ []) (bracket (taken (digits (codes "1")) (apply add (digits (codes "2")) ∷ []))))
      (apply multiply (plain (bracket (alone (name (codes "A"))))) ∷ [])))
  -- a word in either case, in full or not
  functions : IsRead (codes "W $L(A)_$extract(A,1,2)") (
      written (taken (plain (call (codes "L") (exprs_of (alone (name (codes "A")) ∷ []))))
      (apply join (plain (call (codes "extract")
      (exprs_of (alone (name (codes "A")) ∷ alone (digits (codes "1")) ∷ alone (digits (codes "2")) ∷ [])))) ∷ [])))
  choices : IsRead (codes "W $S(A:1,1:2)") (
      written (alone (plain (select (codes "S")
      (choices_of ((alone (name (codes "A")), alone (digits (codes "1"))) ∷ (alone (digits (codes "1")), alone (digits (codes "2"))) ∷ []))))))
  piece_set : IsRead (codes "S $P(A,1,2)=3") (
      assigned (one (part (codes "P") (named (codes "A")) (exprs_of (alone (digits (codes "1")) ∷ alone (digits (codes "2")) ∷ []))))
      (alone (digits (codes "3"))))
  several_set : IsRead (codes "S (A,$PIECE(B,1))=3") (
      assigned (several (variable (named (codes "A")) ∷ part (codes "PIECE") (named (codes "B")) (exprs_of (alone (digits (codes "1")) ∷ [])) ∷ []))
      (alone (digits (codes "3"))))
  -- variables with subscripts, functions of them, and control of flow
  subscripts : IsRead (codes "S L(10,A(\"\"))=L(1)") (
      assigned (one (variable (local (codes "L") (exprs_of (one_digit (codes "10")
      ∷ alone (plain (reference (local (codes "A") (exprs_of (alone (plain (text [])) ∷ []))))) ∷ [])))))
      (alone (plain (reference (local (codes "L") (exprs_of (one_digit (codes "1") ∷ [])))))))
  piece_of_subscripts : IsRead (codes "S $p(L(1),2)=3") (
      assigned (one (part (codes "p") (local (codes "L") (exprs_of (one_digit (codes "1") ∷ []))) (exprs_of (one_digit (codes "2") ∷ []))))
      (one_digit (codes "3")))
  -- the word of a special variable ends where no letter follows
  specials : IsRead (codes "W $T_'$test") (written (taken (plain (special (codes "T"))) (apply join (operand (negate ∷ []) (special (codes "test"))) ∷ [])))
  -- functions of a variable, with arguments after it or not
  of_variables : IsRead (codes "W $D(L)_$GET(A,1)_$o(L(\"\"),-1)") (
      written (taken (plain (refer (codes "D") (named (codes "L")) no_exprs))
      (apply join (plain (refer (codes "GET") (named (codes "A")) (exprs_of (one_digit (codes "1") ∷ []))))
      ∷ apply join (plain (refer (codes "o") (local (codes "L") (exprs_of (alone (plain (text [])) ∷ [])))
      (exprs_of (alone (operand (minus ∷ []) (number (codes "1"))) ∷ [])))) ∷ [])))
  -- a postconditional belongs to a command, with arguments or without
  postconditionals : IsRead (codes "S:$T A=1 W:A=1 ! Q:A  quit") (
      of_commands ((
        conditional set_word (codes "S") (alone (plain (special (codes "T"))))
            (assign (one (variable (named (codes "A")))) (one_digit (codes "1")) ∷ []),
        1,
      )
      ∷ (conditional write_word (codes "W") (taken (name (codes "A")) (apply (is equals) (digits (codes "1")) ∷ [])) (formats (codes "!") None ∷ []), 1)
      ∷ (conditional quit_word (codes "Q") (alone (name (codes "A"))) [], 2)
      ∷ (command quit_word (codes "quit") [], 0) ∷ []))
  removals : IsRead (codes "K L(9),(A,B) kill  N:A L,(A) new") (
      of_commands ((
        command kill_word (codes "K")
            (kill_one (local (codes "L") (exprs_of (one_digit (codes "9") ∷ []))) ∷ kill_others (codes "A" ∷ codes "B" ∷ []) ∷ []),
        1,
      )
      ∷ (command kill_word (codes "kill") [], 2)
      ∷ (conditional new_word (codes "N") (alone (name (codes "A"))) (new_one (codes "L") ∷ new_others (codes "A" ∷ []) ∷ []), 1)
      ∷ (command new_word (codes "new") [], 0) ∷ []))
  conditions : IsRead (codes "I A,1 IF  E  else ") (
      of_commands ((command if_word (codes "I") (tested (alone (name (codes "A"))) ∷ tested (one_digit (codes "1")) ∷ []), 1)
      ∷ (command if_word (codes "IF") [], 2)
      ∷ (command else_word (codes "E") [], 2)
      ∷ (command else_word (codes "else") [], 1) ∷ []))
  -- each form of a parameter; and FOR without an index
  repetitions : IsRead (codes "F I=1,2:3,4:5:6 for  Q") (
      of_commands ((
        command for_word (codes "F") (loop (codes "I") (once (one_digit (codes "1"))
            ∷ onward (one_digit (codes "2")) (one_digit (codes "3"))
            ∷ until (one_digit (codes "4")) (one_digit (codes "5")) (one_digit (codes "6")) ∷ []) ∷ []),
        1,
      )
      ∷ (command for_word (codes "for") [], 2)
      ∷ (command quit_word (codes "Q") [], 0) ∷ []))
  -- globals and naked references
  -- `^X` and `^X(1,"a")`, and `^(2)`
  globals : IsRead (codes "W ^X_^X(1,\"a\")_^(2)") (
      written (taken (plain (reference (global (codes "X") no_exprs)))
      (apply join (plain (reference (global (codes "X") (exprs_of (one_digit (codes "1") ∷ alone (plain (text (codes "a"))) ∷ [])))))
      ∷ apply join (plain (reference (naked_digit (codes "2")))) ∷ [])))
  global_set : IsRead (codes "S ^X(1)=^(2)") (assigned (one (variable (one_global (codes "1")))) (alone (plain (reference (naked_digit (codes "2"))))))
  -- within the brackets of a list, and as the variable of a $PIECE
  several_globals : IsRead (codes "S (^X,$P(^(1),2))=3") (
      assigned (several (variable (global (codes "X") no_exprs)
      ∷ part (codes "P") (naked_digit (codes "1")) (exprs_of (one_digit (codes "2") ∷ [])) ∷ []))
      (one_digit (codes "3")))
  global_removals : IsRead (codes "K ^X(1),^(2)")
      (of_commands ((command kill_word (codes "K") (kill_one (one_global (codes "1")) ∷ kill_one (naked_digit (codes "2")) ∷ []), 0) ∷ []))
  of_globals : IsRead (codes "W $D(^X)_$G(^(1),2)_$O(^X(1))") (
      written (taken (plain (refer (codes "D") (global (codes "X") no_exprs) no_exprs))
      (apply join (plain (refer (codes "G") (naked_digit (codes "1")) (exprs_of (one_digit (codes "2") ∷ []))))
      ∷ apply join (plain (refer (codes "O") (one_global (codes "1")) no_exprs)) ∷ [])))
  -- a reference within the subscripts of another
  globals_within : IsRead (codes "W ^(^(^%))") (
      written (alone (plain (reference (naked (exprs_of (alone (plain (reference (naked (exprs_of (alone (plain
      (reference (global (codes "%") no_exprs))) ∷ []))))) ∷ [])))))))
  forty_open : IsSome (line_at (codes "W " ++ in_brackets 40))
  forty_one_open : HaveNone ((codes "W " ++ in_brackets 41) ∷ [])
  forty_subscripts : IsSome (line_at (codes "K " ++ in_subscripts 40))
  forty_one_subscripts : HaveNone ((codes "K " ++ in_subscripts 41) ∷ [])

all_read : Read
unfolding reads
all_read = search rules
