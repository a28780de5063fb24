-- SPDX-License-Identifier: Apache-2.0
-- Environments, LOCK and HALT on examples, as proved equations: texts with their trees, and texts that have none.
use Rattle.mgrammar.proofs.GrammarWords.{◌≡◌, ◌≢◌, ℕ, List, [], ◌∷◌, ◌++◌, Option, Some, None, refl, rules, codes, ExprTree, text, reference, global, indirect}
use Rattle.mgrammar.proofs.GrammarWords.{extended, no_exprs, exprs, anew, adding, giving_back, lock_one, lock_several, lock_argument, ArgTree, shown, locked}
use Rattle.mgrammar.proofs.GrammarWords.{indirect_args, KeywordTree, write_word, lock_word, halt_word, halt_or_hang_word, hang_word, hang_for, hang_argument}
use Rattle.mgrammar.proofs.GrammarWords.{SpacedTree, line_at, ref_at, args_of, replicate}
use Rattle.mgrammar.proofs.Computing.{reads}
use Rattle.mgrammar.proofs.ShortTrees.{IsRead, HaveNone, only, the_one, named, of_commands, of_one}

-- ---- short forms

-- a command with a condition or none, and the spaces after it
abbrev spaced : KeywordTree → List ℕ → Option ExprTree → List ArgTree → ℕ → SpacedTree
spaced k word condition args spaces = (record { keyword = k; word = word; condition = condition; args = args }, spaces)

-- its bars are as deep as a bracket
abbrev bars : ℕ → List ℕ
bars n = codes "W ^|" ++ (replicate n 40 ++ (codes "1" ++ (replicate n 41 ++ codes "|X")))

bars_deep : (line_at (bars 39) ≢ None) × (line_at (bars 40) ≡ None)
unfolding reads
bars_deep = (λ e. cc, refl)

record Read : Type 0 where
  -- environments
  -- the environment is an expression, of which the variable has subscripts or none
  environments : IsRead (codes "W ^|\"B\"|X(1),^|A|X") (of_one write_word (codes "W") (shown (only (reference (extended (only (text (codes "B"))) (codes "X") (exprs the_one no_exprs)))) ∷ shown (only (reference (extended (only (reference (named (codes "A")))) (codes "X") no_exprs))) ∷ []))
  -- a name comes after it, and it is there
  no_environments : HaveNone (
      codes "W ^|\"B\"|(1)" ∷ codes "W ^||X" ∷ codes "W ^|\"B\"X" ∷ codes "W |\"B\"|X" ∷ codes "W ^|\"B\"|" ∷ codes "W ^ |\"B\"|X" ∷ [])
  -- LOCK
  -- with a sign or none, one name or some in brackets, with a timeout or none
  locks : IsRead (codes "L A,+^X(1):1,-(A,^X):1,@A") (of_one lock_word (codes "L") (locked anew (lock_one (named (codes "A"))) None ∷ locked adding (lock_one (global (codes "X") (exprs the_one no_exprs))) (Some the_one) ∷ locked giving_back (lock_several (named (codes "A") ∷ global (codes "X") no_exprs ∷ [])) (Some the_one) ∷ indirect_args lock_argument (reference (named (codes "A"))) ∷ []))
  -- an `@` with a sign, a bracket or a timeout is a name
  locks_named : IsRead (codes "Lock +@A,@A:1,(@A)") (of_one lock_word (codes "Lock") (locked adding (lock_one (indirect (reference (named (codes "A"))) no_exprs)) None ∷ locked anew (lock_one (indirect (reference (named (codes "A"))) no_exprs)) (Some the_one) ∷ locked anew (lock_several (indirect (reference (named (codes "A"))) no_exprs ∷ [])) None ∷ []))
  -- without arguments, and with a condition
  bare_lock : IsRead (codes "l:1 A L  H") (of_commands (spaced lock_word (codes "l") (Some the_one) (locked anew (lock_one (named (codes "A"))) None ∷ []) 1 ∷ spaced lock_word (codes "L") None [] 2 ∷ spaced halt_or_hang_word (codes "H") None [] 0 ∷ []))
  -- no naked reference, no more than a sign, a bracket and a timeout
  no_locks : HaveNone (
      codes "L ^(1)" ∷ codes "L +(A,^(1))" ∷ codes "L ++A" ∷ codes "L +" ∷ codes "L ()" ∷ codes "L A:" ∷ codes "L A:1:1" ∷ codes "L 1" ∷
      codes "L ((A))" ∷ [])
  -- HALT
  -- with a condition, and none
  halts : IsRead (codes "HALT:1  H") (of_commands (spaced halt_word (codes "HALT") (Some the_one) [] 2 ∷ spaced halt_or_hang_word (codes "H") None [] 0 ∷ []))
  -- and without arguments
  no_halts : HaveNone (codes "HALT 1" ∷ codes "HA" ∷ codes "HALT @A" ∷ codes "HAN 1" ∷ [])
  -- HANG
  -- with a condition, and none; the letter is that of HALT too
  hangs : IsRead (codes "h 1,1 HANG:1 @A") (of_commands (spaced halt_or_hang_word (codes "h") None (hang_for the_one ∷ hang_for the_one ∷ []) 1 ∷ spaced hang_word (codes "HANG") (Some the_one) (indirect_args hang_argument (reference (named (codes "A"))) ∷ []) 0 ∷ []))
  -- texts of argument indirection
  given_locks : (args_of lock_argument (codes "^X,+^Y:1") ≡ Some (locked anew (lock_one (global (codes "X") no_exprs)) None ∷ locked adding (lock_one (global (codes "Y") no_exprs)) (Some the_one) ∷ [])) × (args_of lock_argument (codes "^(1)") ≡ None) × (ref_at (codes "^|1|X") ≡ Some (extended the_one (codes "X") no_exprs))

all_read : Read
unfolding reads
all_read = search rules
