-- SPDX-License-Identifier: Apache-2.0
-- Trees written shortly, and what examples say of texts: that they have a tree, or none.
use Rattle.mgrammar.proofs.GrammarWords.{◌≡◌, ℕ, List, [], ◌∷◌, Some, None, map, codes, OperandTree, operand, PrimaryTree, ExprTree, expr, no_tails, number}
use Rattle.mgrammar.proofs.GrammarWords.{ReferenceTree, local, no_exprs, EntryTree, at_label_in, at_routine, own_routine, KeywordTree, ArgTree, CommandTree}
use Rattle.mgrammar.proofs.GrammarWords.{SpacedTree, LineTree, spell, line_at}

-- the text has this tree
abbrev pub IsRead : List ℕ → LineTree → Type 0
IsRead t l = (spell l ≡ t) × (line_at t ≡ Some l)

-- nothing is read of the texts: they have no tree (`no_tree` of ReadingLines)
abbrev pub HaveNone : List (List ℕ) → Type 0
HaveNone ts = map line_at ts ≡ map (λ t. None) ts

-- with no signs in front
abbrev pub plain : PrimaryTree → OperandTree
plain p = operand [] p

abbrev pub only : PrimaryTree → ExprTree
only p = expr (plain p) no_tails

-- the number 1
abbrev pub the_one : ExprTree
the_one = only (number (codes "1"))

-- a label of an own routine, and the first line of one
abbrev pub own_label : (label routine : List ℕ) → EntryTree
own_label label routine = at_label_in label (own_routine routine)

abbrev pub own : List ℕ → EntryTree
own routine = at_routine (own_routine routine)

-- a variable without subscripts
abbrev pub named : List ℕ → ReferenceTree
named name = local name no_exprs

abbrev pub command : KeywordTree → List ℕ → List ArgTree → CommandTree
command k word args = record { keyword = k; word = word; condition = None; args = args }

-- with a postconditional
abbrev pub conditional : KeywordTree → List ℕ → ExprTree → List ArgTree → CommandTree
conditional k word e args = record { keyword = k; word = word; condition = Some e; args = args }

-- a line of these commands, with the spaces after each
abbrev pub of_commands : List SpacedTree → LineTree
of_commands cs = record { lead = 0; commands = cs; comment = None }

-- a line of one command
abbrev pub of_one : KeywordTree → List ℕ → List ArgTree → LineTree
of_one k word args = of_commands ((command k word args, 0) ∷ [])
