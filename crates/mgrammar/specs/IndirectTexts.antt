-- SPDX-License-Identifier: Apache-2.0
-- The texts of indirection, read whole.
--
-- Restates "Indirection" of ISO/IEC 11756:1999: the value of the operand of an `@` is a text that stands where the `@` stands, in the
-- place of a variable, of arguments or of a pattern; that of an `@` in an actual is a name. The meaning of a line reads such a text in this way; laws tie what is read to the grammar.
use Rattle.std.specs.Prelude.{ℕ, List, [], ◌∷◌, Option, Some, None}
use Rattle.mgrammar.specs.Grammar.{ReferenceTree, ArgTree, AtomTree, FormTree}
use Rattle.mgrammar.specs.WellFormed.{max_depth}
use Rattle.mgrammar.specs.ReadingWords.{◌>>=◌, name_at, list_at, pattern_at}
use Rattle.mgrammar.specs.ReadingExpressions.{readers_at, reference_with}
use Rattle.mgrammar.specs.Reading.{arg_at}

-- what was read, unless something is left after it
abbrev pub whole_by : {A : Type 0} → A → List ℕ → Option A
whole_by a [] = Some a
whole_by a (c ∷ cs) = None

-- of name indirection: a variable
unfoldable pub ref_at : List ℕ → Option ReferenceTree
ref_at cs = reference_with (readers_at max_depth) cs >>= λ v. whole_by v.0 v.1

-- of argument indirection: one or more arguments of this form, with commas between
unfoldable pub args_of : FormTree → List ℕ → Option (List ArgTree)
args_of f cs = list_at (arg_at f) cs >>= λ x. whole_by x.0 x.1

-- of pattern indirection: a pattern as it is written, with no further `@`
unfoldable pub pattern_of : List ℕ → Option (List AtomTree)
pattern_of cs = pattern_at max_depth cs >>= λ p. whole_by p.0 p.1

-- in an actual: a name
unfoldable pub name_of : List ℕ → Option (List ℕ)
name_of cs = name_at cs >>= λ n. whole_by n.0 n.1
