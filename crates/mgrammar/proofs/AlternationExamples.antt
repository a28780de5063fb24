-- SPDX-License-Identifier: Apache-2.0
-- Groups of patterns on examples: their trees, what they match, which counts are reversed, and how many turns they take.
use Rattle.mgrammar.proofs.GrammarWords.{◌≡◌, ℕ, zero, suc, Bool, true, false, List, [], ◌∷◌, ◌++◌, map, Option, Some, None, rules, codes, list_any, AtomTree}
use Rattle.mgrammar.proofs.GrammarWords.{RepeatedTree, classes, copies, group, patterns_of, pattern_of}
use Rattle.std.specs.Prelude.{option_map, is_some}
use Rattle.mspec.specs.PatternTests.{is_match}
use Rattle.mgrammar.specs.Matching.{atom_of, atom_reversed, turns_of}
use Rattle.mgrammar.proofs.Computing.{reads}

abbrev texts_are_patterns : List (List ℕ) → List Bool
texts_are_patterns ts = map (λ t. is_some (pattern_of t)) ts

-- this many brackets around a pattern
abbrev in_groups : ℕ → List ℕ
in_groups zero = codes "1N"
in_groups (suc n) = codes "1(" ++ in_groups n ++ codes ")"

-- one of what is repeated
abbrev one_of : RepeatedTree → AtomTree
one_of p = record { count = record { front = codes "1"; behind = None }; repeated = p }

record AreRead : Type 0 where
  two : pattern_of (codes "1(1\"A\",1N)") ≡ Some (one_of (group (patterns_of ((one_of (copies (codes "A")) ∷ []) ∷ (one_of (classes (codes "N")) ∷ []) ∷ []))) ∷ [])
  within : pattern_of (codes "1(1U1(1N))1A")
      ≡ Some (one_of (group (patterns_of ((one_of (classes (codes "U")) ∷ one_of (group (patterns_of ((one_of (classes (codes "N")) ∷ []) ∷ []))) ∷ []) ∷ []))) ∷ one_of (classes (codes "A")) ∷ [])
  -- an empty pattern, a space, a group without a count, and brackets that do not close
  none : texts_are_patterns (codes "1()" ∷ codes "1(,1N)" ∷ codes "1(1N,)" ∷ codes "1((1N),1A)" ∷ codes "1(1N, 1A)" ∷ codes "(1N)" ∷ codes "1(1N" ∷ codes "1(1N))" ∷ codes "1(N)" ∷ [])
      ≡ false ∷ false ∷ false ∷ false ∷ false ∷ false ∷ false ∷ false ∷ false ∷ []
  -- groups are brackets like any others
  deep : texts_are_patterns (in_groups 40 ∷ in_groups 41 ∷ []) ≡ true ∷ false ∷ []

are_read : AreRead
unfolding reads
are_read = search rules

-- whether a text matches a pattern that is written so
abbrev matched : List ℕ × List ℕ → Option Bool
matched x = option_map (λ atoms. is_match (map atom_of atoms) x.0) (pattern_of x.1)

record AreMatched : Type 0 where
  one : map matched ((codes "12", codes "1(1\"A\",2N)") ∷ (codes "A", codes "1(1\"A\",2N)") ∷ (codes "1", codes "1(1\"A\",2N)") ∷ []) ≡ Some true ∷ Some true ∷ Some false ∷ []
  several : map matched (([], codes ".(1N)") ∷ (codes "1a2", codes "3(1N,1A)") ∷ (codes "1a2", codes "0.2(1N,1A)") ∷ ([], codes "0(1N)") ∷ []) ≡ Some true ∷ Some true ∷ Some false ∷ Some true ∷ []
  -- a pattern that matches the empty text, so that any count is reached
  empty : map matched (([], codes "1(.N,1A)") ∷ ([], codes "3(.1N)") ∷ (codes "aa", codes "2(1\"\",1\"a\")") ∷ ([], codes "9999(.1N)") ∷ []) ≡ Some true ∷ Some true ∷ Some true ∷ Some true ∷ []
  within : map matched ((codes "abab", codes "2(1(1\"a\",1\"b\")1(1\"b\",1\"c\"))") ∷ (codes "1", codes "1(1N,1(1N,1(1N)))") ∷ []) ≡ Some true ∷ Some true ∷ []

are_matched : AreMatched
unfolding reads
are_matched = search rules

-- whether any count of a pattern that is written so is reversed
abbrev reversed : List ℕ → Option Bool
reversed t = option_map (λ atoms. list_any atom_reversed atoms) (pattern_of t)

record AreReversed : Type 0 where
  some : map reversed (codes "0(3.1N)" ∷ codes "2.1(1\"a\")" ∷ codes "1(1N,1(2.1A))" ∷ codes "1N1(1A3.2N,1N)" ∷ []) ≡ Some true ∷ Some true ∷ Some true ∷ Some true ∷ []
  none : map reversed (codes "1N" ∷ codes "0(1.3N)" ∷ codes "1(1N,1(.1A))" ∷ []) ≡ Some false ∷ Some false ∷ Some false ∷ []

are_reversed : AreReversed
unfolding reads
are_reversed = search rules

-- the turns of a pattern that is written so, of a text with this many characters
abbrev turned : ℕ × List ℕ → Option ℕ
turned x = option_map (turns_of x.0) (pattern_of x.1)

record AreTurned : Type 0 where
  -- without a group there are none
  none : map turned ((5, codes "1.9N3\"A\"") ∷ (0, codes "0(1N)") ∷ []) ≡ Some 0 ∷ Some 0 ∷ []
  -- as many as the count permits, or as serve
  one : map turned ((5, codes "3(1N)") ∷ (5, codes ".(1N)") ∷ (5, codes "2.(1N)") ∷ (5, codes "2.4(1N)") ∷ (5, codes ".9999(1N)") ∷ (0, codes "1(1N)") ∷ []) ≡ Some 3 ∷ Some 5 ∷ Some 7 ∷ Some 4 ∷ Some 5 ∷ Some 1 ∷ []
  -- those of one group after another, and in each turn those of all groups within
  several : map turned ((5, codes "3(1N)1A2(1N)") ∷ (5, codes "2.4(1N,2(1A))") ∷ (3, codes "2.(.(1N)1A)") ∷ (2, codes "2(2(2(1N)),1(1A)1(1A))") ∷ []) ≡ Some 5 ∷ Some 12 ∷ Some 20 ∷ Some 18 ∷ []

are_turned : AreTurned
unfolding reads
are_turned = search rules
