-- SPDX-License-Identifier: Apache-2.0
use Rattle.std.proofs.Common.{◌≡◌, ℕ, drop, map}
use Rattle.std.specs.Prelude.{◌||◌}
use Rattle.mspec.specs.Pattern.{is_in_any}
use Rattle.mgrammar.specs.Matching.{pattern_code}
use Rattle.mtext.specs.ClassSets.{is_in_set}
use Rattle.mtree.proofs.letters.classes.Given as goal

abbrev pub invariant-loop-letter : goal.invariant-loop-letter
invariant-loop-letter l = (c : ℕ) → (is_in_set l.classes c || is_in_any (map pattern_code (drop l.letter-index l.letters)) c) ≡ is_in_any (map pattern_code l.letters) c
