-- SPDX-License-Identifier: Apache-2.0
use Rattle.std.proofs.Common.{◌≡◌, ◌++◌, drop, map}
use Rattle.mgrammar.specs.Matching.{pattern_code}
use Rattle.mtext.specs.PatternPlaces.{codes_of}
use Rattle.mtree.proofs.letters.Letters.codes.Given as goal

abbrev pub invariant-loop-letter : goal.invariant-loop-letter
invariant-loop-letter l = codes_of l.codes.items ++ map pattern_code (drop l.letter-index l.letters) ≡ map pattern_code l.letters
