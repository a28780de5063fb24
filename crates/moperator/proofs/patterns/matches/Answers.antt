-- SPDX-License-Identifier: Apache-2.0
use Rattle.moperator.proofs.OperatorWords.{map, atom_tree}
use Rattle.moperator.proofs.PatternMatches.{match_is}
use Rattle.moperator.proofs.patterns.matches.Goals as goal

pub returns : goal.returns
returns c = match_is (map atom_tree c.args.atoms.now) c.args.value.now c.in_ok-answer.answer c.requires c.value_matches.ensures.short c.in_ok-answer.ensures.answer
