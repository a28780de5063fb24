-- SPDX-License-Identifier: Apache-2.0
use Rattle.std.proofs.Common.{sym, arith, map}
use Rattle.mgrammar.specs.Grammar.{choices_of}
use Rattle.mtree.specs.Tree.{choice_tree}
use Rattle.mprogram.proofs.Counting.{others_counted, too_many, choices_counted, choices_longer}
use Rattle.mprogram.proofs.counts.steps_in_choices.Goals as goal

pub returns-in-Op : goal.returns-in-Op
returns-in-Op c =
    let trees = choices_of (map choice_tree c.args.choices.now) in
    too_many _ _ (choices_longer trees _ _ (sym c.in-Op.ensures)) (omega arith)

pub returns-in-Past : goal.returns-in-Past
returns-in-Past c =
    let trees = choices_of (map choice_tree c.args.choices.now) in
    others_counted _ _ c.in-Past.left (choices_counted trees _ c.in-Past.left (sym c.in-Past.ensures)) (omega arith)
