-- SPDX-License-Identifier: Apache-2.0
use Rattle.mparse.proofs.ParseWords.{map, Vec, Global, arg_tree, keyword_tree, spell_list, spell_arg, WellList, WellArg, args_of, reads_its_arguments}
use Rattle.mtree.specs.declared.tree.Arg.{Arg}
use Rattle.mgrammar.specs.Commands.{form_of}
use Rattle.mparse.proofs.WholeTexts.{is_tree}
use Rattle.mparse.proofs.indirect.parse_args.Goals as goal

pub returns-clause-tree : goal.returns-clause-tree
returns-clause-tree c may =
    let f = form_of (keyword_tree c.args.keyword) in
    is_tree (λ (args : Vec Arg Global). map arg_tree args.items) (args_of f) (spell_list spell_arg) (WellList (WellArg f)) (reads_its_arguments f may) c.args.text.now c.whole_args.result c.whole_args.ensures
