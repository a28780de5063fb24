-- SPDX-License-Identifier: Apache-2.0
-- What has its value at hand, as a primary of the grammar.
use Rattle.mgrammar.specs.Grammar.{PrimaryTree, number, reference, local, no_exprs}
use Rattle.meval.specs.declared.shortcuts.AtHand.{AtHand}
use Rattle.meval.specs.declared.shortcuts.AtHand.TheVariants as at_hand

abbrev pub at_hand_tree : AtHand → PrimaryTree
at_hand_tree (at_hand.Number literal) = number literal.now
at_hand_tree (at_hand.Variable name) = reference (local name.now no_exprs)
