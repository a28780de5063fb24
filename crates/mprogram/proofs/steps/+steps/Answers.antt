-- SPDX-License-Identifier: Apache-2.0
use Rattle.std.proofs.Common.{◌≡◌, ◌∙◌, ℕ, ◌+◌, ◌<◌, List, ◌∷◌, drop, map, length, get_or, sym, ap}
use Rattle.std.proofs.lemmas.List.{take_rest}
use Rattle.mspec.proofs.ListPlaces.{next_item}
use Rattle.mgrammar.specs.Grammar.{choices_of}
use Rattle.mmeaning.specs.Programs.{Op}
use Rattle.mtree.specs.Tree.{choice_tree}
use Rattle.mtree.specs.declared.tree.Choice.{Choice}
use Rattle.mprogram.specs.Found.{FoundTree, step, found_then, single, passing_value, passing_choices, in_value, in_choices}
use Rattle.mprogram.specs.Views.{op_view}
use Rattle.mprogram.proofs.steps.+steps.Goals as goal

-- what comes in a choice, with these after it, is found in the choices from it on
in_this : (cs rest : List Choice) (i : ℕ) (x : Choice) (left : ℕ) (o : Op) → i < length cs → x ≡ get_or cs i x
    → step o ≡ found_then (found_then (in_value (choice_tree x).0 left) (single (passing_value (choice_tree x).1)))
    (λ left. found_then (in_value (choice_tree x).1 left) (single (passing_choices (choices_of (map choice_tree rest)))))
    → rest ≡ drop (i + 1) cs → step o ≡ in_choices (choices_of (map choice_tree (drop i cs))) left
in_this cs rest i x left o less is found same =
    ap (λ (f : FoundTree). found_then f (in_choices (choices_of (map choice_tree rest)))) found
    ∙ ap (λ (rest : List Choice). in_choices (choices_of (map choice_tree (x ∷ rest))) left) same
    ∙ sym (ap (λ (cs : List Choice). in_choices (choices_of (map choice_tree cs)) left) (next_item cs i x less is))

pub in_choices-returns-in-Op : goal.in_choices-returns-in-Op
in_choices-returns-in-Op t c =
    in_this c.args.choices.now _ c.loop-index.index c.index-choices-index.result c.loop-index.left (op_view c.in-Op.op) c.loop-index-test.true
    c.index-choices-index.is c.in-Op.ensures (take_rest c.args.choices.now (c.loop-index.index + 1)) ∙ c.loop-index.invariant
