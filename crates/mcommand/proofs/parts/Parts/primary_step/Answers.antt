-- SPDX-License-Identifier: Apache-2.0
use Rattle.mcommand.proofs.CommandLaws.{List, ap, Text, ◌>>=◌, does_then, does_stopped, does_evaluated, does_yielded, does_is}
use Rattle.mspec.specs.Act.{Act}
use Rattle.mmeaning.proofs.Calls.{ended}
use Rattle.mmeaning.specs.Expression.{primary_value}
use Rattle.mmeaning.specs.Programs.{one_value, on_top}
use Rattle.mtree.specs.Tree.{primary_tree}
use Rattle.mcommand.specs.Steps.{items_view}
use Rattle.mcommand.proofs.parts.Parts.primary_step.Goals as goal

pub returns-in_err-value : goal.returns-in_err-value
returns-in_err-value g c =
    does_is (λ i. ap (λ (p : Act Text). p >>= (λ v. on_top (items_view c.args.items.now.items) (one_value v))) (ended (primary_value i (primary_tree c.args.primary.now))))
    (does_stopped (λ i v. on_top (items_view c.args.items.now.items) (one_value v)) (does_evaluated c.in_err-value.ensures.does) c.from_residual.ensures)

pub returns : goal.returns
returns g c =
    does_is (λ i. ap (λ (p : Act Text). p >>= (λ v. on_top (items_view c.args.items.now.items) (one_value v))) (ended (primary_value i (primary_tree c.args.primary.now))))
    (does_then (λ i v. on_top (items_view c.args.items.now.items) (one_value v)) (does_evaluated c.in_ok-value.ensures.does) (does_yielded c.put.ensures))
