-- SPDX-License-Identifier: Apache-2.0
use Rattle.mcommand.proofs.CommandLaws.{[], refl, sym, List, map, residual_is, Vec, Global, Prepared, prepared_view, does_is, does_then, does_wanting}
use Rattle.mcommand.proofs.CommandLaws.{does_seen}
use Rattle.mmeaning.proofs.Calls.{ended}
use Rattle.mspec.specs.Act.{give}
use Rattle.mmeaning.specs.LineMeaning as meaning
use Rattle.mtree.specs.Tree.{destination_tree}
use Rattle.mcommand.proofs.parts.Parts.prepared_targets.Goals as goal

pub returns-in_err-all : goal.returns-in_err-all
returns-in_err-all g c =
    let does = rw c.targets_of.ensures at c.in_err-all.ensures in
    rw (residual_is _ _ c.from_residual.ensures) does

pub returns-in_err-own : goal.returns-in_err-own
returns-in_err-own g c =
    let does = rw c.targets_of.ensures at c.in_ok-all.ensures in
    does_is (λ i. sym (ended (meaning.all_prepared i [] (meaning.targets (destination_tree c.args.destination.now)))))
    (does_then (λ i (ps : List meaning.Prepared). give ps) does (does_wanting _ _ _ c.from_residual-in_err-own.ensures refl refl refl refl))

pub returns : goal.returns
returns g c =
    let does = rw c.targets_of.ensures at c.in_ok-all.ensures in
    does_seen c.in_ok-all.all c.in_ok-own.own (sym c.in_ok-own.ensures) does
