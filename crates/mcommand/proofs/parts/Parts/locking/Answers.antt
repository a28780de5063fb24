-- SPDX-License-Identifier: Apache-2.0
use Rattle.mcommand.proofs.CommandLaws.{condition_tree, kind_tree, locking_names, does_then, does_stopped}
use Rattle.mcommand.proofs.parts.Parts.locking.Goals as goal

pub returns-in-One : goal.returns-in-One
returns-in-One g c = rw c.in-One.is c.locking_one.ensures

pub returns-in_err-names-in-Several : goal.returns-in_err-names-in-Several
returns-in_err-names-in-Several g c =
    let does = rw c.deref.ensures.value at c.in_err-names-in-Several.ensures.does in
    rw c.in-Several.is (does_stopped (λ i ns. locking_names i (kind_tree c.args.kind) (condition_tree c.args.timeout.now) ns) does c.from_residual.ensures)

pub returns-in_ok-names-in-Several : goal.returns-in_ok-names-in-Several
returns-in_ok-names-in-Several g c =
    let does = rw c.deref.ensures.value at c.in_ok-names-in-Several.ensures.does in
    let rest = rw c.deref-in-Several.ensures.value at c.locking_names.ensures in
    rw c.in-Several.is (does_then (λ i ns. locking_names i (kind_tree c.args.kind) (condition_tree c.args.timeout.now) ns) does rest)
