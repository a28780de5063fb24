-- SPDX-License-Identifier: Apache-2.0
use Rattle.mcommand.proofs.CommandLaws.{[], ◌∷◌, refl, condition_tree, kind_tree, reference_tree, standing_of, locking_names, does_evaluated, does_is}
use Rattle.mcommand.proofs.CommandLaws.{does_then, does_stopped, one_is, one_more_taken}
use Rattle.mcommand.proofs.parts.Parts.locking_one.Goals as goal

pub returns-in_err-name : goal.returns-in_err-name
returns-in_err-name g c =
    does_is (λ i. one_is i (kind_tree c.args.kind) (reference_tree c.args.reference.now) (condition_tree c.args.timeout.now)) (does_stopped _ (does_evaluated c.in_err-name.ensures.does) c.from_residual.ensures)

pub locking_names-requires : goal.locking_names-requires
locking_names-requires g c =
    rw c.from_ref.ensures.value (one_more_taken (standing_of c.lock_name.new.self) [] c.in_ok-name.name refl c.in_ok-name.ensures.«open»)

pub returns : goal.returns
returns g c =
    let rest = rw c.from_ref.ensures.value at c.locking_names.ensures in
    does_is (λ i. one_is i (kind_tree c.args.kind) (reference_tree c.args.reference.now) (condition_tree c.args.timeout.now))
    (does_then (λ i n. locking_names i (kind_tree c.args.kind) (condition_tree c.args.timeout.now) (n ∷ [])) (does_evaluated c.in_ok-name.ensures.does) rest)
