-- SPDX-License-Identifier: Apache-2.0
use Rattle.meval.proofs.EvalLaws.{residual_is, evaluates_failed, evaluates_gives, evaluates_then, evaluates_wanting}
use Rattle.meval.proofs.Charges.{matching_of}
use Rattle.std.proofs.Common.{map}
use Rattle.mspec.specs.Act.{give}
use Rattle.mspec.specs.PatternTests.{is_match}
use Rattle.mgrammar.specs.Matching.{atom_of}
use Rattle.mtree.specs.Tree.{atom_tree}
use Rattle.meval.proofs.eval.Eval.matching.Goals as goal

pub returns-in_err-charge_each : goal.returns-in_err-charge_each
returns-in_err-charge_each g c =
    let pattern = map atom_tree c.args.atoms.now in
    rw (residual_is _ _ c.from_residual-in_err-charge_each.ensures)
    (matching_of pattern c.args.value.now (λ b. b) c.args.self.now _ c.charge_each.new.self c.in_ok-turns.ensures.0
    (evaluates_failed (λ i u. give (is_match (map atom_of pattern) c.args.value.now)) (c.in_err-charge_each.ensures _ c.in_ok-turns.ensures.1)))

pub returns-in_err-answer : goal.returns-in_err-answer
returns-in_err-answer g c =
    let pattern = map atom_tree c.args.atoms.now in
    matching_of pattern c.args.value.now (λ b. b) c.args.self.now _ c.charge_each.new.self c.in_ok-turns.ensures.0
    (evaluates_then (λ i u. give (is_match (map atom_of pattern) c.args.value.now)) (c.in_ok-charge_each.ensures _ c.in_ok-turns.ensures.1)
    (evaluates_wanting (λ i. give (is_match (map atom_of pattern) c.args.value.now)) (λ b. b) _ c.from_residual-in_err-answer.ensures))

pub returns : goal.returns
returns g c =
    let pattern = map atom_tree c.args.atoms.now in
    matching_of pattern c.args.value.now (λ b. b) c.args.self.now _ c.charge_each.new.self c.in_ok-turns.ensures.0
    (evaluates_then (λ i u. give (is_match (map atom_of pattern) c.args.value.now)) (c.in_ok-charge_each.ensures _ c.in_ok-turns.ensures.1)
    (evaluates_gives (is_match (map atom_of pattern) c.args.value.now) (λ b. b) c.in_ok-answer.answer c.in_ok-answer.ensures))
