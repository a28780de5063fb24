-- SPDX-License-Identifier: Apache-2.0
use Rattle.meval.proofs.EvalLaws.{ap₂, sym, standing_of, ◌∙◌}
use Rattle.mspec.specs.Trees.{text_eq}
use Rattle.meval.proofs.NodeNames.{own_environment, other_environment}
use Rattle.meval.proofs.eval.Eval.front_of.Goals as goal

pub returns-then-eq : goal.returns-then-eq
returns-then-eq g c =
    let same = ap₂ text_eq (sym c.account.ensures) (sym c.name_of.ensures.name) ∙ sym c.eq.ensures ∙ c.if-eq.true in
    rw (own_environment (standing_of c.args.self.now).account c.args.node.now same) (rw c.name-name.ensures at c.own_front.ensures)

pub returns : goal.returns
returns g c =
    let other = ap₂ text_eq (sym c.account.ensures) (sym c.name_of.ensures.name) ∙ sym c.eq.ensures ∙ c.if-eq.false in
    let front = rw (c.in_ok-account.ensures, c.name-name.ensures) at c.other_front.ensures in
    rw (other_environment (standing_of c.args.self.now).account c.args.node.now other) front
