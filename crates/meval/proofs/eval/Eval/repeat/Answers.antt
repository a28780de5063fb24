-- SPDX-License-Identifier: Apache-2.0
use Rattle.meval.proofs.EvalLaws.{residual_is, leads_itself, leads_on, leads_into, once_more, not_charged, not_applied, often_enough}
use Rattle.meval.proofs.eval.Eval.repeat.Goals as goal

pub loop-rest-init : goal.loop-rest-init
loop-rest-init g c = record { leads = leads_itself _ c.args.self.now }

pub loop-rest-preserved : goal.loop-rest-preserved
loop-rest-preserved g c = record {
  leads =
      leads_on c.loop-rest.invariant.leads
      (once_more c.args.operator c.args.right.now c.loop-rest.rest c.loop-rest.left c.calculate.new.left c.loop-rest-test.true c.in_ok-charge.ensures.does c.in_ok-calculate.ensures);
}

pub returns-in_err-charge : goal.returns-in_err-charge
returns-in_err-charge g c =
    rw (residual_is _ _ c.from_residual.ensures)
    (leads_into c.loop-rest.invariant.leads (not_charged c.args.operator c.args.right.now c.loop-rest.rest c.loop-rest.left _ c.loop-rest-test.true c.in_err-charge.ensures.does))

pub returns-in_err-calculate : goal.returns-in_err-calculate
returns-in_err-calculate g c =
    rw (residual_is _ _ c.from_residual-in_err-calculate.ensures)
    (leads_into c.loop-rest.invariant.leads
    (not_applied c.args.operator c.args.right.now c.loop-rest.rest c.loop-rest.left _ c.loop-rest-test.true c.in_ok-charge.ensures.does c.in_err-calculate.ensures))

pub returns : goal.returns
returns g c = leads_into c.loop-rest.invariant.leads (often_enough c.args.operator c.args.right.now c.loop-rest.rest c.loop-rest.left c.loop-rest-test.false)
