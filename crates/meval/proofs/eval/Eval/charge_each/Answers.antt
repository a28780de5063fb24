-- SPDX-License-Identifier: Apache-2.0
use Rattle.std.proofs.Common.{rules, arith, ◌≡◌, ◌<◌, ◌-◌, ◌^◌}
use Rattle.meval.proofs.Charges.{spends, spends_all}
use Rattle.meval.proofs.eval.Eval.charge_each.Goals as goal

pub returns-then-count-self : goal.returns-then-count-self
returns-then-count-self g c = λ n is. spends_all c.args.self.now n (omega (arith, is, c.if-count-self.true))

pub returns : goal.returns
returns g c = λ n is.
    let small : c.args.self.now.steps < 2 ^ 64 - 1 = search rules in
    let same : c.args.count ≡ n = omega (arith, is, small, c.if-count-self.false) in
    rw same (spends c.args.self.now n (omega (arith, same, c.if-count-self.false)))
