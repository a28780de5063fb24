-- SPDX-License-Identifier: Apache-2.0
use Rattle.meval.proofs.EvalLaws.{Some, None, refl, beside_found}
use Rattle.meval.proofs.eval.Eval.beside.Goals as goal

pub returns-in-None : goal.returns-in-None
returns-in-None g c = beside_found (λ node. node) c.args.values None c.in-None.is (record { ends = λ s. refl })

pub returns-in-Some : goal.returns-in-Some
returns-in-Some g c = beside_found (λ node. node) c.args.values (Some c.in-Some.last) c.in-Some.is c.beside.ensures
