-- SPDX-License-Identifier: Apache-2.0
use Rattle.meval.proofs.EvalLaws.{give}
use Rattle.meval.proofs.EvalWords.{subscripts_test}
use Rattle.mmeaning.proofs.Yieldings.{yields_stopped}
use Rattle.meval.proofs.kept.Lockable.lock.Goals as goal

pub returns-in_err-key-clause-does : goal.returns-in_err-key-clause-does
returns-in_err-key-clause-does c =
    let are = subscripts_test _ c.as_slice.ensures.are_subscripts in
    yields_stopped (λ (_ : Unit {0}). give c.args.self.now) (rw are at c.in_err-key.ensures.checked) c.from_residual.ensures
