-- SPDX-License-Identifier: Apache-2.0
use Rattle.meval.proofs.EvalLaws.{refl, yields_gives, give}
use Rattle.meval.proofs.EvalWords.{subscripts_test}
use Rattle.mmeaning.proofs.Yieldings.{yields_stopped}
use Rattle.meval.specs.Kept.{readable_view}
use Rattle.meval.specs.Places.{place_view}
use Rattle.meval.proofs.kept.Readable.into_place.Goals as goal

pub returns-in_err-key-in-Node-clause-does : goal.returns-in_err-key-in-Node-clause-does
returns-in_err-key-in-Node-clause-does c =
    let are = subscripts_test _ c.as_slice.ensures.are_subscripts in
    yields_stopped (λ (_ : Unit {0}). give (readable_view c.args.self)) (rw are at c.in_err-key-in-Node.ensures.checked) c.from_residual.ensures
