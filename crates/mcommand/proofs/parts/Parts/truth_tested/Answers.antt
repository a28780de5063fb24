-- SPDX-License-Identifier: Apache-2.0
use Rattle.mcommand.proofs.CommandLaws.{Bool, refl, ◌>>◌, give, set_test, does_then, does_stopped, does_gives, does_evaluated, does_yielded}
use Rattle.mcommand.proofs.parts.Parts.truth_tested.Goals as goal

pub returns-in_err-is_true : goal.returns-in_err-is_true
returns-in_err-is_true g c = does_stopped (λ i b. set_test b >> give b) (does_yielded c.in_err-is_true.ensures.truth) c.from_residual.ensures

pub returns : goal.returns
returns g c =
    does_then (λ i b. set_test b >> give b) (does_yielded c.in_ok-is_true.ensures.truth)
    (does_then (λ i _. give c.in_ok-is_true.is_true) (does_evaluated c.set_test.ensures) (does_gives c.in_ok-is_true.is_true (λ (b : Bool). b) c.in_ok-is_true.is_true refl))
