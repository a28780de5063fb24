-- SPDX-License-Identifier: Apache-2.0
use Rattle.moperator.proofs.GivenArguments.{left_out, given, refused}
use Rattle.moperator.proofs.Numbers.{whole_fits}
use Rattle.moperator.proofs.OperatorWords.{residual_is}
use Rattle.moperator.proofs.arguments.whole_at.Goals as goal

pub returns-in-None-clause-whole : goal.returns-in-None-clause-whole
returns-in-None-clause-whole c = left_out c.args.arguments.now c.args.place c.in-None.ensures.lookup.3

pub returns-in_err-whole-in-Some-clause-whole : goal.returns-in_err-whole-in-Some-clause-whole
returns-in_err-whole-in-Some-clause-whole c =
    let found = c.in-Some.ensures.lookup in
    rw (residual_is _ _ c.from_residual.ensures) (refused c.args.arguments.now c.args.place c.in-Some.value.now _ found.3.0 found.1 c.in_err-whole-in-Some.ensures.whole)

pub returns-in_ok-whole-in-Some-clause-whole : goal.returns-in_ok-whole-in-Some-clause-whole
returns-in_ok-whole-in-Some-clause-whole c =
    let found = c.in-Some.ensures.lookup in
    let fits = whole_fits c.in_ok-whole-in-Some.whole c.in_ok-whole-in-Some.ensures.below in
    given c.args.arguments.now c.args.place c.in-Some.value.now _ _ found.3.0 found.1 fits c.in_ok-whole-in-Some.ensures.whole
