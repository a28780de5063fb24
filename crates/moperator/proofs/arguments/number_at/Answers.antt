-- SPDX-License-Identifier: Apache-2.0
use Rattle.moperator.proofs.GivenArguments.{argument_number, no_number_there}
use Rattle.moperator.proofs.Numbers.{empty_number}
use Rattle.moperator.proofs.OperatorWords.{units}
use Rattle.moperator.proofs.arguments.number_at.Goals as goal

pub returns-in-None : goal.returns-in-None
returns-in-None c = no_number_there units c.args.arguments.now c.args.place _ c.in-None.ensures.lookup.3 (empty_number c.from_whole.result c.from_whole.ensures)

pub returns-in-Some : goal.returns-in-Some
returns-in-Some c =
    let found = c.in-Some.ensures.lookup in
    argument_number units c.args.arguments.now c.args.place c.in-Some.value.now _ found.3.0 found.1 c.number_of.ensures.number
