-- SPDX-License-Identifier: Apache-2.0
use Rattle.mcommand.proofs.CommandLaws.{does_then, does_stopped, does_yielded}
use Rattle.moperator.proofs.Numbers.{whole_fits}
use Rattle.mcommand.proofs.parts.Parts.spaced_to.Goals as goal

pub returns-in_err-column : goal.returns-in_err-column
returns-in_err-column g c = does_stopped _ (does_yielded c.in_err-column.ensures.whole) c.from_residual.ensures

pub returns-in_err-check_column : goal.returns-in_err-check_column
returns-in_err-check_column g c =
    let refused = rw (whole_fits c.in_ok-column.column c.in_ok-column.ensures.below) at c.in_err-check_column.ensures in
    does_then _ (does_yielded c.in_ok-column.ensures.whole) (does_stopped _ (does_yielded refused) c.from_residual-in_err-check_column.ensures)

pub returns : goal.returns
returns g c =
    let let_in = rw (whole_fits c.in_ok-column.column c.in_ok-column.ensures.below) at c.in_ok-check_column.ensures in
    let spaces = rw (whole_fits c.in_ok-column.column c.in_ok-column.ensures.below) at c.write_spaces.ensures in
    does_then _ (does_yielded c.in_ok-column.ensures.whole) (does_then _ (does_yielded let_in) spaces)
