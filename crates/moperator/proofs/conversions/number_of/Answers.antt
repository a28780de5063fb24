-- SPDX-License-Identifier: Apache-2.0
use Rattle.mvalue.proofs.Numbers.{number_again}
use Rattle.moperator.proofs.OperatorWords.{Text, Ok, subst, as_number, Yields, units, fault_of, Code}
use Rattle.moperator.proofs.Numbers.{number_is}
use Rattle.moperator.proofs.conversions.number_of.Goals as goal

pub returns-in-Number-clause-number : goal.returns-in-Number-clause-number
returns-in-Number-clause-number c =
    let is = rw c.in-Number.is at c.kind.ensures in
    subst (λ (x : Text). Yields {E = Code} fault_of (as_number x) units (Ok c.in-Number.number)) is (number_is _ c.in-Number.number (number_again c.in-Number.number))
