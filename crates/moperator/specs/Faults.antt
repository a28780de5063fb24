-- SPDX-License-Identifier: Apache-2.0
-- The codes of texts that were not made, and of divisions.
use Rattle.mnum.specs.declared.num.ArithFault.{ArithFault}
use Rattle.mnum.specs.declared.num.ArithFault.TheVariants as arith
use Rattle.mtext.specs.declared.fault.TextFault.{TextFault}
use Rattle.mtext.specs.declared.fault.TextFault.TheVariants as fault
use Rattle.moperator.specs.declared.code.Code.{Code}
use Rattle.moperator.specs.declared.code.Code.TheVariants.{M2, M9, Zarg, Zlong, Zmem, Zover}

abbrev pub fault_code : TextFault → Code
fault_code fault.Arg = Zarg
fault_code fault.Format = M2
fault_code fault.TooLong = Zlong
fault_code fault.Memory = Zmem

abbrev pub division_code : ArithFault → Code
division_code arith.Zero = M9
division_code arith.Over = Zover
