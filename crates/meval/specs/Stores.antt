-- SPDX-License-Identifier: Apache-2.0
-- A fault of a store as a code of the program.
use Rattle.mnodes.specs.declared.store.StoreFault.{StoreFault}
use Rattle.mnodes.specs.declared.store.StoreFault.TheVariants as fault
use Rattle.moperator.specs.declared.code.Code.{Code}
use Rattle.moperator.specs.declared.code.Code.TheVariants.{Zmem, Zstore}

abbrev pub store_code : StoreFault → Code
store_code fault.Memory = Zmem
store_code fault.Store = Zstore
