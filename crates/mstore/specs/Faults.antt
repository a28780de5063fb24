-- SPDX-License-Identifier: Apache-2.0
-- A fault of a store, met while a table is opened.
use Rattle.mnodes.specs.declared.store.StoreFault.{StoreFault}
use Rattle.mnodes.specs.declared.store.StoreFault.TheVariants as store
use Rattle.mstore.specs.declared.open_fault.OpenFault.{OpenFault}
use Rattle.mstore.specs.declared.open_fault.OpenFault.TheVariants.{Store, Memory}

abbrev pub opening_fault : StoreFault → OpenFault
opening_fault store.Memory = Memory
opening_fault store.Store = Store
