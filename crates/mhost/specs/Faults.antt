-- SPDX-License-Identifier: Apache-2.0
-- Why a run of the program ends early, and its exit status.
use Rattle.std.specs.Prelude.{◌≡◌, ◌≢◌, ◌⊎◌, ◌<◌, ℕ, length, Option, Some, None, Result, Ok, Err}
use Rattle.mspec.specs.Act.{Text}
use Rattle.mgrant.specs.Reading.{IsRefused}
use Rattle.mgrant.specs.declared.fault.SettingsFault.TheVariants as settings_fault
use Rattle.mstore.specs.declared.open_fault.OpenFault.TheVariants as opening_fault
use Rattle.mwire.specs.Watched.{ReadFailed, WriteFailed}
use Rattle.mwire.specs.declared.watched.Watched.{Watched}
use Rattle.mwire.specs.declared.fault.WireFault.{WireFault}
use Rattle.mwire.specs.declared.fault.WireFault.TheVariants.{Read, Write, Memory}
use Rattle.mhost.specs.declared.fault.RunFault.{RunFault}
use Rattle.mhost.specs.declared.fault.RunFault.TheVariants as early

-- 0: the job is done; 3: a fault of the settings; 4: one of the store; 5: one of the wire
abbrev pub status_of_fault : RunFault → ℕ
status_of_fault early.Unread = 3
status_of_fault (early.Settings fault) = 3
status_of_fault early.NoAccount = 3
status_of_fault (early.Store fault) = 4
status_of_fault early.Listen = 5
status_of_fault early.Accept = 5
status_of_fault (early.Wire fault) = 5

abbrev pub status_of : Result (Unit {0}) RunFault → ℕ
status_of (Ok done) = 0
status_of (Err fault) = status_of_fault fault

-- ---- the document and the settings

-- there is no file, or it has more than 1,000,000 bytes
abbrev pub IsUnreadable : Option Text → Type 0
IsUnreadable None = Unit {0}
IsUnreadable (Some text) = 1000000 < length text

-- why no document is read, given what its file holds, if that is known
abbrev pub NoDocument : Type 0 → Option Text → RunFault → Type 0
NoDocument tells held early.Unread = tells → IsUnreadable held
NoDocument tells held (early.Settings fault) = fault ≡ settings_fault.Memory
NoDocument tells held other = ⊥

-- why a document gives no settings
abbrev pub NoSettings : Text → RunFault → Type 0
NoSettings document (early.Settings fault) = (fault ≡ settings_fault.Memory) ⊎ IsRefused document fault
NoSettings document other = ⊥

-- ---- the store

-- a fault of a store in a file
abbrev pub IsStoreFault : RunFault → Type 0
IsStoreFault (early.Store fault) = Unit {0}
IsStoreFault other = ⊥

-- a fault of a store in memory, which has no rows that could be refused
abbrev pub IsMemoryFault : RunFault → Type 0
IsMemoryFault (early.Store fault) = (fault ≢ opening_fault.BadKey) × (fault ≢ opening_fault.BadVersion)
IsMemoryFault other = ⊥

-- ---- the devices

-- the device that a fault names broke between these two moments
abbrev pub DeviceFailed : {I O : Type 0} → Watched I → Watched I → Watched O → Watched O → WireFault → Type 0
DeviceFailed input input' output output' Read = ReadFailed input input'
DeviceFailed input input' output output' Write = WriteFailed output output'
DeviceFailed input input' output output' Memory = Unit {0}

-- nothing was asked of the devices
abbrev pub AreUntouched : {I O : Type 0} → Watched I → Watched I → Watched O → Watched O → Type 0
AreUntouched input input' output output' = (input' ≡ input) × (output' ≡ output)
