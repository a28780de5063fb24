-- SPDX-License-Identifier: Apache-2.0
-- What is reported of a fault, on the standard error.
use Rattle.std.specs.Prelude.{◌≡◌, [], ◌∷◌, ◌++◌, Bool, false, Option, Result, Ok, Err, codes}
use Rattle.mspec.specs.Act.{Text}
use Rattle.mgrant.specs.declared.fault.SettingsFault.{SettingsFault}
use Rattle.mgrant.specs.declared.fault.SettingsFault.TheVariants as settings
use Rattle.mstore.specs.declared.open_fault.OpenFault.{OpenFault}
use Rattle.mstore.specs.declared.open_fault.OpenFault.TheVariants as opening
use Rattle.mwire.specs.Progress.{FrontSent}
use Rattle.mwire.specs.Watched.{inner_of, WriteFailed}
use Rattle.mwire.specs.declared.watched.Watched.{Watched}
use Rattle.mwire.specs.declared.fault.WireFault.{WireFault}
use Rattle.mwire.specs.declared.fault.WireFault.TheVariants as wire
use Rattle.mhost.specs.declared.fault.RunFault.{RunFault}
use Rattle.mhost.specs.declared.fault.RunFault.TheVariants as early

abbrev pub settings_fault_text : SettingsFault → Text
settings_fault_text settings.Toml = codes "mserve: settings: Toml"
settings_fault_text settings.Shape = codes "mserve: settings: Shape"
settings_fault_text settings.Name = codes "mserve: settings: Name"
settings_fault_text settings.Terminal = codes "mserve: settings: Terminal"
settings_fault_text settings.Steps = codes "mserve: settings: Steps"
settings_fault_text settings.Grant = codes "mserve: settings: Grant"
settings_fault_text settings.Memory = codes "mserve: settings: Memory"

abbrev pub store_fault_text : OpenFault → Text
store_fault_text opening.BadKey = codes "mserve: store: BadKey"
store_fault_text opening.BadVersion = codes "mserve: store: BadVersion"
store_fault_text opening.Store = codes "mserve: store: Store"
store_fault_text opening.Memory = codes "mserve: store: Memory"

abbrev pub wire_fault_text : WireFault → Text
wire_fault_text wire.Read = codes "mserve: wire: Read"
wire_fault_text wire.Write = codes "mserve: wire: Write"
wire_fault_text wire.Memory = codes "mserve: wire: Memory"

abbrev pub fault_text : RunFault → Text
fault_text early.Unread = codes "mserve: settings: Read"
fault_text (early.Settings fault) = settings_fault_text fault
fault_text early.NoAccount = codes "mserve: settings: Only"
fault_text (early.Store fault) = store_fault_text fault
fault_text early.Listen = codes "mserve: wire: Listen"
fault_text early.Accept = codes "mserve: wire: Accept"
fault_text (early.Wire fault) = wire_fault_text fault

-- the line of a fault was written; or a front of it, if a write failed or took nothing
pub record IsReported {E : Type 0} (held : E → Option Text) (fault : RunFault) (errors errors' : Watched E) : Type 0 where
  pub whole : Bool
  pub sent : FrontSent (fault_text fault ++ 10 ∷ []) (held (inner_of errors)) (held (inner_of errors')) whole
  pub broke : whole ≡ false → WriteFailed errors errors'

-- and nothing of a job that is done
abbrev pub Reports : {E : Type 0} → (E → Option Text) → Result (Unit {0}) RunFault → Watched E → Watched E → Type 0
Reports held (Ok done) errors errors' = errors' ≡ errors
Reports held (Err fault) errors errors' = IsReported held fault errors errors'
