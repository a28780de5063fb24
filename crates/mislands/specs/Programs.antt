-- SPDX-License-Identifier: Apache-2.0
-- How the program ends: its exit status, with what it wrote by then.
use Rattle.std.specs.Prelude.{◌≡◌, ◌≢◌, ◌⊎◌, ℕ, List, [], Option, Result, Ok, Err, IfSome, String}
use Rattle.std.specs.Io.KnownBytes.{Appends}
use Rattle.std.specs.declared.alloc.Global.{Global}
use Rattle.mspec.specs.Node.{Text}
use Rattle.mgrant.specs.Reading.{IsRefused}
use Rattle.mgrant.specs.declared.fault.SettingsFault.{SettingsFault}
use Rattle.mgrant.specs.declared.fault.SettingsFault.TheVariants as settings_fault
use Rattle.mislands.specs.Listing.{IsListing}
use Rattle.mislands.specs.declared.fault.ListFault.{ListFault}
use Rattle.mislands.specs.declared.fault.ListFault.TheVariants as fault

-- some document is the whole input
abbrev pub IsInput : Option Text → Text → Type 0
IsInput left document = IfSome left (λ all. document ≡ all)

-- why there is no document
abbrev pub NoDocument : ListFault → Type 0
NoDocument fault.Unread = Unit {0}
NoDocument (fault.Settings other) = other ≡ settings_fault.Memory
NoDocument fault.Write = ⊥

-- why a document has no islands to be listed
abbrev pub NoListing : Option Text → SettingsFault → Type 0
NoListing left other = (other ≡ settings_fault.Memory) ⊎ ((document : Text) × IsInput left document × IsRefused document other)

-- the output got the lines of the islands of the settings that the input gives; or it is as it was, unless it was being written
abbrev pub Lists : {O : Type 0} → (left held held' : Option Text) → (output output' : O) → Result (Unit {0}) ListFault → Type 0
Lists left held held' output output' (Ok done) = (document : Text) × IsInput left document × (text : Text) × IsListing document text × Appends held held' text
Lists left held held' output output' (Err fault.Unread) = output' ≡ output
Lists left held held' output output' (Err (fault.Settings other)) = (output' ≡ output) × NoListing left other
Lists left held held' output output' (Err fault.Write) = Unit {0}

abbrev pub status_of : Result (Unit {0}) ListFault → ℕ
status_of (Ok done) = 0
status_of (Err fault.Unread) = 3
status_of (Err (fault.Settings other)) = 3
status_of (Err fault.Write) = 5

-- there are words, and nothing is written; or there is none, and the status is that of what it came to
abbrev pub Ends : {O : Type 0} → List (String Global) → (left held held' : Option Text) → (output output' : O) → ℕ → Type 0
Ends words left held held' output output' status =
    ((words ≢ []) × (status ≡ 2) × (output' ≡ output)) ⊎ ((words ≡ []) × (outcome : Result (Unit {0}) ListFault) × Lists left held held' output output' outcome × (status ≡ status_of outcome))
