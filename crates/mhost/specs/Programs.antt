-- SPDX-License-Identifier: Apache-2.0
-- **What the program does**: from the words of its command line to its exit status.
use Rattle.std.specs.Prelude.{◌≡◌, ◌≢◌, ◌⊎◌, ℕ, List, [], Option, Some, None, Result, Ok, Err, string_bytes}
use Rattle.std.specs.FinMap.{empty}
use Rattle.clap.specs.Words.{fault_of}
use Rattle.mspec.specs.Act.{Text}
use Rattle.mspec.specs.Globals.{Globals}
use Rattle.mspec.specs.Access.{Settings}
use Rattle.mmeaning.specs.History.{opening}
use Rattle.mgrant.specs.Reading.{IsRead}
use Rattle.mjob.specs.CommandLine.{mserve_app}
use Rattle.mjob.specs.Asked.{IsJob}
use Rattle.mjob.specs.declared.jobs.Job.{Job}
use Rattle.mjob.specs.declared.jobs.Store.{Store}
use Rattle.mjob.specs.declared.jobs.Store.TheVariants as store
use Rattle.mnodes.specs.declared.store.NodeStore.{Ghosts}
use Rattle.mworld.specs.declared.world.World.{World}
use Rattle.mworld.specs.View.{settings_of, world_of, doubt_of}
use Rattle.mwire.specs.declared.watched.Watched.{Watched}
use Rattle.mhost.specs.Asked.{settings_path, store_named, HasAccount, LacksAccount, IsQuiet, IsTask}
use Rattle.mhost.specs.Faults.{AreUntouched, IsMemoryFault, IsStoreFault, NoDocument, NoSettings, status_of}
use Rattle.mhost.specs.Reports.{Reports}
use Rattle.mhost.specs.Works.{AtPorts, Does}
use Rattle.mhost.specs.declared.fault.RunFault.{RunFault}
use Rattle.mhost.specs.declared.fault.RunFault.TheVariants as early
use Rattle.mhost.specs.declared.tasks.Task.{Task}

-- what is around a run of the program, as far as it tells: the documents and the stores in files by their paths, and the ports
pub record Around : Type 0 where
  pub document : Text → Option Text
  pub stored : Text → Option Globals
  pub ports : AtPorts

-- surroundings that tell nothing
abbrev pub untold : Around
untold = record { document = λ _. None; stored = λ _. None; ports = record { waiting = λ _. None; answered = λ _. [] } }

-- What is known of the two files of the store that is named, whatever their disk does: which globals an opening may find in them; whether each
-- answer of the disk was true, up to the closing, and they have the two tables of a store and no other; and which globals the closing left.
pub record OnDisk : Type 1 where
  pub finds : Globals → Type 0
  pub clean : Type 0
  pub leaves : Globals → Type 0

-- whether each of these tells what it holds
pub record Tellers : Type 1 where
  pub documents : Type 0
  pub files : Type 0
  pub ports : Type 0

-- The document is the one at the path that the words give, and these are its settings.
pub record HasSettings (tell : Tellers) (around : Around) (asked : Job) : Type 0 where
  pub document : Text
  pub of_path : tell.documents → around.document (settings_path asked) ≡ Some document
  pub settings : Settings
  pub of_document : IsRead document settings

abbrev pub nothing_told : Tellers
nothing_told = record { documents = ⊥; files = ⊥; ports = ⊥ }

module _ {M F I O : Type 0} (memory : Ghosts M) (file : Ghosts F) (left : I → Option Text) (held : O → Option Text) where
  -- ---- the store that the words name

  module _ (files_tell : Type 0) (stored stored' : Text → Option Globals) (disk : OnDisk) where
    -- What it holds as the run begins, and that there is no doubt of it: nothing in memory, where it is known to be sound; else what the file
    -- holds, if that is known.
    abbrev pub Begins : Store → Globals → (doubt : ℕ) → Type 0
    Begins store.Memory globals doubt = memory.sound × (doubt ≡ 0) × (globals ≡ empty)
    Begins (store.File path) globals doubt = files_tell → (doubt ≡ 0) × (stored (string_bytes path) ≡ Some globals)

    -- and what it holds after it: these globals; and all other files hold what they held
    abbrev pub Leaves : Store → Globals → Type 0
    Leaves store.Memory globals = (other : Text) → stored' other ≡ stored other
    Leaves (store.File path) globals = files_tell → (stored' (string_bytes path) ≡ Some globals)
        × ((other : Text) → other ≢ string_bytes path → stored' other ≡ stored other)

    -- of a store in a file, what its files hold
    abbrev pub Finds : Store → Globals → Type 0
    Finds store.Memory globals = Unit {0}
    Finds (store.File path) globals = disk.finds globals

    abbrev pub LeavesBehind : Store → Globals → Type 0
    LeavesBehind store.Memory globals = Unit {0}
    LeavesBehind (store.File path) globals = disk.clean → disk.leaves globals

    abbrev pub IsSure : Store → (doubt : ℕ) → Type 0
    IsSure store.Memory doubt = Unit {0}
    IsSure (store.File path) doubt = disk.clean → doubt ≡ 0

    -- In a world over the store that is named, which begins with the store's globals and by these settings, what is asked for was done, and
    -- the store has the globals that it left. If there is no doubt of the store, its files held what it begins with. If each answer of their disk
    -- was true, up to the closing, there is none, and they hold what it left.
    pub record WorksOver {S : Type 0} (g : Ghosts S) (ports_tell : Type 0) (ports ports' : AtPorts) (named : Store) (settings : Settings) (asks : Task)
        (input input' : Watched I) (output output' : Watched O) (result : Result (Unit {0}) RunFault) : Type 0 where
      pub globals : Globals
      pub old : World S g
      pub new : World S g
      pub begins : Begins named globals (doubt_of g old)
      pub finds : doubt_of g old ≡ 0 → Finds named globals
      pub by : settings_of old ≡ settings
      pub opens : world_of g old ≡ opening globals
      pub does : Does g old new left held ports_tell ports ports' input input' output output' asks result
      pub leaves : Leaves named (world_of g new).shared.globals
      pub sure : IsSure named (doubt_of g new)
      pub remains : LeavesBehind named (world_of g new).shared.globals

    abbrev pub Works : (ports_tell : Type 0) (ports ports' : AtPorts) (named : Store) → Settings → Task → Watched I → Watched I → Watched O → Watched O → Result (Unit {0}) RunFault → Type 0
    Works ports_tell ports ports' store.Memory settings asks input input' output output' result =
        WorksOver memory ports_tell ports ports' store.Memory settings asks input input' output output' result
    Works ports_tell ports ports' (store.File path) settings asks input input' output output' result =
        WorksOver file ports_tell ports ports' (store.File path) settings asks input input' output output' result

    -- why there is no store to work over
    abbrev pub NoStore : Store → RunFault → Type 0
    NoStore store.Memory fault = IsMemoryFault fault
    NoStore (store.File path) fault = IsStoreFault fault

    abbrev pub LacksStore : Store → Result (Unit {0}) RunFault → Type 0
    LacksStore named (Ok done) = ⊥
    LacksStore named (Err fault) = NoStore named fault

    -- there is no store, and nothing was asked of the devices; or it was worked over
    abbrev pub InStore : (ports_tell : Type 0) (ports ports' : AtPorts) (named : Store) → Settings → Task → Watched I → Watched I → Watched O → Watched O → Result (Unit {0}) RunFault → Type 0
    InStore ports_tell ports ports' named settings asks input input' output output' result =
        (LacksStore named result × AreUntouched input input' output output')
        ⊎ Works ports_tell ports ports' named settings asks input input' output output' result

  -- ---- the job

  module _ (tell : Tellers) (around around' : Around) (disk : OnDisk) where
    -- What was found before the store was opened: the fault of the document, that of its settings, or that they lack the account that is named.
    abbrev pub EndsEarly : Job → RunFault → Type 0
    EndsEarly asked fault =
        NoDocument tell.documents (around.document (settings_path asked)) fault
        ⊎ (((document : Text) × (tell.documents → around.document (settings_path asked) ≡ Some document) × NoSettings document fault)
        ⊎ ((known : HasSettings tell around asked) × (fault ≡ early.NoAccount) × LacksAccount asked known.settings))

    abbrev pub HasEndedEarly : Job → Result (Unit {0}) RunFault → Type 0
    HasEndedEarly asked (Ok done) = ⊥
    HasEndedEarly asked (Err fault) = EndsEarly asked fault

    -- By the settings of the document that is named, and over the store that is named, what is asked for was done.
    pub record Carried (asked : Job) (input input' : Watched I) (output output' : Watched O) (result : Result (Unit {0}) RunFault) : Type 0 where
      pub known : HasSettings tell around asked
      pub account : HasAccount asked known.settings
      pub asks : Task
      pub of_job : IsTask asked known.settings asks
      pub works : InStore tell.files around.stored around'.stored disk tell.ports around.ports around'.ports (store_named asked) known.settings asks input input' output output' result

    abbrev pub CarriesOut : Job → Watched I → Watched I → Watched O → Watched O → Result (Unit {0}) RunFault → Type 0
    CarriesOut asked input input' output output' result =
        (HasEndedEarly asked result × AreUntouched input input' output output') ⊎ Carried asked input input' output output' result

    -- ---- the program

    -- The words ask for a job, it was carried out, and the status is that of what it came to.
    pub record Finishes (words : List Text) (input input' : Watched I) (output output' : Watched O) (status : ℕ) : Type 0 where
      pub asked : Job
      pub outcome : Result (Unit {0}) RunFault
      pub taken : fault_of mserve_app words ≡ []
      pub of_words : IsJob words asked
      pub carried : CarriesOut asked input input' output output' outcome
      pub status_is : status ≡ status_of outcome

    -- And its fault was reported, if it had one: first, by a job that serves connections, those of connections that broke.
    pub record FinishesWith {E : Type 0} (written : E → Option Text) (words : List Text) (input input' : Watched I) (output output' : Watched O) (errors errors' : Watched E) (status : ℕ) : Type 0 where
      pub finishes : Finishes words input input' output output' status
      pub between : Watched E
      pub quiet : IsQuiet finishes.asked → between ≡ errors
      pub reported : Reports written finishes.outcome between errors'

    -- The words are refused, or there was no memory for them, and nothing was asked of the devices; or a job is done.
    abbrev pub Ends : {E : Type 0} → (E → Option Text) → List Text → Watched I → Watched I → Watched O → Watched O → Watched E → Watched E → ℕ → Type 0
    Ends written words input input' output output' errors errors' status =
        ((status ≡ 2) × AreUntouched input input' output output') ⊎ FinishesWith written words input input' output output' errors errors' status

  -- the same over the system's files and ports, but for what is reported: they tell nothing but what is known of the disk
  abbrev pub EndsOverSystem : OnDisk → List Text → Watched I → Watched I → Watched O → Watched O → ℕ → Type 0
  EndsOverSystem disk words input input' output output' status =
      ((status ≡ 2) × AreUntouched input input' output output') ⊎ Finishes nothing_told untold untold disk words input input' output output' status
