-- SPDX-License-Identifier: Apache-2.0
-- What the words of a command line ask for, by `clap`'s definition of the program's command.
use Rattle.std.specs.Prelude.{◌≡◌, ◌≢◌, ◌⊎◌, ℕ, List, Option, Some, None, codes, string_bytes, option_map, ⊤}
use Rattle.std.specs.Str.Parse.{digits_value, without_leading_plus}
use Rattle.clap.specs.Words.{IsAmong, Row, Text, fault_of, first_of, kind_of, one_of, subcommand_of}
use Rattle.mjob.specs.CommandLine.{mserve_app}
use Rattle.mjob.specs.declared.jobs.Store.{Store}
use Rattle.mjob.specs.declared.jobs.Store.TheVariants as store
use Rattle.mjob.specs.declared.jobs.Job.{Job}
use Rattle.mjob.specs.declared.jobs.Job.TheVariants.{Run, Serve}
use Rattle.mjob.specs.declared.jobs.JobFault.{JobFault}
use Rattle.mjob.specs.declared.jobs.JobFault.TheVariants as fault

-- the option has this text
abbrev pub HasText : List ℕ → List Row → Text → Type 0
HasText name rows text = first_of name rows ≡ Some text

-- the number that the option's text is
abbrev pub GivesNumber : List ℕ → List Row → ℕ → Type 0
GivesNumber name rows n = (text : Text) × (one_of name rows ≡ Some text) × (digits_value 10 (without_leading_plus text) ≡ n)

-- the text `memory` is the store in memory, and every other one a path
abbrev pub IsStore : List Row → Store → Type 0
IsStore rows store.Memory = HasText (codes "store") rows (codes "memory")
IsStore rows (store.File path) = HasText (codes "store") rows (string_bytes path) × (string_bytes path ≢ codes "memory")

abbrev pub HasRun : List Row → Job → Type 0
HasRun rows (Run settings store only) = HasText (codes "settings") rows (string_bytes settings)
    × IsStore rows store × (first_of (codes "only") rows ≡ option_map string_bytes only)
HasRun rows (Serve settings store port connections) = ⊥

abbrev pub HasServe : List Row → Job → Type 0
HasServe rows (Run settings store only) = ⊥
HasServe rows (Serve settings store port connections) = HasText (codes "settings") rows (string_bytes settings)
    × IsStore rows store × GivesNumber (codes "port") rows port × GivesNumber (codes "connections") rows connections

-- the job is what the subcommand with these options asks for
abbrev pub IsJobAt : Option (Text × List Row) → Job → Type 0
IsJobAt None job = ⊥
IsJobAt (Some (name, rows)) job = ((name ≡ codes "run") × HasRun rows job) ⊎ ((name ≡ codes "serve") × HasServe rows job)

-- the job is what `clap`'s definition of a simple command gives for the words
abbrev pub IsJob : List Text → Job → Type 0
IsJob words job = IsJobAt (subcommand_of mserve_app words) job

-- there was no memory, or the error is of a kind that the definition gives for the words
abbrev pub IsRefusal : List Text → JobFault → Type 0
IsRefusal words (fault.Line error) = IsAmong (kind_of error) (fault_of mserve_app words)
IsRefusal words fault.Memory = ⊤
