-- SPDX-License-Identifier: Apache-2.0
-- What the words of a command line name.
use Rattle.std.specs.Prelude.{◌≡◌, Some, None, string_bytes}
use Rattle.mspec.specs.Act.{Text}
use Rattle.mspec.specs.Access.{Account, Settings, account_named, name_at}
use Rattle.mjob.specs.declared.jobs.Job.{Job}
use Rattle.mjob.specs.declared.jobs.Job.TheVariants.{Run, Serve}
use Rattle.mjob.specs.declared.jobs.Store.{Store}
use Rattle.mhost.specs.declared.tasks.Task.{Task}
use Rattle.mhost.specs.declared.tasks.Task.TheVariants as task

-- the path of the settings
abbrev pub settings_path : Job → Text
settings_path (Run settings store only) = string_bytes settings
settings_path (Serve settings store port connections) = string_bytes settings

abbrev pub store_named : Job → Store
store_named (Run settings store only) = store
store_named (Serve settings store port connections) = store

-- ---- the account that is named, if one is

abbrev pub HasAccount : Job → Settings → Type 0
HasAccount (Run settings store (Some name)) accounts = (account : Account) × (account_named accounts (string_bytes name) ≡ Some account)
HasAccount other accounts = Unit {0}

abbrev pub LacksAccount : Job → Settings → Type 0
LacksAccount (Run settings store (Some name)) accounts = account_named accounts (string_bytes name) ≡ None
LacksAccount other accounts = ⊥

-- whether a job reports nothing while it is carried out: one that serves connections reports those that broke
abbrev pub IsQuiet : Job → Type 0
IsQuiet (Run settings store only) = Unit {0}
IsQuiet (Serve settings store port connections) = ⊥

abbrev pub IsQuietTask : Task → Type 0
IsQuietTask (task.Serve number count) = ⊥
IsQuietTask other = Unit {0}

-- what a job asks for, by these settings
abbrev pub IsTask : Job → Settings → Task → Type 0
IsTask (Run settings store None) accounts task.Answer = Unit {0}
IsTask (Run settings store (Some name)) accounts (task.Tell place) = name_at accounts place ≡ string_bytes name
IsTask (Serve settings store port connections) accounts (task.Serve number count) = (number ≡ port) × (count ≡ connections)
IsTask job accounts other = ⊥
