-- SPDX-License-Identifier: Apache-2.0
-- What a job asks for that names an account.
use Rattle.std.proofs.Common.{◌≡◌, ℕ, Option, Some}
use Rattle.std.specs.Prelude.{string_bytes}
use Rattle.mspec.specs.Access.{Account, Settings, account_named, name_at}
use Rattle.mjob.specs.declared.jobs.Job.TheVariants.{Run}
use Rattle.mjob.specs.declared.jobs.Store.{Store}
use Rattle.mhost.specs.Asked.{IsTask, HasAccount}
use Rattle.mhost.specs.declared.tasks.Task.TheVariants as task

module _ (accounts : Settings) (settings : _) (store : Store) (only : Option _) (name : _) (is : only ≡ Some name) where
  pub asks_to_tell : (place : ℕ) → name_at accounts place ≡ string_bytes name → IsTask (Run settings store only) accounts (task.Tell place)
  asks_to_tell place named = rw is named

  pub names_account : (account : Account) × (account_named accounts (string_bytes name) ≡ Some account) → HasAccount (Run settings store only) accounts
  names_account there = rw is there
