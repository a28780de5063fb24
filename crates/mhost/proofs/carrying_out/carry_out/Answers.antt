-- SPDX-License-Identifier: Apache-2.0
use Rattle.mhost.proofs.HostWords.{refl, inl, inr}
use Rattle.mhost.proofs.Known.{known}
use Rattle.mhost.proofs.carrying_out.carry_out.Goals as goal

pub returns-in-Err-clause-carries : goal.returns-in-Err-clause-carries
returns-in-Err-clause-carries g c =
    let err = c.in-Err.ensures.err in
    inl (inl (rw c.settings_path.ensures at err), (refl, refl))

pub returns-in-Err-read_settings-clause-carries : goal.returns-in-Err-read_settings-clause-carries
returns-in-Err-read_settings-clause-carries g c =
    let ok = c.in-Ok.ensures.ok in
    let err = c.in-Err-read_settings.ensures.err in
    inl (inr (inl (c.in-Ok.document.items, rw c.settings_path.ensures at ok, rw c.as_slice.ensures.value at err)), (refl, refl))

pub returns-in-Err-task_of-clause-carries : goal.returns-in-Err-task_of-clause-carries
returns-in-Err-task_of-clause-carries g c =
    let ok = c.in-Ok.ensures.ok in
    let read = c.in-Ok-read_settings.ensures.ok in
    let err = c.in-Err-task_of.ensures.err in
    inl (inr (inr (known _ _ _ c.in-Ok.document.items (rw c.settings_path.ensures at ok) c.in-Ok-read_settings.settings (rw c.as_slice.ensures.value at read), err.0, err.1)), (refl, refl))

pub returns-clause-carries : goal.returns-clause-carries
returns-clause-carries g c =
    let ok = c.in-Ok.ensures.ok in
    let read = c.in-Ok-read_settings.ensures.ok in
    let works = c.in_store.ensures.works in
    inr (record {
      known = known _ _ _ c.in-Ok.document.items (rw c.settings_path.ensures at ok) c.in-Ok-read_settings.settings (rw c.as_slice.ensures.value at read);
      account = c.in-Ok-task_of.ensures.account;
      asks = c.in-Ok-task_of.task;
      of_job = c.in-Ok-task_of.ensures.task;
      works = rw c.store_named.ensures at works;
    })
