-- SPDX-License-Identifier: Apache-2.0
-- The settings of the document that the words name.
use Rattle.mhost.proofs.HostWords.{◌≡◌, Some, Text, IsRead, Settings}
use Rattle.mjob.specs.declared.jobs.Job.{Job}
use Rattle.mhost.specs.Asked.{settings_path}
use Rattle.mhost.specs.Programs.{Around, Tellers, HasSettings}

abbrev pub known : (tell : Tellers) (around : Around) (asked : Job) (document : Text) → (tell.documents → around.document (settings_path asked) ≡ Some document)
    → (settings : Settings) → IsRead document settings → HasSettings tell around asked
known tell around asked document of_path settings of_document = record { document = document; of_path = of_path; settings = settings; of_document = of_document }
