-- SPDX-License-Identifier: Apache-2.0
use Rattle.mstore.proofs.Words.{◌≡◌, subst, stored, doubt_of}
use Rattle.sqlite.specs.Files.{over_files}
use Rattle.mstore.specs.InFiles.{LeavesTable}
use Rattle.mstore.proofs.InFiles.{copied_sure, leaves_table, alone_sure_if}
use Rattle.mstore.proofs.files.Table+FileStore+D.close_file.Goals as goal

pub returns-in-Ok : goal.returns-in-Ok
returns-in-Ok g c =
    let conn = c.into_connection-conn.result in
    let is = c.into_connection-conn.ensures.conn in
    record {
      left = λ alone clean.
          let copied = c.in-Ok.ensures.copied clean in
          let sure = alone_sure_if c.args.self alone (subst (λ h. doubt_of over_files h ≡ 0) is (copied_sure conn c.in-Ok.files copied)) in
          subst (λ h. LeavesTable g.D.Disk c.in-Ok.files (stored over_files h)) is
          (leaves_table conn c.in-Ok.files (c.into_connection-conn.ensures.store sure) c.schema.ensures.live copied);
      sure =
          λ alone clean. alone_sure_if c.args.self alone (subst (λ h. doubt_of over_files h ≡ 0) is (copied_sure conn c.in-Ok.files (c.in-Ok.ensures.copied clean)));
    }
