-- SPDX-License-Identifier: Apache-2.0
use Rattle.sqlite.specs.Files.{file_state, over_files}
use Rattle.sqlite.specs.WalFiles.{image_at}
use Rattle.mstore.proofs.Doubting.{clean_if, sure_before, sure_table}
use Rattle.mstore.proofs.InFiles.{finds_table}
use Rattle.mstore.proofs.files.Table+FileStore+FileFrom+S.open_file.Goals as goal

pub returns-in-Ok-adopt_file-clause-found : goal.returns-in-Ok-adopt_file-clause-found
returns-in-Ok-adopt_file-clause-found g c sure =
    let was = c.in-Ok.conn in
    let table = c.in-Ok-adopt_file.table in
    let clean = clean_if (file_state was) (sure_before (sure_table over_files table sure).1 c.in-Ok-adopt_file.ensures.order) in
    let opened = c.in-Ok.ensures.opened clean in
    finds_table (image_at g.S.Start) (file_state was) (file_state table.conn) opened.0 opened.1 (c.in-Ok.ensures.found clean) (c.in-Ok-adopt_file.ensures.opened sure)
