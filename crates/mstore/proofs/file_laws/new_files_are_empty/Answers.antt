-- SPDX-License-Identifier: Apache-2.0
use Rattle.mstore.proofs.InFiles.{new_files}

pub returns : Rattle.mstore.proofs.file_laws.new_files_are_empty.Goals.returns
returns c = new_files
