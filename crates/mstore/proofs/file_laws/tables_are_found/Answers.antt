-- SPDX-License-Identifier: Apache-2.0
use Rattle.mstore.proofs.InFiles.{tables_found}

pub returns : Rattle.mstore.proofs.file_laws.tables_are_found.Goals.returns
returns c = tables_found
