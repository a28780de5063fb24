-- SPDX-License-Identifier: Apache-2.0
use Rattle.mstore.proofs.Words.{state}
use Rattle.mstore.proofs.Versions.{version_found, version_other}
use Rattle.mstore.proofs.opening.read_version.Goals as goal

pub returns-clause-found : goal.returns-clause-found
returns-clause-found g c sure calm =
    version_found (state g.S.Store c.args.conn.now).now c.in-Some.row c.version_in.result (rw c.in-Some.is at c.in_ok-row.ensures.found sure calm) c.version_in.ensures.found c.version_in.ensures.id

pub returns-clause-version : goal.returns-clause-version
returns-clause-version g c sure calm bad =
    version_other (state g.S.Store c.args.conn.now).now c.in-Some.row calm.schema_is (rw c.in-Some.is at c.in_ok-row.ensures.found sure calm) (c.version_in.ensures.other bad)
