-- SPDX-License-Identifier: Apache-2.0
use Rattle.mwire.proofs.ServedLines.{normal_streams_are_served}

pub returns : Rattle.mwire.proofs.wire_laws.normal_streams_are_served.Goals.returns
returns g c = normal_streams_are_served
