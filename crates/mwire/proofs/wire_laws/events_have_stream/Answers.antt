-- SPDX-License-Identifier: Apache-2.0
use Rattle.mwire.proofs.EventLines.{events_have_stream}

pub returns : Rattle.mwire.proofs.wire_laws.events_have_stream.Goals.returns
returns c = events_have_stream
