-- SPDX-License-Identifier: Apache-2.0
use Rattle.mwire.proofs.ServedLines.{lines_have_answers}

pub returns : Rattle.mwire.proofs.wire_laws.lines_have_answers.Goals.returns
returns g c = lines_have_answers
