-- SPDX-License-Identifier: Apache-2.0
use Rattle.std.proofs.Common.{sym}
use Rattle.mscan.proofs.NameRuns.{name_length, name_reads, name_is}
use Rattle.mscan.proofs.runs.name_bytes.Goals as goal

pub slice_bounds-result-end : goal.slice_bounds-result-end
slice_bounds-result-end c = name_length c.in_ok-first.ensures.cases.0 c.run.ensures.run

pub returns-clause-name : goal.returns-clause-name
returns-clause-name c = rw c.run.ensures.rest (sym (name_reads c.in_ok-first.ensures.cases.0 c.run.ensures.run (sym c.if-not-has.ensures) c.if-tail-gt-MAX_NAME_REST.false))

pub returns-clause-is_name : goal.returns-clause-is_name
returns-clause-is_name c = name_is c.in_ok-first.ensures.cases.0 c.run.ensures.run (sym c.if-not-has.ensures) c.if-tail-gt-MAX_NAME_REST.false
