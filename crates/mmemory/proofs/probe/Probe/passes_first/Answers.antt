-- SPDX-License-Identifier: Apache-2.0
use Rattle.mmemory.proofs.MemoryLaws.{[], ap, ◌∙◌, chunk_rows, passes, first_of}
use Rattle.mmemory.proofs.probe.Probe.passes_first.Goals as goal

pub returns : goal.returns
returns c = c.passes.ensures ∙ ap (passes c.args.self) (first_of (chunk_rows c.args.chunk.now) c.index.result.now [] c.args.chunk.now.some c.index.ensures)
