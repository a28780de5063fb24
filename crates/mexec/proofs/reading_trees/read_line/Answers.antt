-- SPDX-License-Identifier: Apache-2.0
use Rattle.mexec.proofs.PlayedTexts.{line_played}
use Rattle.mexec.proofs.reading_trees.read_line.Goals as goal

pub returns-in-Ok-clause-played : goal.returns-in-Ok-clause-played
returns-in-Ok-clause-played c = line_played _ _ c.in-Ok.line.value c.requires c.in-Ok.ensures.tree c.in-Ok.ensures.counted
