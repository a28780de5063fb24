-- SPDX-License-Identifier: Apache-2.0
use Rattle.mparse.proofs.ParseWords.{routine_line_tree, routine_line_at, spell_routine_line, well_routine_line, reads_its_routine_tree}
use Rattle.mparse.proofs.WholeTexts.{is_tree}
use Rattle.mparse.proofs.routine_line.parse_routine_line.Goals as goal

pub returns-clause-tree : goal.returns-clause-tree
returns-clause-tree c = is_tree routine_line_tree routine_line_at spell_routine_line well_routine_line reads_its_routine_tree c.args.text.now c.routine_line.result c.routine_line.ensures.read
