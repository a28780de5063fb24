-- SPDX-License-Identifier: Apache-2.0
-- The words of the crates below that many contracts of this crate have, in one place.
pub use Rattle.mspec.specs.Act.{give_some}
pub use Rattle.mspec.specs.Code.{Zsyntax}
pub use Rattle.mgrammar.specs.Commands.{form_of}
pub use Rattle.mgrammar.specs.Languages.{args_in, line_in, routine_line_in}
pub use Rattle.mmeaning.specs.Expression.{an_indirection_free, indirected, inside}
pub use Rattle.mmeaning.specs.Frames.{Levels, Lists, frame}
pub use Rattle.mmeaning.specs.Levels.{commands_of, stays}
pub use Rattle.mmeaning.specs.LineMeaning.{context}
pub use Rattle.mmeaning.specs.Yields.{Yields}
pub use Rattle.mcommand.specs.Does.{DoesAt}
pub use Rattle.meval.specs.Evaluates.{depth_of}
pub use Rattle.moperator.specs.Codes.{fault_of}
pub use Rattle.mtree.specs.Tree.{arg_tree, command_tree, condition_tree, entry_tree, expr_tree, keyword_tree, line_tree, primary_tree, routine_line_tree}
