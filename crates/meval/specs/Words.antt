-- SPDX-License-Identifier: Apache-2.0
-- The words of the crates below that many contracts of this crate have, in one place.
pub use Rattle.mspec.specs.Act.{unless}
pub use Rattle.mspec.specs.Code.{Own, Zsub}
pub use Rattle.mspec.specs.KeyBytes.{AreSubscripts, IsAccountName}
pub use Rattle.mspec.specs.Names.{IsName}
pub use Rattle.mspec.specs.Subscripts.{are_subscripts}
pub use Rattle.mspec.specs.Trees.{AreOrderSubscripts}
pub use Rattle.mgrammar.specs.Grammar.{bracket}
pub use Rattle.mmeaning.specs.Variables.{checked, ordering, replaced}
pub use Rattle.mmeaning.specs.Yields.{Yields}
pub use Rattle.moperator.specs.Codes.{fault_of}
pub use Rattle.mtree.specs.Tree.{expr_tree, operand_tree}
