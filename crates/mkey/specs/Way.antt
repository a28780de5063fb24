-- SPDX-License-Identifier: Apache-2.0
-- The directions of the code.
use Rattle.mspec.specs.Trees as trees
use Rattle.mkey.specs.declared.walk.Direction.{Direction}
use Rattle.mkey.specs.declared.walk.Direction.TheVariants.{Forward, Backward}

abbrev pub way : Direction → trees.Direction
way Forward = trees.Forward
way Backward = trees.Backward
