-- SPDX-License-Identifier: Apache-2.0
-- The text of a variable beside those of its nodes with subscripts.
use Rattle.std.specs.Prelude.{◌<◌, List, [], length, Option, Some, None}
use Rattle.std.specs.FinMap.{insert}
use Rattle.mspec.specs.Node.{Text}
use Rattle.mspec.specs.Trees.{Tree}
use Rattle.mkey.specs.Front.{AreSubs}

abbrev pub with_own : Option Text → Tree → Tree
with_own None t = t
with_own (Some x) t = insert t [] x

-- the subscripts of a node that is not the variable itself
abbrev pub AreSomeSubs : List Text → Type 0
AreSomeSubs xs = AreSubs xs × (0 < length xs)
