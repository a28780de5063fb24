-- SPDX-License-Identifier: Apache-2.0
-- The subscript by which a node is below another.
use Rattle.std.specs.Prelude.{Bool, false, Option, Some, None, if◌then◌else◌}
use Rattle.mspec.specs.Globals.{is_beside}
use Rattle.mspec.specs.Node.{Text, Node}
use Rattle.mspec.specs.Trees.{child_of}

-- there is one, and it passes the test
abbrev pub passes : (Text → Bool) → Option Text → Bool
passes p None = false
passes p (Some x) = p x

-- the subscript of m that comes next after those of n, if m is below n
abbrev pub child_under : Node → Node → Option Text
child_under n m = if is_beside n m then child_of n.subscripts m.subscripts else None
