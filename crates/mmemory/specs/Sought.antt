-- SPDX-License-Identifier: Apache-2.0
-- What a search for one row says.
use Rattle.std.specs.Prelude.{◌≡◌, ◌⊎◌, ◌+◌, ◌<◌, ◌≤◌, Bool, true, false, cond, [], length}
use Rattle.mmemory.specs.declared.tree.Tree.{Tree}
use Rattle.mmemory.specs.declared.place.Place.{Place}
use Rattle.mmemory.specs.declared.probe.Probe.{Probe}
use Rattle.mmemory.specs.Nest.{before, after, after_row, rows_at}
use Rattle.mmemory.specs.Plain.{tree_nest}
use Rattle.mmemory.specs.Probe.{passes, meets, Splits, Skips}

-- the place of what is sought, where it is or would be
pub record IsSought (t : Tree) (probe : Probe) (p : Place) (hit : Bool) : Type 0 where
  pub splits : Splits (passes probe) (before (tree_nest t) p) (after (tree_nest t) p)
  pub skips : Skips (meets probe) (after (tree_nest t) p) (after_row (tree_nest t) p (cond hit (p.row + 1) p.row)) hit
  pub chunk : (p.chunk < length (tree_nest t)) ⊎ ((tree_nest t ≡ []) × (hit ≡ false))
  pub row : p.row ≤ length (rows_at (tree_nest t) p)
  pub there : hit ≡ true → p.row < length (rows_at (tree_nest t) p)
