-- SPDX-License-Identifier: Apache-2.0
-- A tree, as what takes its changes back sees it.
use Rattle.std.specs.Prelude.{ℕ, zero, suc, List, [], map, set}
use Rattle.std.specs.List.{insert, remove}
use Rattle.sqlite_value.specs.Order.{Row}
use Rattle.sqlite_trees.specs.declared.store.Shape.{Shape}
use Rattle.sqlite_trees.specs.declared.store.Shape.TheVariants.{Absent}
use Rattle.sqlite_trees.specs.Listing.{Heading}
use Rattle.mmemory.specs.declared.chunk.Bare.{Bare}
use Rattle.mmemory.specs.declared.chunk.Chunk.{Chunk}
use Rattle.mmemory.specs.declared.tree.Tree.{Tree}
use Rattle.mmemory.specs.declared.step.Step.{Step}
use Rattle.mmemory.specs.declared.step.Step.TheVariants.{DropRow, PutRow, SetRow, DropChunk, PutChunk, Join, Label}
use Rattle.mmemory.specs.Lists.{joined, put_in, taken, over, joined_at}

abbrev pub chunk_rows : Chunk → List Row
chunk_rows c = c.rows.items

abbrev pub bare_rows : Bare → List Row
bare_rows c = c.rows.items

abbrev pub nest : List Chunk → List (List Row)
nest chunks = map chunk_rows chunks

pub record Plain : Type 0 where
  pub shape : Shape
  pub reals : ℕ
  pub described : Row
  pub chunks : List (List Row)
  pub spare : ℕ

abbrev pub plain : Tree → Plain
plain t = record { shape = t.shape; reals = t.reals; described = t.described; chunks = nest t.chunks.items; spare = t.spare }

abbrev pub no_plain : Plain
no_plain = record { shape = Absent; reals = 0; described = []; chunks = []; spare = 0 }

abbrev pub heading : Plain → Heading
heading p = (p.shape, p.reals, p.described)

abbrev pub plain_rows : Plain → List Row
plain_rows p = joined p.chunks

abbrev pub tree_nest : Tree → List (List Row)
tree_nest t = nest t.chunks.items

abbrev pub tree_rows : Tree → List Row
tree_rows t = joined (nest t.chunks.items)

-- the tree with other chunks
abbrev pub with_chunks : Plain → List (List Row) → Plain
with_chunks p chunks = record { shape = p.shape; reals = p.reals; described = p.described; chunks = chunks; spare = p.spare }

-- a chunk that comes back, if one may
abbrev pub put_back : ℕ → List Row → ℕ → Plain → Plain
put_back k rows zero p = p
put_back k rows (suc left) p = record { shape = p.shape; reals = p.reals; described = p.described; chunks = insert p.chunks k rows; spare = left }

abbrev pub undone_step : Step → Plain → Plain
undone_step (DropRow k at) p = with_chunks p (over k (taken at) p.chunks)
undone_step (PutRow k at row) p = with_chunks p (over k (put_in at row) p.chunks)
undone_step (SetRow k at row) p = with_chunks p (over k (λ rows. set rows at row) p.chunks)
undone_step (DropChunk k) p = with_chunks p (remove p.chunks k)
undone_step (PutChunk k it) p = put_back k (bare_rows it) p.spare p
undone_step (Join k) p = with_chunks p (joined_at k p.chunks)
undone_step (Label reals row) p = record { shape = p.shape; reals = reals; described = row; chunks = p.chunks; spare = p.spare }
