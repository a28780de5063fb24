-- SPDX-License-Identifier: Apache-2.0
-- All trees, and what takes their changes back.
use Rattle.std.specs.Prelude.{◌≡◌, ℕ, List, [], ◌∷◌, map, take, drop, set, get_or}
use Rattle.sqlite_trees.specs.Tree.{Trees, with_tree}
use Rattle.sqlite_trees.specs.View.{Snapshot, IsShaped}
use Rattle.sqlite_trees.specs.Listing.{Heading, shape_in}
use Rattle.sqlite_trees.specs.Log.{padded}
use Rattle.sqlite_trees.specs.Objects.{description}
use Rattle.sqlite_trees.specs.declared.schema.Object.{Object}
use Rattle.sqlite_trees.specs.Memory.{snapshot_of}
use Rattle.mmemory.specs.declared.tree.Tree.{Tree}
use Rattle.mmemory.specs.declared.undo.Undo.{Undo}
use Rattle.mmemory.specs.declared.undo.Undo.TheVariants.{Step, Put, Shorten, Version}
use Rattle.mmemory.specs.Plain.{Plain, plain, no_plain, heading, plain_rows, undone_step}

pub record State : Type 0 where
  pub trees : List Plain
  pub version : ℕ

abbrev pub state_of : List Tree → ℕ → State
state_of trees version = record { trees = map plain trees; version = version }

abbrev pub undone_one : Undo → State → State
undone_one (Step t step) s = record { trees = set s.trees t (undone_step step (get_or s.trees t no_plain)); version = s.version }
undone_one (Put t it) s = record { trees = set s.trees t (plain it.value); version = s.version }
undone_one (Shorten n) s = record { trees = take n s.trees; version = s.version }
undone_one (Version v) s = record { trees = s.trees; version = v }

-- with a log undone, the newest change first
abbrev pub undone : List Undo → State → State
undone [] s = s
undone (u ∷ log) s = undone_one u (undone log s)

abbrev pub tree_in : State → ℕ → Plain
tree_in s t = get_or s.trees t no_plain

abbrev pub headings : State → List Heading
headings s = map heading s.trees

abbrev pub rows_of : State → Trees
rows_of s t = plain_rows (tree_in s t)

-- what a transaction sees whose trees these are
abbrev pub shown : State → Snapshot
shown s = snapshot_of (headings s) (rows_of s) s.version

-- each tree is in the order of its shape
abbrev pub IsInOrder : State → Type 0
IsInOrder s = (t : ℕ) → IsShaped (tree_in s t).shape (rows_of s t)

-- so is each one with the newest changes undone
abbrev pub AreInOrder : List Undo → State → Type 0
AreInOrder log s = (n : ℕ) → IsInOrder (undone (drop n log) s)

-- the same trees but for one
pub record WithTree (old new : State) (tree : ℕ) (it : Plain) : Type 0 where
  pub headings_are : headings new ≡ set (padded (headings old) tree) tree (heading it)
  pub rows_are : rows_of new ≡ with_tree (rows_of old) tree (plain_rows it)
  pub version_is : new.version ≡ old.version

-- the same trees, with one listed as another object
pub record Labels (old new : State) (tree : ℕ) (o : Object) : Type 0 where
  pub headings_are : headings new ≡ set (padded (headings old) tree) tree (shape_in (headings old) tree, o.reals, description o)
  pub rows_are : rows_of new ≡ rows_of old
  pub version_is : new.version ≡ old.version
