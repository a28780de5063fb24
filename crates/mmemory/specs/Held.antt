-- SPDX-License-Identifier: Apache-2.0
-- The moments of a transaction.
use Rattle.std.specs.Prelude.{◌≡◌, ℕ, ◌+◌, ◌-◌, ◌≤◌, List, ◌++◌, drop, length, replicate}
use Rattle.sqlite_value.specs.Order.{Row}
use Rattle.sqlite_trees.specs.Tree.{with_tree}
use Rattle.mmemory.specs.declared.held.Held.{Held}
use Rattle.sqlite_trees.specs.declared.store.Shape.{Shape}
use Rattle.mmemory.specs.States.{State, state_of, undone, tree_in, headings, rows_of, shown, WithTree, Labels}
use Rattle.mmemory.specs.Plain.{Plain, no_plain}
use Rattle.sqlite_trees.specs.declared.schema.Object.{Object}

-- what the transaction sees
abbrev pub now : Held → State
now h = state_of h.trees.items h.version

-- what it saw when the log had a length
abbrev pub moment : Held → ℕ → State
moment h n = undone (drop n h.log.items) (now h)

-- no moment up to the log's length has changed
pub record KeepsPast (old new : Held) : Type 0 where
  pub past : (n : ℕ) → n ≤ length old.log.items → moment new n ≡ moment old n
  pub longer : length old.log.items ≤ length new.log.items
  pub marks : new.marks.items ≡ old.marks.items

abbrev pub shape_at : Held → ℕ → Shape
shape_at h t = (tree_in (now h) t).shape

abbrev pub nest_at : Held → ℕ → List (List Row)
nest_at h t = (tree_in (now h) t).chunks

-- the transaction sees what it saw
pub record Keeps (old new : Held) : Type 0 where
  pub keeps : KeepsPast old new
  pub headings_are : headings (now new) ≡ headings (now old)
  pub rows_are : rows_of (now new) ≡ rows_of (now old)
  pub version_is : new.version ≡ old.version

-- a tree has other rows
pub record Writes (old new : Held) (tree : ℕ) (rows : List Row) : Type 0 where
  pub keeps : KeepsPast old new
  pub headings_are : headings (now new) ≡ headings (now old)
  pub rows_are : rows_of (now new) ≡ with_tree (rows_of (now old)) tree rows
  pub version_is : new.version ≡ old.version

-- trees that are not there come after the others
pub record Pads (old new : Held) (tree : ℕ) : Type 0 where
  pub keeps : KeepsPast old new
  pub trees_are : (now new).trees ≡ (now old).trees ++ replicate (tree + 1 - length old.trees.items) no_plain
  pub version_is : new.version ≡ old.version

-- the transaction sees what it saw, whichever trees are not there
pub record KeepsShown (old new : Held) : Type 0 where
  pub keeps : KeepsPast old new
  pub shown_is : shown (now new) ≡ shown (now old)

-- another tree in place of one
pub record Puts (old new : Held) (tree : ℕ) (it : Plain) : Type 0 where
  pub keeps : KeepsPast old new
  pub trees_are : WithTree (now old) (now new) tree it

-- a tree is another object
pub record Relabels (old new : Held) (tree : ℕ) (o : Object) : Type 0 where
  pub keeps : KeepsPast old new
  pub labels : Labels (now old) (now new) tree o
