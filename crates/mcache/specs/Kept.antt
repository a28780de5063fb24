-- SPDX-License-Identifier: Apache-2.0
-- What is kept of trees, by the entries of the maps that keep them.
use Rattle.std.specs.Prelude.{◌≡◌, ◌<◌, ◌≤◌, ◌+◌, ◌⊎◌, ℕ, List, length, Some, Vec}
use Rattle.std.specs.List.{Contains}
use Rattle.std.specs.declared.rc.Rc.{Rc}
use Rattle.std.specs.declared.alloc.Global.{Global}
use Rattle.mgrammar.specs.Reading.{line_at}
use Rattle.mgrammar.specs.RoutineLine.{routine_line_at}
use Rattle.mtree.specs.declared.tree.Line.{Line}
use Rattle.mtree.specs.declared.tree.RoutineLine.{RoutineLine}
use Rattle.mtree.specs.Tree.{line_tree, routine_line_tree, IsCounted, IsBodyCounted}
use Rattle.mspec.specs.Node.{Text}

-- a text, and its tree
abbrev pub Entry : Type 0 → Type 0
Entry T = Vec ℕ Global × Rc T Global

module _ {T : Type 0} where
  -- the entry of a text has this tree
  abbrev pub IsOf : Text → T → Entry T → Type 0
  IsOf text tree e = (e.0.items ≡ text) × (e.1.value ≡ tree)

  -- one of the entries is of a text and has this tree
  abbrev pub IsKept : List (Entry T) → Text → T → Type 0
  IsKept es text tree = (e : Entry T) × Contains es e × IsOf text tree e

  -- each entry after a call was there before it
  abbrev pub IsWithin : List (Entry T) → List (Entry T) → Type 0
  IsWithin after before = (e : Entry T) → Contains after e → Contains before e

  -- each was there, or is of this text and has this tree
  abbrev pub IsWithinOr : List (Entry T) → List (Entry T) → Text → T → Type 0
  IsWithinOr after before text tree = (e : Entry T) → Contains after e → Contains before e ⊎ IsOf text tree e

-- each tree that is kept is that of its text and tells its first language, and there are no more of them than entries
pub record AreTrees (entries : ℕ) (lines : List (Entry Line)) (routine_lines : List (Entry RoutineLine)) : Type 0 where
  pub some : 0 < entries
  pub few : length lines + length routine_lines ≤ entries
  pub line : (e : Entry Line) → Contains lines e → line_at e.0.items ≡ Some (line_tree e.1.value)
  pub routine_line : (e : Entry RoutineLine) → Contains routine_lines e → routine_line_at e.0.items ≡ Some (routine_line_tree e.1.value)
  pub line_counted : (e : Entry Line) → Contains lines e → IsCounted e.1.value
  pub routine_line_counted : (e : Entry RoutineLine) → Contains routine_lines e → IsBodyCounted e.1.value.body
