-- SPDX-License-Identifier: Apache-2.0
-- Steps from place to place, and where chains of them lead.
use Rattle.std.specs.Prelude.{◌≡◌, ◌==◌, ◌<◌, ◌≤◌, ℕ, Bool, true, false, ◌&&◌, List, length, slice_index, slice_index_or, count_by, All, Any, Contains}
use Rattle.std.specs.List.{list_any}
use Rattle.mgrant.specs.declared.flow.Edge.{Edge}

-- the edge leads from x to y
abbrev pub leads : ℕ → ℕ → Edge → Bool
leads x y e = x == e.source && y == e.target

-- a chain of edges leads from one place to another, or they are the same
pub data Leads (edges : List Edge) : ℕ → ℕ → Type 0 where
  stays : (x : ℕ) → Leads edges x x
  goes : {x y z : ℕ} → list_any (leads x y) edges ≡ true → Leads edges y z → Leads edges x z

-- steps from a place: each is one of them, and they lead wherever one of them leads
pub record IsRun (edges : List Edge) (place : ℕ) (run : List Edge) : Type 0 where
  pub from : All (λ e. list_any (leads place e.target) edges ≡ true) run
  pub each : (z : ℕ) → list_any (leads place z) edges ≡ true → Any (λ e. e.target ≡ z) run
  pub within : (n : ℕ) → All (λ e. e.target < n) edges → All (λ e. e.target < n) run

-- marked places are listed, and lead back to the start, and there are as many marks as there are places listed
pub record IsStage (edges : List Edge) (start : ℕ) (marks : List Bool) (order : List ℕ) : Type 0 where
  pub listed : (y : ℕ) → slice_index_or marks y false ≡ true → Contains order y
  pub reached : All (Leads edges start) order
  pub counted : length order ≡ count_by (λ b. b) marks
  pub begun : slice_index_or marks start false ≡ true

-- marks stay, and what is listed stays where it is
pub record IsMore (marks : List Bool) (order : List ℕ) (marks' : List Bool) (order' : List ℕ) : Type 0 where
  pub kept : (y : ℕ) → slice_index_or marks y false ≡ true → slice_index_or marks' y false ≡ true
  pub grown : length order ≤ length order'
  pub same : (k : ℕ) → k < length order → slice_index order' k ≡ slice_index order k
