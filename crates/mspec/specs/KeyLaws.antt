-- SPDX-License-Identifier: Apache-2.0
-- The laws of the order of nodes and of the bytes of keys. The functions of src/ named after them carry them.
use Rattle.std.specs.Prelude.{◌≡◌, ◌↔◌, ◌⊎◌, ◌<◌, ℕ, true, List, ◌∷◌, ◌++◌, length, All, MatchOption, Some}
use Rattle.std.specs.Cmp.{IsTotalOrder}
use Rattle.std.specs.Cmp.Lexicographic.{slice_cmp}
use Rattle.std.specs.declared.cmp.Ordering.{Ordering}
use Rattle.std.specs.declared.cmp.Ordering.TheVariants.{Less}
use Rattle.std.specs.FinMap.{IsAntisymmetric}
use Rattle.std.specs.Ordering.{nat_cmp, is_le, ordering_then}
use Rattle.mspec.specs.Node.{Text, Node}
use Rattle.mspec.specs.NumberText.{numeric_value, number_text, IsCanonical}
use Rattle.mspec.specs.NodeOrder.{canonical_value, text_cmp, subscripts_cmp, node_cmp, IsAncestor}
use Rattle.mspec.specs.KeyBytes.{key_bytes, local_bytes, children_start, subtree_end}

-- the canonical value is the number whose canonical text the text is, and there is one if there is such a number
abbrev pub CanonicalValueIsTold : Type 0
CanonicalValueIsTold =
    (kept : ℕ) (s : Text) →
    MatchOption (canonical_value kept s) (IsCanonical kept s → ⊥) (λ u. (numeric_value kept s ≡ Some u) × (number_text u ≡ s))

-- a total order in which only equal values tie
pub record IsOrder {A : Type 0} (cmp : A → A → Ordering) : Type 0 where
  pub total : IsTotalOrder cmp
  pub exact : IsAntisymmetric cmp

-- the orders of texts, of lists of subscripts and of nodes are such orders
abbrev pub NodesAreOrdered : Type 0
NodesAreOrdered = (kept : ℕ) → IsOrder (text_cmp kept) × IsOrder (subscripts_cmp kept) × IsOrder (node_cmp kept)

-- no subscript is empty
abbrev pub NoneEmpty : List Text → Type 0
NoneEmpty subscripts = All (λ s. 0 < length s) subscripts

-- bytes of keys are in the order of their nodes
abbrev pub KeysKeepOrder : Type 0
KeysKeepOrder =
    (kept : ℕ) (a b : Node) → NoneEmpty a.subscripts → NoneEmpty b.subscripts →
    slice_cmp nat_cmp (key_bytes kept a) (key_bytes kept b) ≡ node_cmp kept a b

-- one key belongs to one node
abbrev pub KeysAreInjective : Type 0
KeysAreInjective =
    (kept : ℕ) (a b : Node) → NoneEmpty a.subscripts → NoneEmpty b.subscripts → key_bytes kept a ≡ key_bytes kept b → a ≡ b

abbrev pub BeginsWith : List ℕ → List ℕ → Type 0
BeginsWith bytes front = (rest : List ℕ) × (bytes ≡ front ++ rest)

-- the node itself, or one below it
abbrev pub IsWithin : Node → Node → Type 0
IsWithin a b = (a ≡ b) ⊎ IsAncestor a b

-- a key begins with another exactly when its node is the other or below it
abbrev pub KeysOfSubtreesBeginAlike : Type 0
KeysOfSubtreesBeginAlike =
    (kept : ℕ) (a b : Node) → NoneEmpty a.subscripts → NoneEmpty b.subscripts →
    BeginsWith (key_bytes kept b) (key_bytes kept a) ↔ IsWithin a b

-- bytes from `low` on that come before `high`
pub record IsBetween (low high bytes : List ℕ) : Type 0 where
  pub from : is_le (slice_cmp nat_cmp low bytes) ≡ true
  pub below : slice_cmp nat_cmp bytes high ≡ Less

-- the keys from a node's key up to the end of its subtree are those of the node and of what is below it
abbrev pub SubtreesAreRanges : Type 0
SubtreesAreRanges =
    (kept : ℕ) (a b : Node) → NoneEmpty a.subscripts → NoneEmpty b.subscripts →
    IsBetween (key_bytes kept a) (subtree_end (key_bytes kept a)) (key_bytes kept b) ↔ IsWithin a b

-- and those from the start of its children are those of what is below it
abbrev pub DescendantsAreRanges : Type 0
DescendantsAreRanges =
    (kept : ℕ) (a b : Node) → NoneEmpty a.subscripts → NoneEmpty b.subscripts →
    IsBetween (children_start (key_bytes kept a)) (subtree_end (key_bytes kept a)) (key_bytes kept b) ↔ IsAncestor a b

-- ---- the same for names with subscripts, as of locals

abbrev pub LocalsKeepOrder : Type 0
LocalsKeepOrder =
    (kept : ℕ) (a b : Text) (xs ys : List Text) → NoneEmpty xs → NoneEmpty ys →
    slice_cmp nat_cmp (local_bytes kept a xs) (local_bytes kept b ys) ≡ ordering_then (slice_cmp nat_cmp a b) (subscripts_cmp kept xs ys)

-- the second has the first's name, and the first's subscripts with these after them
abbrev pub IsLocalWithin : Text → List Text → Text → List Text → List Text → Type 0
IsLocalWithin a xs b ys more = (a ≡ b) × (ys ≡ xs ++ more)

abbrev pub LocalSubtreesAreRanges : Type 0
LocalSubtreesAreRanges =
    (kept : ℕ) (a b : Text) (xs ys : List Text) → NoneEmpty xs → NoneEmpty ys →
    IsBetween (local_bytes kept a xs) (subtree_end (local_bytes kept a xs)) (local_bytes kept b ys)
    ↔ ((more : List Text) × IsLocalWithin a xs b ys more)

abbrev pub LocalDescendantsAreRanges : Type 0
LocalDescendantsAreRanges =
    (kept : ℕ) (a b : Text) (xs ys : List Text) → NoneEmpty xs → NoneEmpty ys →
    IsBetween (children_start (local_bytes kept a xs)) (subtree_end (local_bytes kept a xs)) (local_bytes kept b ys)
    ↔ ((s : Text) × (more : List Text) × IsLocalWithin a xs b ys (s ∷ more))
