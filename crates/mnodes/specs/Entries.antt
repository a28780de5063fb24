-- SPDX-License-Identifier: Apache-2.0
-- A list of entries as a store of nodes.
use Rattle.std.specs.Prelude.{◌≡◌, ℕ, ◌<◌, ◌≤◌, Bool, true, false, List, All, map, length, Option, Some, None, if◌then◌else◌}
use Rattle.std.specs.Cmp.Lexicographic.{slice_cmp}
use Rattle.std.specs.FinMap.{from_entries}
use Rattle.std.specs.FinMap.Entries.{is_sorted}
use Rattle.std.specs.List.{HoldsAt}
use Rattle.std.specs.List.Sorted.{IsPartitionPoint}
use Rattle.std.specs.Ordering.{nat_cmp, is_lt}
use Rattle.std.specs.declared.cmp.Ordering.TheVariants.{Less, Greater}
use base.Stored.{Coded, coded_ℕ, coded_list, coded×, coded_via}
use Rattle.mspec.specs.Node.{Text, Node}
use Rattle.mspec.specs.Number.{significant_digits}
use Rattle.mspec.specs.NodeOrder.{node_cmp}
use Rattle.mspec.specs.KeyBytes.{key_bytes, IsStored}
use Rattle.mspec.specs.Globals.{Globals, is_between}
use Rattle.mspec.specs.TextFunctions.{max_text}
use Rattle.mnodes.specs.declared.plain.Entry.{Entry}

-- a code of nodes, by which a proof tells them apart
abbrev pub coded_node : Coded Node
coded_node =
    coded_via (coded× (coded_list coded_ℕ) (coded× (coded_list coded_ℕ) (coded_list (coded_list coded_ℕ))))
    (λ (n : Node). (n.account, (n.name, n.subscripts)))
    (λ m n e i. record { account = (e i).0; name = (e i).1.0; subscripts = (e i).1.1 })

abbrev pub entry_of : Entry → Node × Text
entry_of e = (e.key, e.text)

abbrev pub entries_of : List Entry → List (Node × Text)
entries_of es = map entry_of es

-- what the entries hold
abbrev pub held : List Entry → Globals
held es = from_entries (entries_of es)

-- the entries of nodes of a store, in the order of the nodes, each of which occurs once, with texts of at most 4,095 characters
pub record AreEntries (es : List Entry) : Type 0 where
  pub sorted : is_sorted (node_cmp significant_digits) (entries_of es) ≡ true
  pub stored : All (λ e. IsStored e.key) es
  pub short : All (λ e. length e.text ≤ max_text) es

-- the entry at place i is of the node
pub record IsAt (es : List Entry) (node : Node) (i : ℕ) : Type 0 where
  pub in_range : i < length es
  pub of_node : HoldsAt (λ e. e.key ≡ node) es i

-- the node would be at place i: the nodes before it are less, and those from it on greater
abbrev pub IsGapFor : List Entry → Node → ℕ → Type 0
IsGapFor es node i = IsPartitionPoint (λ e. node_cmp significant_digits e.key node ≡ Less) (λ e. node_cmp significant_digits e.key node ≡ Greater) es i

abbrev pub bytes_of : Entry → List ℕ
bytes_of e = key_bytes significant_digits e.key

-- the key comes before these bytes
abbrev pub is_before : List ℕ → Entry → Bool
is_before bytes e = is_lt (slice_cmp nat_cmp (bytes_of e) bytes)

-- the first i keys come before these bytes, and the others do not
abbrev pub IsPlaceOf : List Entry → List ℕ → ℕ → Type 0
IsPlaceOf es bytes i = IsPartitionPoint (λ e. is_before bytes e ≡ true) (λ e. is_before bytes e ≡ false) es i

-- the key of an entry, if it is within the bounds
abbrev pub key_within : List ℕ → List ℕ → Option Entry → Option (List ℕ)
key_within low high None = None
key_within low high (Some e) = if is_between low high (bytes_of e) then Some (bytes_of e) else None
