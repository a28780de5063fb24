-- SPDX-License-Identifier: Apache-2.0
-- The order of subscripts and of nodes.
--
-- Restates the collating order of "$ORDER" of ISO/IEC 11756:1999: the empty text, then canonical texts of numbers by value,
-- then all other texts by character codes. The digits that a number keeps are a parameter, since old stores kept fewer.
use Rattle.std.specs.Prelude.{◌≡◌, ℕ, cond, List, [], ◌∷◌, ◌++◌, Option, Some, None, option_and_then, nat_eq, ℤ}
use Rattle.std.specs.Cmp.Lexicographic.{pointwise, slice_cmp}
use Rattle.std.specs.declared.cmp.Ordering.{Ordering}
use Rattle.std.specs.declared.cmp.Ordering.TheVariants.{Less, Equal, Greater}
use Rattle.std.specs.Ordering.{nat_cmp, int_cmp, on, then_cmp}
use Rattle.mspec.specs.Node.{Text, Node}
use Rattle.mspec.specs.NumberText.{numeric_value, number_text}

-- u, if s is its text
abbrev pub where_text : Text → ℤ → Option ℤ
where_text s u = cond (pointwise nat_eq (number_text u) s) (Some u) None

-- the number, in units of 10 ^ -18, whose canonical text s is; none if it is no such text
unfoldable pub canonical_value : ℕ → Text → Option ℤ
canonical_value kept s = option_and_then (where_text s) (numeric_value kept s)

-- where a text stands among the subscripts
pub data Place : Type 0 where
  Empty : Place
  Numeric : ℤ → Place
  Other : Text → Place

abbrev pub place_by : Text → Option ℤ → Place
place_by s (Some u) = Numeric u
place_by s None = Other s

abbrev pub place : ℕ → Text → Place
place kept [] = Empty
place kept (c ∷ s) = place_by (c ∷ s) (canonical_value kept (c ∷ s))

abbrev pub place_cmp : Place → Place → Ordering
place_cmp Empty Empty = Equal
place_cmp Empty (Numeric v) = Less
place_cmp Empty (Other t) = Less
place_cmp (Numeric u) Empty = Greater
place_cmp (Numeric u) (Numeric v) = int_cmp u v
place_cmp (Numeric u) (Other t) = Less
place_cmp (Other s) Empty = Greater
place_cmp (Other s) (Numeric v) = Greater
place_cmp (Other s) (Other t) = slice_cmp nat_cmp s t

-- the order of texts
abbrev pub text_cmp : ℕ → Text → Text → Ordering
text_cmp kept = on (place kept) place_cmp

-- subscripts one by one; a list comes after another that is its beginning
abbrev pub subscripts_cmp : ℕ → List Text → List Text → Ordering
subscripts_cmp kept = slice_cmp (text_cmp kept)

-- nodes: by account and name, both by character codes, then by subscripts
abbrev pub node_cmp : ℕ → Node → Node → Ordering
node_cmp kept =
    then_cmp (on (λ n. n.account) (slice_cmp nat_cmp))
    (then_cmp (on (λ n. n.name) (slice_cmp nat_cmp)) (on (λ n. n.subscripts) (subscripts_cmp kept)))

-- the first node has the other's account and name, and the beginning of its subscripts
pub record IsAncestor (above below : Node) : Type 0 where
  pub account : above.account ≡ below.account
  pub name : above.name ≡ below.name
  pub longer : (s : Text) × (more : List Text) × (below.subscripts ≡ above.subscripts ++ (s ∷ more))
