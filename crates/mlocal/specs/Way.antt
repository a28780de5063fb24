-- SPDX-License-Identifier: Apache-2.0
-- The keys between two bounds.
use Rattle.std.specs.Prelude.{Bool, List, if◌then◌else◌}
use Rattle.std.specs.List.{list_any}
use Rattle.std.specs.Ordering.{is_eq}
use Rattle.std.specs.BTreeMap.Range.{range_contains}
use Rattle.std.specs.declared.ops.Bound.TheVariants.{Included, Excluded, Unbounded}
use Rattle.mspec.specs.Node.{Text}
use Rattle.mspec.specs.NodeOrder.{subscripts_cmp}
use Rattle.mspec.specs.Number.{significant_digits}
use Rattle.mspec.specs.Trees.{child_of, ends_empty, front}
use Rattle.mkey.specs.SubsKey.{behind_below}
pub use Rattle.mkey.specs.Under.{passes}

-- whether a key comes after `low`
abbrev pub is_behind : List Text → List Text → Bool
is_behind low xs = range_contains (subscripts_cmp significant_digits) (Excluded low) Unbounded xs

-- whether a key comes after `low` and before `high`
abbrev pub is_between : List Text → List Text → List Text → Bool
is_between low high xs = range_contains (subscripts_cmp significant_digits) (Excluded low) (Excluded high) xs

-- whether a key is at `low` or after it, and before `high`
abbrev pub is_from : List Text → List Text → List Text → Bool
is_from low high xs = range_contains (subscripts_cmp significant_digits) (Included low) (Excluded high) xs

-- whether a key is one of these
abbrev pub is_one_of : List (List Text) → List Text → Bool
is_one_of found xs = list_any (λ k. is_eq (subscripts_cmp significant_digits k xs)) found

-- whether the subscript that follows xs passes a test
abbrev pub has_child : (Text → Bool) → List Text → List Text → Bool
has_child p xs ys = passes p (child_of xs ys)

-- before which the keys are to which a walk backward from xs comes, if xs has some
abbrev pub passed_end : List Text → List Text
passed_end xs = if ends_empty xs then behind_below (front xs) else xs
