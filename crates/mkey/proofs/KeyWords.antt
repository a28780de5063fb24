-- SPDX-License-Identifier: Apache-2.0
-- The words that most proofs of this crate have, in one place.
pub use Rattle.std.proofs.Common.{All, Bool, Err, Fits, IsOk, IsTrue, List, MatchOption, None, Ok, Option, Result, Some, [], add-one, ap, append-nil}
pub use Rattle.std.proofs.Common.{append_assoc, ap₂, arith, cond, drop, false, get_or, if◌then◌else◌, inl, inr, is_ok, length, length-append, length-drop, map}
pub use Rattle.std.proofs.Common.{nat_eq, nat_lt, not, refl, reverse, rules, subst, suc, sym, take, take-append-drop, true, vec_capacity, vec_len, w8, zero}
pub use Rattle.std.proofs.Common.{zero-add, ℕ, ◌%◌, ◌&&◌, ◌*◌, ◌++◌, ◌+◌, ◌-◌, ◌/◌, ◌<◌, ◌==◌, ◌^◌, ◌∙◌, ◌∷◌, ◌≡◌, ◌≢◌, ◌≤◌, ◌⊎◌}
pub use Rattle.std.proofs.Math.Nat.{div-add-mod', div-one, mod-eq_of_lt, mul-le-mul_right, one-le-pow, pow-le-pow_right, pow-suc}
pub use Rattle.std.proofs.Math.Seq.{drop-append_seam, drop-cons, take-append_seam}
pub use Rattle.std.proofs.lemmas.Bool.Decides.{Decides-eqb, nat_tests}
pub use Rattle.std.proofs.lemmas.Cmp.{nat_cmp_total, nat_list_cmp_total, tied_itself}
pub use Rattle.std.proofs.lemmas.Int.{to_z-of_z}
pub use Rattle.std.proofs.lemmas.List.{drop_all, map-append, nil_from_length, reverse-append, take_more}
pub use Rattle.std.proofs.lemmas.List.Concat.{flat_map-append}
pub use Rattle.std.proofs.lemmas.List.Elements.{All-cons, All-from_get_or, All-head, All-nil, All-push, All-tail}
pub use Rattle.std.proofs.lemmas.Nat.{div-mul-add, mod-mul-add, mod_below, mul-add-lt, pow-add}
pub use Rattle.std.proofs.lemmas.Slice.Eq.{starts_is}
pub use Rattle.std.specs.Cmp.Lexicographic.{bytes_decides, slice_cmp}
pub use Rattle.std.specs.List.{each_same, find, flat_map, position, position_or_len, starts_with}
pub use Rattle.std.specs.Option.{option_to_list, unwrap_or}
pub use Rattle.std.specs.Ordering.{is_lt, is_ne, nat_cmp, ordering_reverse, ordering_then}
pub use Rattle.std.specs.Prelude.{IfSome, OnSome, is_some, option_and_then, pos, slice_get, unsigned_abs, ℤ}
pub use Rattle.std.specs.declared.cmp.Ordering.{Ordering}
pub use Rattle.std.specs.declared.cmp.Ordering.TheVariants.{Equal, Greater, Less}
pub use Rattle.mnum.proofs.Ranges.{units_number}
pub use Rattle.mnum.specs.Num.{units}
pub use Rattle.mspec.proofs.KeyOrders.{bytes_order, key_order, raised_below, raised_order, subscripts_order, tag_of, value_in_range}
pub use Rattle.mspec.proofs.KeyRanges.{IsBehind, descendants_are_ranges, keys_of_subtrees_begin_alike, same_bytes, subscript_split, subscripts_split}
pub use Rattle.mspec.proofs.KeyRanges.{subtrees_are_ranges, text_split}
pub use Rattle.mspec.proofs.NodeOrders.{both_Equal, canonical_of_value, none_of_other, value_of_canonical}
pub use Rattle.mspec.specs.Globals.{is_beside, is_node_within}
pub use Rattle.mspec.specs.KeyBytes.{AreSubscripts, IsAccountName, IsAscii, IsStored, IsSubscript, big_endian, children_start, key_bytes, local_bytes, raised}
pub use Rattle.mspec.specs.KeyBytes.{subscript_by, subscript_bytes, subscripts_bytes, text_bytes}
unfoldable pub use Rattle.mspec.specs.KeyBytes.{number_bytes}
pub use Rattle.mspec.specs.KeyLaws.{BeginsWith, IsWithin, NoneEmpty}
pub use Rattle.mspec.specs.Names.{AllAre, IsName, is_name_rest, is_name_start}
pub use Rattle.mspec.specs.NodeOrder.{IsAncestor, place, place_by, place_cmp, subscripts_cmp}
unfoldable pub use Rattle.mspec.specs.NodeOrder.{canonical_value}
pub use Rattle.mspec.specs.Number.{IsNumber, significant_digits}
unfoldable pub use Rattle.mspec.specs.Number.{digits_before, nearest, round, round_size, rounding_unit}
pub use Rattle.mspec.specs.NumberText.{IsCanonical, number_text}
unfoldable pub use Rattle.mspec.specs.NumberText.{literal_size, numeric_value, size_text}
pub use Rattle.mspec.specs.Trees.{AreOrderSubscripts, child_of, front, is_before, is_below, is_empty, is_within, last, text_eq}
pub use Rattle.mvalue.proofs.AsciiNumbers.{text_ascii}
pub use Rattle.mvalue.specs.Texts.{kind_text}
pub use Rattle.mkey.specs.Front.{AreSubs, BeginsWithNo, BeginsWithNumber, IsFirst, IsFront, IsSub}
unfoldable pub use Rattle.mkey.specs.Head.{head_number}
pub use Rattle.mkey.specs.Key.{BoundsKeysOf, IsKey, IsKeyBy, none_empty, one_node}
pub use Rattle.mkey.specs.Parent.{IsLastAt, IsParent}
pub use Rattle.mkey.specs.SubsKey.{IsSubsKeyOf, behind_below, beyond, one_list}
pub use Rattle.mkey.specs.Under.{child_under, passes}
pub use Rattle.mspec.proofs.Basics.{all_true, byte_pos, rest_is_ascii, start_is_ascii}
pub use Rattle.mspec.specs.Act.{Node, Text}
pub use mir.Syntax.{w128}
pub use mir.Val.{SFits, of_z, to_z}
