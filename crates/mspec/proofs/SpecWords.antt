-- SPDX-License-Identifier: Apache-2.0
-- The words that most proofs of this crate have, in one place.
pub use Rattle.std.proofs.Common.{All, Bool, List, None, Option, Some, [], add-one, ap, append_assoc, ap₂, arith, cond, drop, drop-cons, eqb, false, get_or}
pub use Rattle.std.proofs.Common.{inl, inr, length, length-append, lit≤, map, not, one-add, pow-add, refl, replicate, rules, subst, suc, sym, take}
pub use Rattle.std.proofs.Common.{take-append-drop, true, zero, ℕ, ⊎_elim, ◌%◌, ◌&&◌, ◌*◌, ◌++◌, ◌+◌, ◌-◌, ◌/◌, ◌<◌, ◌^◌, ◌||◌, ◌∙◌, ◌∷◌, ◌≡◌, ◌≢◌, ◌≤◌, ◌⊎◌}
pub use Rattle.std.proofs.Math.Nat.{div-add-mod', div-eq_of_lt, div-eq_of_lt-le, div-mul-le_self, le_of_mul-le-mul_right, lt-div-mul-add}
pub use Rattle.std.proofs.Math.Nat.{lt_of_mul-lt-mul_right, mul-le-mul_left, mul-le-mul_right, mul-lt-mul_of_pos_right, mul-pos, mul_assoc, one-le-pow}
pub use Rattle.std.proofs.Math.Nat.{pow-le-pow_right, pow-suc, zero-mul}
pub use Rattle.std.proofs.Math.Seq.{drop-append_seam, drop-length, take-append_seam}
pub use Rattle.std.proofs.lemmas.Bool.{and_from, and_parts, cases_lt, cases_order, cond-false, cond-true, eq-eqb, eqb-true, le-leb, leb-true, lt-ltb, ltb-true}
pub use Rattle.std.proofs.lemmas.Bool.{or_right}
pub use Rattle.std.proofs.lemmas.Bool.Decides.{nat_tests}
pub use Rattle.std.proofs.lemmas.Cmp.{eq_by_cmp_equiv, int_cmp_total, nat_cmp_total, on_total, then_total, tied_itself}
pub use Rattle.std.proofs.lemmas.Fmt.{decimal_by_steps, decimal_nonempty, first_decimal}
pub use Rattle.std.proofs.lemmas.List.{append-nil, append_cancel_left, append_cancel_right, length-replicate, length-take-le, nil_from_length}
pub use Rattle.std.proofs.lemmas.List.{replicate-append-replicate}
pub use Rattle.std.proofs.lemmas.List.Elements.{All-append, All-cons, All-head, All-nil, All-push, All-replicate, All-tail}
pub use Rattle.std.proofs.lemmas.List.Sums.{AllPass-from_list_all, fold-append, fold_push, list_all-from_AllPass, take_while-cons}
pub use Rattle.std.proofs.lemmas.Nat.{div_below, mod_below, same_from_place}
pub use Rattle.std.specs.Cmp.{IsTotalOrder, bool_cmp_total, nat_cmp_is}
pub use Rattle.std.specs.Cmp.Lexicographic.{bytes_decides, lists_total, nat_list_cmp_total, pointwise, slice_cmp}
pub use Rattle.std.specs.FinMap.{FinMap, IsAntisymmetric, empty, entries, entries-from_sorted, entries-insert, from_sorted, get, get-empty, get-from_entries}
pub use Rattle.std.specs.FinMap.{get-insert, get-remove, get-retain_keys, insert, int_cmp-IsAntisymmetric, is_sorted, len-empty, len-entries}
pub use Rattle.std.specs.FinMap.{nat_cmp-IsAntisymmetric, remove, retain_keys, same_map, slice_cmp-IsAntisymmetric}
pub use Rattle.std.specs.FinMap.Entries.{find, put}
pub use Rattle.std.specs.List.{filter, list_all, list_any, onto_first, prefix_len}
pub use Rattle.std.specs.Map.{lookup}
pub use Rattle.std.specs.Ordering.{bool_cmp, eq_by_cmp, int_cmp, is_eq, is_le, is_lt, nat_cmp, on, ordering_then, then_cmp}
pub use Rattle.std.specs.Prelude.{Err, IsErr, IsErrAnd, IsTrue, MatchOption, Ok, Result, T, codes, decimal, if◌then◌else◌, is_some, nat_eq, nat_le, nat_lt}
pub use Rattle.std.specs.Prelude.{neg_ℤ, negsuc, option_and_then, option_map, pos, unsigned_abs, unwrap_or, ℤ, ◌*ℤ◌, ◌-ℤ◌, ◌==◌, ◌↔◌}
pub use Rattle.std.specs.declared.cmp.Ordering.{Ordering}
pub use Rattle.std.specs.declared.cmp.Ordering.TheVariants.{Equal, Greater, Less}
pub use Rattle.mspec.specs.Globals.{is_beside, is_line_of, is_node_within, lines_of, routines_of}
pub use Rattle.mspec.specs.KeyBytes.{AreSubscripts, IsAccountName, IsSubscript, children_start, key_bytes, local_bytes, raised, subscript_by, subscript_bytes}
pub use Rattle.mspec.specs.KeyBytes.{subscripts_bytes, subtree_end, text_bytes}
unfoldable pub use Rattle.mspec.specs.KeyBytes.{number_bytes}
pub use Rattle.mspec.specs.KeyLaws.{CanonicalValueIsTold, DescendantsAreRanges, IsBetween, IsLocalWithin, IsWithin, KeysAreInjective, KeysKeepOrder}
pub use Rattle.mspec.specs.KeyLaws.{KeysOfSubtreesBeginAlike, LocalDescendantsAreRanges, LocalSubtreesAreRanges, LocalsKeepOrder, NodesAreOrdered, NoneEmpty}
pub use Rattle.mspec.specs.KeyLaws.{SubtreesAreRanges}
pub use Rattle.mspec.specs.Literal.{Exponent, ExponentSign, IsDigits, IsExponent, IsFraction, IsLiteral, IsMantissa, Literal, Minus, Plus, Unsigned}
pub use Rattle.mspec.specs.Literal.{denominator, digits_after, fraction_of, is_digit, lowered_by, numerator, raise, raised_by, spell_exponent, spell_fraction}
pub use Rattle.mspec.specs.Literal.{spell_literal, spell_sign, with_digit}
pub use Rattle.mspec.specs.LockConflict.{LockName, Locks, count, counted, has_conflict, held, held_cmp, is_conflict, lock_name_cmp, max_count, one_more}
pub use Rattle.mspec.specs.LockConflict.{released}
pub use Rattle.mspec.specs.Maps.{hash_map_of, map_of}
pub use Rattle.mspec.specs.Names.{is_name_rest, is_name_start}
pub use Rattle.mspec.specs.Node.{Node, Text}
pub use Rattle.mspec.specs.NodeOrder.{Empty, IsAncestor, Numeric, Other, Place, node_cmp, place, place_by, place_cmp, subscripts_cmp, text_cmp, where_text}
unfoldable pub use Rattle.mspec.specs.NodeOrder.{canonical_value}
pub use Rattle.mspec.specs.Number.{IsNumber, is_below_zero, product_of, quotient_of, remainder_of, signed, significant_digits, sum_of, whole_quotient_of}
unfoldable pub use Rattle.mspec.specs.Number.{digits_before, nearest, round, round_size, rounding_unit}
pub use Rattle.mspec.specs.NumberFormats.{fixed_number, format_number, justify_number}
unfoldable pub use Rattle.mspec.specs.NumberFormats.{fixed_text, grouped, rounded_to}
pub use Rattle.mspec.specs.NumberLaws.{BeginsWith, CanonicalByMoreDigits, CanonicalIsText, EachHasDigits, HasCanonicalForm, HasDigits, IsMultiple, IsNearest}
pub use Rattle.mspec.specs.NumberLaws.{IsPlain, NearestIsUnique, NoZeroAtEnd, NoZeroInFront, NumberRoundsToItself, PlainLiteralIsUnique, ReadsLongestLiteral}
pub use Rattle.mspec.specs.NumberLaws.{RoundedIsNumber, RoundingIsNearest, TextHasCanonicalForm, TextHasValue, ZeroRoundsToZero, distance}
pub use Rattle.mspec.specs.NumberText.{IsCanonical, after_digits, after_fraction, after_signs, fraction_digits, fraction_text, front_digits, front_exponent}
pub use Rattle.mspec.specs.NumberText.{is_negated, is_sign, number_text, point_text, signed_digits, whole_text}
unfoldable pub use Rattle.mspec.specs.NumberText.{literal_size, numeric_value, size_text}
pub use Rattle.mspec.specs.Pattern.{copied}
pub use Rattle.mspec.specs.PieceLaws.{FirstPlace, OneList, StandsFirst}
pub use Rattle.mspec.specs.Pieces.{AreCut, ArePieces, Lacks, OnlyAtEnd, begins_with, cut_after, join}
unfoldable pub use Rattle.mspec.specs.Pieces.{pieces_of}
pub use Rattle.mspec.specs.TextFunctions.{contains, extract_of, find_of, follows, justify_of, piece_count, piece_of, has_places, set_extract_of, set_piece_of}
pub use Rattle.mspec.specs.TextFunctions.{set_pieces_of, translate_of}
unfoldable pub use Rattle.mspec.specs.TextFunctions.{first_place, with_piece}
pub use Rattle.mspec.specs.Trees.{AreOrderSubscripts, Tree, front, is_within, last, text_eq, without}
