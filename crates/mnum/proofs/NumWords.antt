-- SPDX-License-Identifier: Apache-2.0
-- The words that most proofs of this crate have, in one place.
pub use Rattle.std.proofs.Common.{All, Bool, Equal, Err, Greater, IfErr, IsTrue, Less, List, MatchOption, MatchResult, None, Ok, OnOk, Option, Ordering, Result}
pub use Rattle.std.proofs.Common.{Some, [], add-one, add-zero, ap, append-nil, append_assoc, arith, below_more, cond, decimal, div-le_self, drop, drop-cons}
pub use Rattle.std.proofs.Common.{eqb, false, get_or, inl, inr, int_cmp, int_div, int_eq, le-ltb, length, length-drop, lit<, lit≤, mul-le-mul_left}
pub use Rattle.std.proofs.Common.{mul-le-mul_right, mul-lt-mul_of_pos_right, mul-pos, mul-zero, mul_assoc, nat_eq, neg_ℤ, negsuc, not, option_map, pos, pow-suc}
pub use Rattle.std.proofs.Common.{refl, rules, subst, suc, sym, take, take_all, true, unsigned_abs, w64, zero, zero-mul, ℕ, ℤ, ⊎_elim, ◌%◌, ◌&&◌, ◌*ℤ◌, ◌*◌}
pub use Rattle.std.proofs.Common.{◌++◌, ◌+ℤ◌, ◌+◌, ◌-ℤ◌, ◌-◌, ◌/◌, ◌<◌, ◌==◌, ◌^◌, ◌∙◌, ◌∷◌, ◌≡◌, ◌≢◌, ◌≤◌, ◌⊎◌}
pub use Rattle.std.proofs.Math.Nat.{div-add-mod, div-add-mod', div-eq_of_lt-le, div-mul-le_self, le_of_mul-le-mul_right, lt-div-mul-add, lt_of_mul-lt-mul_right}
pub use Rattle.std.proofs.Math.Nat.{mul-div-mul_right, mul-sub, mul_comm, pow-le-pow_right, zero-div}
pub use Rattle.std.proofs.lemmas.Bool.{cases_eq, cases_lt}
pub use Rattle.std.proofs.lemmas.Bool.Decides.{Decides-eqb, Decides-int_eq, nat_tests, same_from_decides}
pub use Rattle.std.proofs.lemmas.Int.{ints, to_z-of_z}
pub use Rattle.std.proofs.lemmas.List.Elements.{All-cons, All-from_get_or, All-head, All-nil, All-tail}
pub use Rattle.std.proofs.lemmas.List.Sums.{fold-append, fold_more, prefix_len_is}
pub use Rattle.std.proofs.lemmas.Nat.{le-div, mod_below, same_from_place}
pub use Rattle.std.specs.Int.{int_div_euclid, w128}
pub use Rattle.std.specs.List.{prefix_len}
pub use Rattle.arrayvec.specs.ArrayVec.{array_vec_len}
pub use Rattle.mspec.proofs.DistanceLaws.{abs_signed, scale_le, scale_lt}
pub use Rattle.mspec.proofs.Powers.{ten_add, ten_monotone, ten_pos}
pub use Rattle.mspec.proofs.Rounding.{digits_before_is, digits_before_le, nearest_exact, round_is, round_none, round_small, round_some, round_up_none}
pub use Rattle.mspec.proofs.Rounding.{round_zero, rounding_unit_is}
pub use Rattle.mspec.proofs.WholeTexts.{front_of_canonical, text_of_whole, value_of_digits, whole_is_canonical, zero_is_canonical}
pub use Rattle.mspec.specs.Literal.{IsMantissa, Literal, digits_after, is_digit, spell_exponent, spell_fraction, spell_literal, with_digit}
pub use Rattle.mspec.specs.Names.{AllAre, IsName, is_name_rest, is_name_start}
pub use Rattle.mspec.specs.Number.{IsNumber, digits_before, floor_remainder, over_size, quotient_of, remainder_of, round, round_size, signed, sum_of}
pub use Rattle.mspec.specs.Number.{whole_quotient_of}
unfoldable pub use Rattle.mspec.specs.Number.{nearest, rounding_unit}
pub use Rattle.mspec.specs.NumberLaws.{HasCanonicalForm, IsPlain, NoZeroInFront}
pub use Rattle.mspec.specs.NumberText.{IsCanonical, after_digits, after_fraction, fraction_digits, fraction_text, front_digits, front_exponent, is_negated}
pub use Rattle.mspec.specs.NumberText.{is_sign, number_text, point_text, whole_text}
unfoldable pub use Rattle.mspec.specs.NumberText.{literal_size, numeric_value, size_text}
pub use Rattle.mnum.specs.Floor.{IsFine, IsFloor, floor_left}
pub use Rattle.mnum.specs.Head.{IsCapped, IsHead}
pub use Rattle.mnum.specs.Num.{units}
pub use Rattle.mnum.specs.declared.num.Num.{Num}
pub use mathlib.Core.Bool.{beq}
pub use mir.Val.{SFits, of_z, to_z}
