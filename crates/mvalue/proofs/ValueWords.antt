-- SPDX-License-Identifier: Apache-2.0
-- The words that most proofs of this crate have, in one place.
pub use Rattle.std.proofs.Common.{All, List, Some, [], ap, arith, cond, false, length, length-append, lit<, refl, subst, suc, sym, true, zero, ℕ, ◌%◌, ◌++◌}
pub use Rattle.std.proofs.Common.{◌+◌, ◌/◌, ◌<◌, ◌==◌, ◌^◌, ◌∙◌, ◌∷◌, ◌≡◌, ◌≤◌}
pub use Rattle.std.proofs.lemmas.Bool.Decides.{Decides-eqb, Decides-int_eq, nat_tests, same_from_decides}
pub use Rattle.std.specs.Cmp.Lexicographic.{pointwise}
pub use Rattle.std.specs.Ordering.{int_cmp, int_eq, is_eq}
pub use Rattle.std.specs.Prelude.{Decides, IfOk, decimal, nat_eq, negsuc, pos, unsigned_abs, ℤ, ◌*ℤ◌}
pub use Rattle.mnum.proofs.Ranges.{units_number}
pub use Rattle.mnum.specs.Num.{units}
pub use Rattle.mnum.specs.declared.num.Num.{Num}
pub use Rattle.mspec.proofs.TextLaws.{Digit, fraction_all, size_parts, text_has_value, whole_all}
pub use Rattle.mspec.specs.Number.{significant_digits}
pub use Rattle.mspec.specs.NumberText.{fraction_text, number_text, numeric_value, point_text, whole_text}
unfoldable pub use Rattle.mspec.specs.NumberText.{size_text}
pub use Rattle.mvalue.specs.Texts.{kind_text}
