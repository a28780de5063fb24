-- SPDX-License-Identifier: Apache-2.0
-- The words that most proofs of this crate have, in one place.
pub use Rattle.std.proofs.Common.{All, Bool, Err, Global, IfOk, List, None, Ok, Result, Some, Vec, [], ap, arith, cond, drop, drop-drop, eqb, false, get_or}
pub use Rattle.std.proofs.Common.{length, length-drop, map, refl, subst, suc, sym, take, true, true≢false, zero, ℕ, ◌++◌, ◌-◌, ◌<◌, ◌^◌, ◌↔◌, ◌∙◌, ◌∷◌, ◌≡◌}
pub use Rattle.std.proofs.Common.{◌≤◌}
pub use Rattle.std.proofs.lemmas.Bool.Decides.{Decides-eqb, Decides-int_eq, nat_tests, same_from_decides}
pub use Rattle.std.proofs.lemmas.List.{map_push, take_more, take_rest}
pub use Rattle.std.specs.List.{flat_map, list_any, onto_first}
pub use Rattle.std.specs.Ordering.{int_eq, is_gt, is_lt}
pub use Rattle.std.specs.Prelude.{IfSome, MatchResult, nat_le, negsuc, pos, slice_get, unsigned_abs, unwrap_or, ◌&&◌, ◌||◌}
pub use Rattle.mgrammar.specs.Functions.{FunctionTree, ValueFunctionTree, ascii_function, char_function, of_choices, of_values, of_variable}
pub use Rattle.mgrammar.specs.Matching.{atom_of, atom_reversed, turns_of}
pub use Rattle.mspec.specs.PatternTests.{is_at_most, is_match, is_reversed}
pub use Rattle.mmeaning.proofs.Calls.{assoc, residual_is}
pub use Rattle.mmeaning.proofs.Yieldings.{yields_failed, yields_gives, yields_stopped, yields_then, yields_wanting}
pub use Rattle.mmeaning.specs.Functions.{as_whole, as_whole_or_none, call_value, function_value, named_value, text_at, whole_at, whole_text, wholes}
pub use Rattle.mmeaning.specs.Operators.{as_number, as_text, outcome, unaries, unary}
pub use Rattle.mmeaning.specs.Yields.{Yields, YieldsFault}
pub use Rattle.mnum.specs.Num.{units}
pub use Rattle.mspec.specs.Act.{Act, Fails, Gives, Outcome, Text, give, give_some, on_gives, unless, ◌>>=◌, ◌>>◌}
pub use Rattle.mspec.specs.CharacterFunctions.{char_of, character_of, is_over_ascii}
pub use Rattle.mspec.specs.Number.{difference_of, product_of, quotient_of, remainder_of, significant_digits, sum_of, whole_quotient_of}
pub use Rattle.mspec.specs.NumberText.{number_text, numeric_value}
pub use Rattle.mspec.specs.Pattern.{Atom, Count, IsAtMost, IsPermitted, IsJoined, IsRepetition, Matches, Repeated, copied, copies, members, passing}
pub use Rattle.mspec.specs.TextFunctions.{from_place, max_text, piece_of, range_of, to_place}
pub use Rattle.mtext.specs.Endings.{IsEnding, IsFirstOf, IsLent}
pub use Rattle.mtext.specs.PatternPlaces.{AreEnds, AreFirst, AreLed, count_of}
pub use Rattle.mtree.specs.CappedCounts.{capped, capped_count}
pub use Rattle.mtree.specs.Tree.{atom_tree, sign_tree}
pub use Rattle.moperator.specs.TreePatterns.{IsJoinedWithin, is_any_kept, kept_atom, kept_repeated, kept_run, pattern_of}
pub use Rattle.moperator.specs.Codes.{fault_of}
pub use Rattle.moperator.specs.Outcomes.{IsDone, outcome_units}
pub use Rattle.moperator.specs.declared.code.Code.{Code}
pub use Rattle.moperator.specs.declared.code.Code.TheVariants.{M10, Zmem}
