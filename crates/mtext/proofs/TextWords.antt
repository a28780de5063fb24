-- SPDX-License-Identifier: Apache-2.0
-- The words that most proofs of this crate have, in one place.
pub use Rattle.std.proofs.Common.{Bool, Bor, Decides, Err, HoldsAt, IfOk, IsErr, IsErrAnd, IsOk, List, MatchOption, None, Ok, Option, Ordering, Result, Some}
pub use Rattle.std.proofs.Common.{Vec, [], add-one, add-sub_cancel, ap, append-nil, append_assoc, arith, below_more, cond, drop, drop-drop, eqb, eqb-true}
pub use Rattle.std.proofs.Common.{false, get_or, inl, inr, is_some, length, length-append, length-drop, length-take-le, min, option_copied, option_map}
pub use Rattle.std.proofs.Common.{option_to_list, pos, refl, replicate, rules, slice_get, slice_range, subst, suc, sym, take, take-add, take-append-drop}
pub use Rattle.std.proofs.Common.{take-take, take_all, take_at, true, true≢false, unwrap_or, zero, ℕ, ℤ, ◌*◌, ◌++◌, ◌+◌, ◌-◌, ◌<◌, ◌==◌, ◌↔◌, ◌∙◌, ◌∷◌, ◌≡◌}
pub use Rattle.std.proofs.Common.{◌≢◌, ◌≤◌, ◌⊎◌}
pub use Rattle.std.proofs.Math.Seq.{drop-append_seam, drop-length, drop-nil, take-append_seam, take-length, take-nil}
pub use Rattle.std.proofs.lemmas.Bool.{cases_eq, cases_lt, eq-eqb, le-leb, lt-leb}
pub use Rattle.std.proofs.lemmas.Bool.Decides.{Decides-at, Decides-eqb, nat_tests}
pub use Rattle.std.proofs.lemmas.List.{append_cancel_left, append_cancel_right, drop_at, drop_min, get_or_append_left, get_or_default, get_or_push, map-append}
pub use Rattle.std.proofs.lemmas.List.{take_more, take_rest}
pub use Rattle.std.proofs.lemmas.List.Edits.{between_none, get_or-between, length-between}
pub use Rattle.std.proofs.lemmas.List.Sums.{prefix_len-le-length, sum_by-append, sum_by-cons}
pub use Rattle.std.specs.List.{onto_first, prefix_len, repeat, starts_with}
pub use Rattle.std.specs.Prelude.{count_by, not, ◌&&◌}
pub use Rattle.memchr.proofs.lemmas.MatchLemmas.{OccursAt-from_part, OccursAt-part, OccursAt-split}
pub use Rattle.memchr.specs.Find.{FindsNeedle, IsFirst, IsFirstByte, NoneBefore, OccursAt, Passes, is_byte}
pub use Rattle.mspec.proofs.PieceLists.{begins_append, begins_split, one_list}
pub use Rattle.mspec.specs.Names.{AllAre}
pub use Rattle.mspec.specs.Pattern.{Atom, Count, IsAtMost, IsPermitted, IsRepetition, IsSegment, Matches, PatternCode, Repeated, copied, copies, is_in}
pub use Rattle.mspec.specs.Pattern.{is_in_any, members}
pub use Rattle.mspec.specs.Pieces.{ArePieces, Lacks, OnlyAtEnd, begins_with, join}
unfoldable pub use Rattle.mspec.specs.Pieces.{pieces_of}
pub use Rattle.mspec.specs.TextFunctions.{find_of, follows, from_place, made, max_text, translated_at}
unfoldable pub use Rattle.mspec.specs.TextFunctions.{first_place, with_piece}
pub use Rattle.mtext.specs.ClassSets.{is_in_set}
pub use Rattle.mtext.specs.Cuts.{IsBehind, closed, delimiter_text}
pub use Rattle.mtext.specs.declared.pattern.CopiesBefore.{CopiesBefore}
pub use Rattle.mtext.specs.Endings.{IsBarred, IsEnding, IsOtherwise, NoneBegins, Repeats, copies_atom, members_atom}
pub use Rattle.mtext.specs.Made.{Answers, translation, without}
pub use Rattle.mtext.specs.PatternPlaces.{AreCopiesBefore, AreEnds, AreLed, IsBefore, IsCopied, IsCopiedTo, IsEnd, IsFewest, IsNumber, AreFirst, IsLed, IsNear}
pub use Rattle.mtext.specs.PatternPlaces.{atom_of, code_of, codes_of, count_of, no_copies, repeated_of}
