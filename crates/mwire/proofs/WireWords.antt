-- SPDX-License-Identifier: Apache-2.0
-- The words that most proofs of this crate have, in one place.
pub use Rattle.std.proofs.Common.{Bool, not, IsTrue, Err, IfErr, IsErr, List, Ok, OnOk, Option, Result, Some, [], ap, append-nil, append_assoc, arith, drop}
pub use Rattle.std.proofs.Common.{false, get_or, inl, inr, is_err, is_ok, length, length-append, length-drop, map, min, refl, rules, slice_index, subst, suc}
pub use Rattle.std.proofs.Common.{sym, take, true, zero, ℕ, ◌++◌, ◌+◌, ◌-◌, ◌<◌, ◌==◌, ◌^◌, ◌∙◌, ◌∷◌, ◌≡◌, ◌≢◌, ◌≤◌}
pub use Rattle.std.proofs.KnownBytes.{Appends-kept, Appends-nil, Appends-trans, Consumes-kept, Consumes-nil, Consumes-trans}
pub use Rattle.std.proofs.lemmas.Bool.Decides.{nat_tests}
pub use Rattle.std.proofs.lemmas.List.{get_or-append-add, length-take, length-take-le, map-append, take-append-drop, take-append-le, take_all, take_min}
pub use Rattle.std.proofs.lemmas.List.{take_more}
pub use Rattle.std.proofs.lemmas.List.Elements.{All-append, All-cons, All-head, All-nil, All-push, All-tail}
pub use Rattle.std.proofs.lemmas.List.Splits.{length-slice_split, slice_split_at, slice_split_first, slice_split_none}
pub use Rattle.std.proofs.lemmas.List.Sums.{fails_before_first, position_or_len_is}
pub use Rattle.std.proofs.Math.Seq.{take-append-add}
pub use Rattle.std.specs.Fmt.{decimal}
unfoldable pub use Rattle.std.specs.Fmt.{digits}
pub use Rattle.std.specs.Io.KnownBytes.{Appends, Consumes, IsAtEnd, Keeps}
pub use Rattle.std.specs.List.{All, after_first, before_first, flat_map, list_all, position_or_len, slice_split}
pub use Rattle.std.specs.Prelude.{MatchResult, None, codes, if◌then◌else◌, nat_lt, replicate, ◌||◌}
pub use Rattle.std.specs.Str.Lines.{lines, lines_of_parts, strip_carriage_return}
pub use Rattle.mspec.specs.Act.{Text}
unfoldable pub use Rattle.mspec.specs.Act.{assigned_to, level_begun, no_locals, value_of}
pub use Rattle.mspec.specs.Code.{Lost, Own, Store, Zlong}
pub use Rattle.mspec.specs.Literal.{digits_after, is_digit}
pub use Rattle.mexec.specs.declared.text.Ended.{Ended}
pub use Rattle.mexec.specs.declared.text.Ended.TheVariants.{Done, Fault, Halt}
pub use Rattle.mmeaning.specs.History.{History, answered, opening, replies, world_after}
pub use Rattle.mmeaning.specs.Transition.{Event, Faulted, Finished, Halted, Reply, Settings, Transition, World, is_failure, max_line, normal}
pub use Rattle.moperator.specs.declared.code.Code.TheVariants.{M1, M10, M13, M15, M2, M28, M4, M6, M7, M9, M94, Zarg, Zchar, Zdepth, Zgrant, Zlevel, Zline}
pub use Rattle.moperator.specs.declared.code.Code.TheVariants.{Zlocked, Zmem, Zover, Zsteps, Zstore, Zsub, Zsyntax, Zterm}
pub use Rattle.mnodes.specs.declared.store.NodeStore.{Ghosts}
pub use Rattle.mworld.specs.Isolated.{IsEquallyTold, IsTold, IsToldEach, IsToldUntilShut, RanFirst, RanUntilShut, replies_of, told_of}
pub use Rattle.mnodes.proofs.Doubting.{Doubts-same, undoubted}
pub use Rattle.mnodes.specs.Doubt.{Doubts}
pub use Rattle.mnodes.specs.Over.{DoubtsOver}
pub use Rattle.mworld.proofs.Doubted.{Doubts-on}
pub use Rattle.mworld.specs.View.{Seen, doubt_of, event_of, reply_of, seen_of, settings_of, world_of}
pub use Rattle.mwire.specs.Answers.{AnswersCutShort, LineAnswered, LinesAnswered, RunAnswered, WireLineAnswered, answer_text, line_text, replies_behind}
pub use Rattle.mwire.specs.Connections.{AreOfPeers, AreServed, HasServedEach, ServesEach, Visit}
pub use Rattle.mwire.specs.Only.{RanOnly, RepliesCutShort, ServeOnlyCutShort, ServesOnly, told_text}
pub use Rattle.mwire.specs.Progress.{AreOpen, EachAnswered, FrontSent, Gathered, HasGathered, HasServed, IsCut, IsOpen, LineSent, SentUpTo, Stands, TakesOn}
pub use Rattle.mwire.specs.Steps.{AreSteps, StepsUntilShut, StoreSufficedForEach}
pub use Rattle.mworld.specs.Sufficed.{StoreSufficed}
pub use Rattle.mwire.specs.Serves.{EndsBy, Outcome, ServeCutShort, Serves}
pub use Rattle.mwire.specs.Watched.{calls_of, counted_on, failed_of, inner_of, stalls_of}
pub use Rattle.mwire.specs.Wire.{Ignored, Runs, TooLong, Unreadable, WireLine, before_events, but_last, classify, events_of, finished_lines, is_escaped}
pub use Rattle.mwire.specs.Wire.{is_event, is_line_end, is_space, is_terminal, line_served, lines_served, output_text, parts_of, reply_text, shown}
pub use Rattle.mwire.specs.Wire.{shown_character, stream_served, too_long_text, unreadable_text}
pub use Rattle.mwire.specs.WireLaws.{EventsHaveStream, HasLine, LinesHaveAnswers, NormalAnswersAreServed, NormalStreamsAreServed, line_of}
pub use Rattle.mwire.specs.WireLines.{space_read, wire_line_in}
pub use Rattle.mwire.specs.declared.fault.WireFault.{WireFault}
pub use Rattle.mwire.specs.declared.fault.WireFault.TheVariants.{Memory, Read, Write}
