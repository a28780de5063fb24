-- SPDX-License-Identifier: Apache-2.0
-- The words that most proofs of this crate have, in one place.
pub use Rattle.std.proofs.Common.{Bool, List, None, Option, Some, [], ap, append_assoc, cond, false, is_some, map, not, refl, rules, subst, subst₂, suc, sym}
pub use Rattle.std.proofs.Common.{true, zero, ℕ, ⊎_elim, ◌&&◌, ◌++◌, ◌+◌, ◌-◌, ◌||◌, ◌∙◌, ◌∷◌, ◌≡◌}
pub use Rattle.std.proofs.lemmas.Bool.{and_from, and_parts, eq-eqb, eqb-true, false_from_ne_true, or_cases, or_left, or_right}
pub use Rattle.std.proofs.lemmas.Cmp.{nat_cmp_total}
pub use Rattle.std.proofs.lemmas.List.{append-nil, map-append}
pub use Rattle.std.proofs.lemmas.List.Elements.{filter-append, filter_agree}
pub use Rattle.std.proofs.lemmas.Map.Views.{any-filter_same}
pub use Rattle.std.specs.Cmp.{IsTotalOrder}
pub use Rattle.std.specs.Cmp.Derive.{one_truth}
pub use Rattle.std.specs.Cmp.Lexicographic.{bytes_decides}
pub use Rattle.std.specs.FinMap.{FinMap, IsAntisymmetric, empty, entries, entries-from_sorted, entries-insert, entries_sorted, from_sorted, get, get-empty}
pub use Rattle.std.specs.FinMap.{get-entries, get-from_sorted, get-insert, get-remove, gets, insert, keys, nat_cmp-IsAntisymmetric, remove, retain_keys}
pub use Rattle.std.specs.FinMap.{same_map}
pub use Rattle.std.specs.FinMap.Entries.{find-where_key, is_sorted-where_key, put, where_key}
pub use Rattle.std.specs.List.{filter, flat_map, list_all, list_any}
pub use Rattle.std.specs.Ordering.{eq_by_cmp, nat_cmp}
pub use Rattle.std.specs.Prelude.{IsTrue, codes, if◌then◌else◌, nat_eq, nat_lt, option_map, unwrap_or, ◌↔◌}
pub use Rattle.std.specs.declared.cmp.Ordering.{Ordering}
pub use Rattle.mspec.proofs.Basics.{by_test, unopposed}
pub use Rattle.mspec.proofs.LockOrders.{held_cmp_exact, held_cmp_total}
pub use Rattle.mspec.proofs.MapCuts.{cut_drops, cut_removed, equal_of, get_cut}
pub use Rattle.mspec.proofs.NodeOrders.{node_cmp_exact, node_cmp_total}
pub use Rattle.mspec.specs.Access.{Account, Grant, Mode, Read, Settings, Write, allows, lets, may}
pub use Rattle.mspec.specs.Act.{Outcome, State}
pub use Rattle.mspec.specs.Flow.{IsIsland, Reaches, carries, itself, through}
pub use Rattle.mspec.specs.Globals.{Globals, following_at, is_beside, is_line_of, is_node_within, lines_of, order_at, routines_of, status, subscripts_under}
pub use Rattle.mspec.specs.Globals.{without_subtree}
pub use Rattle.mspec.specs.LockConflict.{Held, LockName, Locks, count, counted, given_back, has_conflict, held, held_cmp, is_conflict, is_within, max_count}
pub use Rattle.mspec.specs.LockConflict.{one_more, released, taken}
pub use Rattle.mspec.specs.Node.{Node, Text}
pub use Rattle.mspec.specs.Number.{significant_digits}
pub use Rattle.mspec.specs.Plan.{Ask, Done, Following, Give_back, Kill, May, Neighbour, Op, Ops, Plan, Put, Release, Routine, Status, Take, Value, cut_short}
pub use Rattle.mspec.specs.Plan.{perform}
pub use Rattle.mspec.specs.Trees.{Direction, children_in, following, front, is_below, last, neighbour, text_eq}
unfoldable pub use Rattle.mgrammar.specs.Languages.{line_in}
pub use Rattle.mmeaning.proofs.Histories.{history_is_normal, normal_never_fails, normal_transitions_are_history}
pub use Rattle.mmeaning.specs.History.{History, NoneFailed, answered, opening, replies, world_after}
pub use Rattle.mmeaning.specs.LineMeaning.{Completion}
pub use Rattle.mmeaning.specs.Shared.{Shared, act, guarded, may_call, may_lock, may_read, may_write, took}
pub use Rattle.mmeaning.specs.Transition.{Ending, Event, FailedTransition, Faulted, Finished, Halted, Reply, Session, Transition, TransitionBy, World}
pub use Rattle.mmeaning.specs.Transition.{at_account, at_tree, checked, ended, is_ascii, is_failure, is_too_long, kept, lost, new_session, normal, plan_of}
pub use Rattle.mmeaning.specs.Transition.{reply_of, session_or_new, settled, state_of}
pub use Rattle.misolation.specs.Agreement.{Agree, Run}
pub use Rattle.misolation.specs.Alike.{AlikeSettings, AlikeTransitions, AlikeWorlds, AllowsAll, SameEntries}
pub use Rattle.misolation.specs.AlikeLaws.{SameEntriesAgree, TransitionsByAllowed, TransitionsBySessions}
pub use Rattle.misolation.specs.Alone.{alone, only}
pub use Rattle.misolation.specs.Cut.{AreFit, IsFit, cut_events, cut_locks, cut_settings, cut_shared, cut_world, holds_by, is_between, is_inside, is_member}
pub use Rattle.misolation.specs.Cut.{may_hold, part}
pub use Rattle.misolation.specs.HistoryLaws.{AgreeingReplies, Answered, HistoriesKeepFit, HistoryHasTrace, InterpreterIsolates, IsAlone, Isolation}
pub use Rattle.misolation.specs.HistoryLaws.{OpeningIsCut, OpeningIsFit, PartIsAlone, PartIsHistory, PartIsTrace, PartOfTrace, PromiseIsKept, SameReplies}
pub use Rattle.misolation.specs.HistoryLaws.{events_of, sent_to}
pub use Rattle.misolation.specs.Islands.{KeepsTies, LaidTogether, Placement, StrangersRefused, on, refusal}
pub use Rattle.misolation.specs.PlanLaws.{Actor, CutIsFit, Exchange, InsideOperation, InsideOperations, InsidePlan, InsidePlans, OutsideOperations, OutsidePlan}
pub use Rattle.misolation.specs.PlanLaws.{OutsidePlans, PlansKeepFit, cut_ops, exchanges, ops_of}
pub use Rattle.misolation.specs.Reach.{Accounts, IsClosed, Link, leads, link, links, links_by, reachers}
pub use Rattle.misolation.specs.ReachLaws.{IsLeastClosed, ReachIsChains, ReachIsKept, ReachIsLeastClosed}
pub use Rattle.misolation.specs.TransitionLaws.{InsideTransition, InsideTransitions, OutsideTransition, OutsideTransitions, TransitionWrites}
pub use Rattle.misolation.specs.TransitionLaws.{TransitionsAreIsolated, TransitionsKeepFit, TransitionsWrite, exchanges_by, line_exchanges, line_writes}
pub use Rattle.misolation.specs.TransitionLaws.{writes_by}
pub use Rattle.misolation.specs.Writes.{GlobalWrite, Kills, Puts, write_of, writes, written, written_by}
