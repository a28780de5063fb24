-- SPDX-License-Identifier: Apache-2.0
-- The words that most proofs of this crate have, in one place.
pub use Rattle.std.proofs.Common.{Bool, Global, List, None, Option, Some, Vec, [], ap, append_assoc, arith, cond, drop, false, get_or, length, map, not, refl}
pub use Rattle.std.proofs.Common.{rules, subst, suc, sym, take, true, zero, ℕ, ◌++◌, ◌+◌, ◌<◌, ◌∙◌, ◌∷◌, ◌≡◌, ◌≤◌}
pub use Rattle.std.proofs.lemmas.List.{append-nil, map-append, take-append-drop, take-map, take_all, take_more}
pub use Rattle.std.specs.FinMap.{FinMap, from_entries, get, get-insert, get-remove, insert, nat_cmp-IsAntisymmetric, remove, same_map}
pub use Rattle.std.specs.Ordering.{is_eq, nat_cmp}
pub use Rattle.std.specs.Prelude.{Err, IfErr, IsErr, IsSome, IsTrue, Ok, Result, is_some, nat_eq, OnOk, option_map, slice_get, unwrap_or, ◌↔◌}
pub use Rattle.meval.specs.Sessions.{cursor_of, session_of}
pub use Rattle.meval.specs.declared.session.Session.{Session}
pub use Rattle.mworld.proofs.Doubted.{Doubts-on}
pub use Rattle.mnodes.proofs.Doubting.{Doubts-same, Doubts-then, undoubted}
pub use Rattle.mnodes.specs.Doubt.{Doubts}
pub use Rattle.mnodes.specs.Over.{DoubtsOver}
pub use Rattle.mexec.specs.Runs.{is_kept_by, EndsBy, RunsText, ending_of, is_halt}
pub use Rattle.misolation.proofs.RunsTold.{equally_told, history_on, tells_on, told_apart}
pub use Rattle.misolation.specs.Cut.{AreFit, is_inside, is_member, part}
pub use Rattle.misolation.specs.Telling.{Tells, Told, told_by, told_to}
pub use Rattle.mmeaning.specs.Transition.{Ending, Event, FailedTransition, Faulted, Finished, Halted, Shared, Transition, TransitionBy, World, act, at_account}
pub use Rattle.mmeaning.specs.Transition.{at_tree, begun, checked, ended, is_ascii, is_failure, is_lost, is_too_long, kept, lost, new_session, normal, refused}
pub use Rattle.mmeaning.specs.Transition.{session_or_new, settled, text_run}
pub use Rattle.moperator.specs.Codes.{fault_of}
pub use Rattle.moperator.specs.declared.code.Code.{Code}
pub use Rattle.mspec.specs.Access.{Settings, account_at, account_of, name_at, steps_at}
pub use Rattle.mspec.specs.Act.{Act, Fails, Gives, State}
unfoldable pub use Rattle.mspec.specs.Act.{level_begun}
pub use Rattle.mspec.specs.Code.{Lost, Memory, Own, Store, Zchar, Zline, Zterm}
pub use Rattle.mworld.specs.Admits.{Admits, Passes}
pub use Rattle.mworld.specs.Isolated.{IsToldBetween, IsToldEach, IsToldUntilShut, IsUnseen, RanFirst, RanUntilShut, TellsOne, replies_of, told_of}
pub use Rattle.mworld.specs.View.{doubt_of, event_of, reply_of, sessions_of, settings_of, shared, world_of}
