-- SPDX-License-Identifier: Apache-2.0
-- The words that most proofs of this crate have, in one place.
pub use Rattle.std.proofs.Common.{All, Bool, Contains, Err, Global, IfOk, IfSome, List, MatchResult, None, Ok, OnErr, OnOk, Option, Ordering, Result, Some, Vec}
pub use Rattle.std.proofs.Common.{[], ap, arith, cond, false, inl, inr, length, length-take, nat_eq, not, refl, slice_index_or, subst, suc, sym, take, true, ℕ}
pub use Rattle.std.proofs.Common.{◌++◌, ◌+◌, ◌-◌, ◌<◌, ◌∙◌, ◌∷◌, ◌≡◌, ◌≢◌, ◌≤◌, ◌⊎◌}
pub use Rattle.std.proofs.lemmas.Bool.{false_from_ne_true}
pub use Rattle.std.proofs.lemmas.List.Elements.{All-filter, Contains-append_left, Contains-get_or, Contains-push}
pub use Rattle.std.proofs.lemmas.Option.{get_or_from_slice_get, slice_get_within}
pub use Rattle.std.proofs.lemmas.Result.{err_from_is_err_and}
pub use Rattle.std.specs.Cmp.Lexicographic.{bytes_decides, pointwise, same_text}
pub use Rattle.std.specs.FinMap.{FinMap, IsAntisymmetric, entries, entries-from_sorted, entries-insert, entries_sorted, from_sorted, get, get-entries}
pub use Rattle.std.specs.FinMap.{get-from_sorted, get-insert, insert, retain_keys, same_map}
pub use Rattle.std.specs.List.{AllByRecursion, slice_get, starts_with}
unfoldable pub use Rattle.std.specs.List.{IsDistinct}
pub use Rattle.std.specs.Map.{keys_of, lookup, lookup_entry, remove_entry}
pub use Rattle.std.specs.Result.{result_ok}
pub use Rattle.lru.proofs.CallerLemmas.{Contains-lookup, Contains-promoted, Contains-put_entries, Contains-remove_entry}
pub use Rattle.lru.specs.LruCache.{LruCache, promoted, put_entries}
pub use Rattle.mgrammar.specs.Reading.{line_at}
pub use Rattle.mgrammar.specs.RoutineLine.{RoutineLineTree, routine_line_at, spell_routine_line, well_routine_line}
pub use Rattle.mscan.specs.declared.fault.ParseFault.TheVariants.{Syntax}
pub use Rattle.mspec.specs.Node.{Node, Text}
pub use Rattle.mnodes.proofs.Doubting.{Doubts-same, Doubts-then, undoubted}
pub use Rattle.mnodes.specs.Doubt.{Doubts}
pub use Rattle.mnodes.specs.Over.{DoubtsOver}
pub use Rattle.mnodes.specs.Held.{AreHeld, IsHeld}
pub use Rattle.mtree.specs.Tree.{line_tree, routine_line_tree}
pub use Rattle.mcache.specs.Kept.{AreTrees, Entry, IsKept, IsOf, IsWithin, IsWithinOr}
pub use Rattle.mcache.specs.NodeTexts.{AreKeysOf, AreOf, IsAmong, IsAt, IsIn, IsInOr, IsKeptAt}
