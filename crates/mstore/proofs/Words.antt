-- SPDX-License-Identifier: Apache-2.0
-- The words that most proofs of this crate have, in one place.
pub use Rattle.std.proofs.Common.{All, Bool, Equal, Err, Greater, IfErr, IfOk, IsPermutation, IsSorted, IsTrue, Less, List, None, Ok, OnErr, OnOk, Option}
pub use Rattle.std.proofs.Common.{Ordering, Result, Some, T, [], add-one, ap, append-nil, ap₂, arith, codes, cond, drop, drop-cons, false, find, flat_map}
pub use Rattle.std.proofs.Common.{get_or, if◌then◌else◌, inl, inr, int_cmp, int_eq, int_lt, is_eq, is_ok, is_some, length, map, negsuc, not, option_copied}
pub use Rattle.std.proofs.Common.{option_map, pos, refl, reverse, rules, slice_get, slice_index_or, slice_set, subst, suc, sym, take, true, zero, ℕ, ℤ, ◌&&◌}
pub use Rattle.std.proofs.Common.{◌++◌, ◌+◌, ◌-◌, ◌<◌, ◌||◌, ◌∙◌, ◌∷◌, ◌≡◌, ◌≢◌, ◌≤◌, ◌⊎◌}
pub use Rattle.std.proofs.lemmas.Bool.{and_from, and_parts, cases_Bool, cases_lt, cases_order, false_from_ne_true, not-true, true≢false}
pub use Rattle.std.proofs.lemmas.Cmp.{tied_itself}
pub use Rattle.std.proofs.lemmas.Int.{ints}
pub use Rattle.std.proofs.lemmas.List.{length-drop, reverse-append, take_all}
pub use Rattle.std.proofs.lemmas.List.Elements.{All-append, All-cons, All-drop, All-head, All-map, All-nil, All-set, All-tail, All-take}
pub use Rattle.std.proofs.lemmas.List.Folds.{find-append}
pub use Rattle.std.proofs.lemmas.List.Sorted.{Contains-permutation, IsPartitionPoint-from_clause, IsPermutation-sym, ranks_by, searchable_from_sorted}
pub use Rattle.std.proofs.lemmas.List.Sorted.{sorted_far}
pub use Rattle.std.specs.Cmp.{Equal-is, IsTotalOrder, both_ways, eq_by_cmp_equiv, nat_cmp_is}
pub use Rattle.std.specs.Cmp.Lexicographic.{bytes_decides, nat_list_cmp_total, slice_cmp, slice_partial_cmp}
pub use Rattle.std.specs.FinMap.{FinMap, IsAntisymmetric, empty, entries, entries-from_sorted, entries-insert, entries_sorted, from_entries, from_sorted, get}
pub use Rattle.std.specs.FinMap.{get-entries, get-from_entries, get-from_sorted, get-insert, get-retain_keys, insert, len-empty, len-entries}
pub use Rattle.std.specs.FinMap.{nat_cmp-IsAntisymmetric, retain_keys, same_entries_map, same_map, slice_cmp-IsAntisymmetric}
pub use Rattle.std.specs.FinMap.Entries.{below_all, by_order, find-where_key, is_sorted, is_sorted-put, is_sorted-where_key, put, where_key}
pub use Rattle.std.specs.List.{AllByRecursion, list_all, list_any}
pub use Rattle.std.specs.Option.{option_or}
pub use Rattle.std.specs.Ordering.{eq_by_cmp, is_le, is_lt, is_some_and, nat_cmp, ordering_reverse, ordering_then, partial_ordering_then}
pub use Rattle.mkey.specs.Key.{BoundsKeysOf, IsKey, IsKeyBy, none_empty, old_digits}
pub use Rattle.mspec.proofs.KeyOrders.{key_order}
pub use Rattle.mspec.proofs.KeyRanges.{keys_are_injective, subtrees_are_ranges}
pub use Rattle.mspec.proofs.KeyReadings.{keys_are_read}
pub use Rattle.mspec.proofs.NodeOrders.{node_cmp_exact, node_cmp_total, same_node}
pub use Rattle.mspec.specs.Globals.{Globals, is_between, is_node_within, keys_of, next_key, previous_key, without_subtree}
pub use Rattle.mspec.specs.KeyBytes.{IsStored, key_bytes, subtree_end}
pub use Rattle.mspec.specs.KeyLaws.{IsBetween, IsWithin, NoneEmpty}
pub use Rattle.mspec.specs.KeyReading.{node_of}
pub use Rattle.mspec.specs.Node.{Node, Text}
pub use Rattle.mspec.specs.NodeOrder.{node_cmp}
pub use Rattle.mspec.specs.Number.{significant_digits}
pub use Rattle.mspec.specs.TextFunctions.{max_text}
pub use Rattle.sqlite.proofs.Callers.{IsPlain, command_of, first_as, one_step, reads_as, runs_as, statement_of}
pub use Rattle.sqlite.specs.Cast.{cast, cast_row}
pub use Rattle.sqlite.specs.Collation.TheVariants.{Binary}
pub use Rattle.sqlite.specs.Command.{Command}
pub use Rattle.sqlite.specs.Command.TheVariants.{CreateTable, Delete, Insert, InsertOr, Rows, Select, Update}
pub use Rattle.sqlite.specs.Does.{Does, Tally, lacks_sequence}
pub use Rattle.sqlite.specs.Effect.{Database, IsDatabase, RefusesToRead}
pub use Rattle.sqlite.specs.Held.{Held, state}
pub use Rattle.sqlite.specs.Kind.TheVariants.{Any, Integer}
pub use Rattle.sqlite.specs.Listing.{reads_listing}
unfoldable pub use Rattle.sqlite.specs.Listing.{understood}
pub use Rattle.sqlite.specs.Order.{Row, column}
pub use Rattle.sqlite.specs.Program.{overlay}
pub use Rattle.sqlite.specs.Query.{IsAnswer, Output, Query, end, inner, output, output_cmp}
pub use Rattle.sqlite.specs.Rows.{Clears, Deletes, InsertsOr, Judged, Meets, Puts, Task, Tries, TriesEach, Updates, Upserts, Written, count_of, nothing}
pub use Rattle.sqlite.specs.Source.{Source}
pub use Rattle.sqlite.specs.Source.TheVariants.{Values}
pub use Rattle.sqlite.specs.State.{Executes, ExecutesInside, FailsToShow, HasCleanDisk, IsLive, IsRolledBack, IsUnchanged, Opens, RunsCommand, Shows, ShowsRows}
pub use Rattle.sqlite.specs.State.{State, Writes, mode_of, shows_rows, store_error}
unfoldable pub use Rattle.sqlite.specs.State.{ExecutesIn, FailsToQuery, IsNotRun, QueriesRow, Shown}
pub use Rattle.sqlite.specs.Steps.{FailsToCommit}
pub use Rattle.sqlite.specs.Term.{Term, col, lit, op2}
pub use Rattle.sqlite.specs.declared.error.Error.{Error}
pub use Rattle.sqlite.specs.declared.error.Error.TheVariants.{QueryReturnedNoRows, SqlInputError}
pub use Rattle.sqlite.specs.declared.types.Value.{Value}
pub use Rattle.sqlite.specs.declared.types.Value.TheVariants.{Blob, Int, Null, Real}
pub use Rattle.sqlite.specs.Tree.{Trees}
pub use Rattle.sqlite_rules.proofs.ListLemmas.{all_from, all_has, contains_had, has_at, has_contained, has_either, has_filtered, has_found, has_kept, has_left}
pub use Rattle.sqlite_rules.proofs.ListLemmas.{has_right, some_from}
pub use Rattle.sqlite_rules.proofs.PlaceLemmas.{given, tied_same}
pub use Rattle.sqlite_rules.proofs.TableLemmas.{int_is, put_all_adds, put_all_has, put_all_keeps}
pub use Rattle.sqlite_rules.specs.Calls.{ids_of}
pub use Rattle.sqlite_rules.specs.Edit.{are_fresh, edit_of, id_in, is_taken, next_rowid, put_all, with_rowid, without_all}
pub use Rattle.sqlite_rules.specs.Lists.{Has}
pub use Rattle.sqlite_rules.specs.declared.error.Rowids.TheVariants.{Chosen, Given}
pub use Rattle.sqlite_schema.specs.declared.command.Conflict.TheVariants.{Abort}
pub use Rattle.sqlite_schema.specs.declared.command.Upsert.{Upsert}
pub use Rattle.sqlite_schema.specs.declared.program.Program.{Program}
pub use Rattle.sqlite_schema.specs.declared.schema.Keys.TheVariants.{Enforced}
pub use Rattle.sqlite_sql.specs.Ops.{is_true}
unfoldable pub use Rattle.sqlite_sql.specs.Ops.{binary}
pub use Rattle.sqlite_sql.specs.declared.ops.BinaryOp.TheVariants.{Compare}
pub use Rattle.sqlite_sql.specs.declared.ops.CompareOp.TheVariants.{Eq, Ge, Lt, Ne}
unfoldable pub use Rattle.sqlite_tied.specs.Compute.{everything}
pub use Rattle.sqlite_trees.proofs.Doubt.{no_doubt}
pub use Rattle.sqlite_trees.specs.Tree.{has_rowid, rowid, without_rowid}
pub use Rattle.sqlite_trees.specs.declared.error.StoreError.{StoreError}
pub use Rattle.sqlite_trees.specs.declared.error.StoreError.TheVariants.{Broken, Corrupt, Full, Io, OutOfMemory, Unstorable}
pub use Rattle.sqlite_trees.specs.declared.store.Store.{Ghosts}
pub use Rattle.sqlite_typed.proofs.TestLemmas.{at_blobs, at_ints, at_texts, bytes_eq_refl, last_term, same_bytes}
pub use Rattle.sqlite_value.proofs.KeyLemmas.{by_key_total, first_key-plain}
pub use Rattle.sqlite_value.proofs.OrderLemmas.{then-Equal, value_cmp-Blob, value_cmp-Int, value_cmp_total}
pub use Rattle.sqlite_value.specs.Keys.{by_key, plain}
pub use Rattle.sqlite_value.specs.Order.{bytes}
unfoldable pub use Rattle.sqlite_value.specs.Order.{value_cmp}
pub use Rattle.sqlite_value.specs.declared.keys.Key.{Key}
pub use Rattle.mstore.specs.Database.{AllGive, DoubtsStore, GivesVersion, HasVersion, IsBare, IsBlank, IsCalm, IsIdle, IsMemory, IsMigrated, IsOneVersion}
pub use Rattle.mstore.specs.Database.{IsStore, IsUntouched, OnlyGives, ShowsAll, ShowsNodes, ShowsNodesBy, ShowsVersion, Stays, TableOver, content, doubt_as}
pub use Rattle.mstore.specs.Database.{doubt_in, doubt_of, globals_in, holds, old_version, stored, table_doubt, this_version, version_name}
pub use Rattle.mnodes.proofs.Doubting.{Doubts-same, Doubts-then, undoubted}
pub use Rattle.mnodes.specs.Doubt.{Doubts, shut}
pub use Rattle.mnodes.specs.Over.{DoubtsOver}
pub use Rattle.mnodes.specs.Entries.{AreEntries, IsAt, IsGapFor, IsPlaceOf, bytes_of, entries_of, entry_of, held, is_before, key_within}
pub use Rattle.mnodes.specs.Held.{AreHeld, IsHeld}
pub use Rattle.mstore.specs.InMemory.{over_memory}
pub use Rattle.mstore.specs.Keyed.{AreKeyed, globals_by, lookup_by}
pub use Rattle.mstore.specs.Layout.{column_of, index_of, meta, no_schema, node, schema, table_of}
pub use Rattle.mstore.specs.Map.{Content, HasNone, IsNearest, PutsAt, RemovesWithin, ShowsBytes, in_bounds, is_below, is_down, is_nearer, step_key}
pub use Rattle.mstore.specs.Moving.{IsAny, IsMoving, IsOldCalm, IsOldStore, IsWorking, MovesKey, MovesRow, RanInside, ShowContent}
pub use Rattle.mstore.specs.Rows.{AreNodes, AreNumbered, AreRows, HasOther, HasOtherBy, IsInForm, IsAbove, IsInFormBy, IsNode, IsValue, RiseFrom, ShowsKey}
pub use Rattle.mstore.specs.Rows.{ShowsNodeBy, ShowsValue, is_at, key_of, lookup, shown_of, value_of}
pub use Rattle.mstore.specs.Statements.{Add, Ahead, Each, Get, Gives, Kill, MetaTable, NodeTable, Put, Replace, Set, Statement, Step, Version, Which}
pub use Rattle.mstore.specs.Statements.{sql}
pub use Rattle.mstore.specs.Versions.{HoldBy, digits_of, number_of}
pub use Rattle.mnodes.specs.declared.plain.Entry.{Entry}
