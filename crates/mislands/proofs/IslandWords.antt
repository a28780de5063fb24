-- SPDX-License-Identifier: Apache-2.0
-- The words that most proofs of this crate have, in one place.
pub use Rattle.std.proofs.Common.{Bool, IfSome, List, None, Option, Some, [], ap, append_assoc, arith, codes, cond, count_by, drop, false, get_or, inl, inr}
pub use Rattle.std.proofs.Common.{length, length-append, length-take, map, nat_le, not, option_and_then, option_map, refl, slice_get, subst, sym, take}
pub use Rattle.std.proofs.Common.{take_all, true, unwrap_or, ℕ, ℤ, ◌&&◌, ◌++◌, ◌+◌, ◌-◌, ◌<◌, ◌||◌, ◌∙◌, ◌∷◌, ◌≡◌, ◌≤◌, ◌⊎◌}
pub use Rattle.std.proofs.lemmas.Bool.{and_from, and_parts, cases_Bool, false_from_ne_true, false≢true, or_cases, or_left, or_right}
pub use Rattle.std.proofs.lemmas.List.{get_or-map, length-map, map_more, map_push}
pub use Rattle.std.proofs.lemmas.List.Folds.{list_any-append, list_any_at}
pub use Rattle.std.proofs.lemmas.Option.{IfSome_then, none-some, same_Some}
pub use Rattle.std.specs.Cmp.Lexicographic.{bytes_decides}
pub use Rattle.std.specs.List.{filter, find, flat_map, list_any, range_with_len}
pub use Rattle.mgrant.specs.Document.{Written, WrittenAccount, WrittenGrant, account_in, account_keys, account_with, count_items, document_keys, each_read}
pub use Rattle.mgrant.specs.Document.{entries_in, entries_of, max_entries, has_only, integer_at, integers_at, language_at, settings_of, text_at, written}
pub use Rattle.mgrant.specs.Document.{written_account, written_grant, written_with}
pub use Rattle.mgrant.specs.Islands.{IsIslandAt, IsIslandOf}
pub use Rattle.mgrant.specs.Words.{Bytes, texts_of}
pub use Rattle.mspec.specs.Access.{Account, Settings, account_at, account_named, name_at}
pub use Rattle.mspec.specs.Node.{Text}
pub use Rattle.mspec.specs.Trees.{text_eq}
pub use Rattle.toml.specs.Data.{Data, Items, Members, as_array, as_table, get_member, item, no_items}
pub use Rattle.toml.specs.View.{array_view, items_view, table_view}
pub use Rattle.mislands.specs.Listing.{AreIslands, EachInOne, IsIslandBy, adds, has, is_among, lines_of, named, names_of, none}
pub use Rattle.mislands.specs.Written.{Island, texts_in, written_name, written_names}
