-- SPDX-License-Identifier: Apache-2.0
use Rattle.mnodes.proofs.Words.{rules}
use Rattle.std.proofs.lemmas.Fn.{always_returns_same}
use Rattle.mnodes.proofs.EntryPlaces.{found_at, gap_at}
use Rattle.mnodes.proofs.SortedEntries.{order}
use Rattle.mnodes.proofs.plain.search.Goals as goal

pub returns-clause-found : goal.returns-clause-found
returns-clause-found c =
    found_at _ c.requires _ _ c.binary_search_by.ensures.bound (c.binary_search_by.ensures.position (λ e. order e.key c.args.key.now) (always_returns_same _ _ _ (λ a r g called. search rules)))

pub returns-clause-absent : goal.returns-clause-absent
returns-clause-absent c =
    gap_at _ c.requires _ _ (c.binary_search_by.ensures.position (λ e. order e.key c.args.key.now) (always_returns_same _ _ _ (λ a r g called. search rules)))
