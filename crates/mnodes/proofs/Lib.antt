-- SPDX-License-Identifier: Apache-2.0
mod Words
pub mod SortedEntries
pub mod EntryPlaces
pub mod EntryRanges
pub mod Subtrees
pub mod Holding
pub mod Doubting
