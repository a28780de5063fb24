-- SPDX-License-Identifier: Apache-2.0
mod CacheWords
mod EntriesOf
mod EntryLists
mod Held
mod Shelves
mod Texts
