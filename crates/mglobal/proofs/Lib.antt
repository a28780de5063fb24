-- SPDX-License-Identifier: Apache-2.0
mod GlobalWords
pub mod Between
pub mod Sides
pub mod Orders
pub mod Searches
pub mod LineWalks
pub mod PlacesLeft
pub mod LinesKept
pub mod CopyLaws
