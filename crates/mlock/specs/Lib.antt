-- SPDX-License-Identifier: Apache-2.0
pub mod Holdings
pub mod Above
pub mod Tallies
pub mod Hashes
pub mod Words
