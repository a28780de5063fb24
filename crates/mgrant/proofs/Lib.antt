-- SPDX-License-Identifier: Apache-2.0
pub mod GrantWords
mod NameTests
mod GoodLists
mod Places
mod Allowances
mod Parts
pub mod EachRead
mod Keys
mod Marks
mod Seen
mod Chains
mod IslandsFound
mod Assembled
