-- SPDX-License-Identifier: Apache-2.0
mod KeyWords
pub mod NumberBytes
pub mod Pushes
pub mod ShortTexts
pub mod Keys
pub mod TextFronts
pub mod SubscriptFronts
pub mod SubscriptLists
pub mod SubsKeys
pub mod KeyWalks
pub mod NodeFronts
pub mod Children
pub mod Searches
pub mod NumericValues
pub mod Heads
