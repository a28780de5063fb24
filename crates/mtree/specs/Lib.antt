-- SPDX-License-Identifier: Apache-2.0
pub mod Functions
pub mod Brackets
pub mod CappedCounts
pub mod Tree
