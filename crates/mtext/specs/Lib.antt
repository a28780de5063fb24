-- SPDX-License-Identifier: Apache-2.0
pub mod ClassSets
pub mod Cuts
pub mod Endings
pub mod Made
pub mod PatternPlaces
