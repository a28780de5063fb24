-- SPDX-License-Identifier: Apache-2.0
mod OperatorWords
pub mod Numbers
pub mod Truths
pub mod PieceBytes
pub mod GivenArguments
pub mod PatternMatches
pub mod PatternWalk
pub mod Signs
pub mod CharacterRefusals
pub mod CalledWords
pub mod Exponents
pub mod PatternParts
pub mod PatternPlaces
pub mod PatternSteps
