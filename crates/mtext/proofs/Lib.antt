-- SPDX-License-Identifier: Apache-2.0
mod TextWords
pub mod FoundPlaces
pub mod PieceSteps
pub mod CharacterOrder
pub mod ClassKinds
pub mod PieceSetting
pub mod CharacterPieces
pub mod FormatMarks
pub mod MadeTexts
pub mod PatternSlices
pub mod PatternMembers
pub mod PatternCopies
pub mod PatternJoins
pub mod PatternEndings
