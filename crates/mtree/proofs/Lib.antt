-- SPDX-License-Identifier: Apache-2.0
pub mod LetterClasses
pub mod ListTexts
mod Operands
pub mod CallsFound
pub mod InLanguages
pub mod WordFunctions
pub mod PatternTexts
