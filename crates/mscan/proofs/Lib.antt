-- SPDX-License-Identifier: Apache-2.0
pub mod CanonicalTexts
pub mod CharacterRuns
pub mod Faults
pub mod ListedNames
pub mod NameRuns
pub mod WithoutFormals
