-- SPDX-License-Identifier: Apache-2.0
mod CommandWords
pub mod Calls
pub mod Characters
pub mod Targets
pub mod PreparedTargets
pub mod StepItems
pub mod StepsIn
pub mod Labels
pub mod Spoken
pub mod HandedActuals
pub mod OwnNodes
pub mod PairedNames
pub mod LevelFormals
pub mod Handed
pub mod Locking
pub mod Within
pub mod CommandLaws
