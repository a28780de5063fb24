-- SPDX-License-Identifier: Apache-2.0
pub mod Doubted
mod WorldWords
pub mod Checks
pub mod Runs
mod Sessions
pub mod Tellings
pub mod Promised
pub mod Shuts
pub mod StoreFaults
