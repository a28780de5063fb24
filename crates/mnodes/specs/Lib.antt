-- SPDX-License-Identifier: Apache-2.0
pub mod Failures
pub mod Entries
pub mod Held
pub mod Doubt
pub mod Steady
pub mod Over
