-- SPDX-License-Identifier: Apache-2.0
pub mod Codes
pub mod Faults
pub mod Outcomes
pub mod Calculations
pub mod TreePatterns
