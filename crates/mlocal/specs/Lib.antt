-- SPDX-License-Identifier: Apache-2.0
pub mod Named
pub mod Home
pub mod Bindings
pub mod ScopeCode
pub mod Way
pub mod Own
pub mod Table
