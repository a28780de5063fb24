-- SPDX-License-Identifier: Apache-2.0
pub mod Gives
pub mod Classes
pub mod Operators
pub mod Formals
pub mod NameParts
