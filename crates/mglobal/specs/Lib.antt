-- SPDX-License-Identifier: Apache-2.0
pub mod Next
pub mod Lines
pub mod Copies
pub mod Words
