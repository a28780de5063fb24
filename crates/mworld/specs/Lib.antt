-- SPDX-License-Identifier: Apache-2.0
pub mod View
pub mod Admits
pub mod Ran
pub mod Sufficed
pub mod Promises
pub mod Isolated
