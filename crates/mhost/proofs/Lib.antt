-- SPDX-License-Identifier: Apache-2.0
mod HostWords
pub mod DocumentsRead
pub mod Accounts
pub mod Asking
pub mod Known
pub mod Ported
pub mod Reported
