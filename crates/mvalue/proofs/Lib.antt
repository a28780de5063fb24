-- SPDX-License-Identifier: Apache-2.0
mod ValueWords
pub mod AsciiNumbers
pub mod Numbers
pub mod NumberLengths
