-- SPDX-License-Identifier: Apache-2.0
pub mod CommandLine
pub mod Asked
