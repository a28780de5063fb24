-- SPDX-License-Identifier: Apache-2.0
pub mod Floor
pub mod Size
pub mod Num
pub mod Division
pub mod Head
pub mod Start
