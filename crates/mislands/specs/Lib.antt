-- SPDX-License-Identifier: Apache-2.0
pub mod Written
pub mod Listing
pub mod Programs
