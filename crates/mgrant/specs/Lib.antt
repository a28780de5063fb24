-- SPDX-License-Identifier: Apache-2.0
pub mod Document
pub mod Words
pub mod Placed
pub mod Edges
pub mod View
pub mod Reading
pub mod Islands
