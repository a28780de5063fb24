-- SPDX-License-Identifier: Apache-2.0
pub mod Key
pub mod Front
pub mod Parent
pub mod SubsKey
pub mod Way
pub mod Under
pub mod Head
