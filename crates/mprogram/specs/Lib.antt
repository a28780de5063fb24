-- SPDX-License-Identifier: Apache-2.0
pub mod Wholes
pub mod Found
pub mod Views
pub mod StepLaws
