-- SPDX-License-Identifier: Apache-2.0
pub mod Counting
pub mod Finding
pub mod MissingActuals
pub mod StepsThere
