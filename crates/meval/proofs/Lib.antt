-- SPDX-License-Identifier: Apache-2.0
mod EvalWords
pub mod Calls
pub mod TreeViews
pub mod References
pub mod Trees
pub mod Asking
pub mod MayRead
pub mod Indirections
pub mod Locks
pub mod LocalVariables
pub mod NodeNames
pub mod QueryRuns
pub mod MergeRuns
pub mod Chains
pub mod PowerRuns
pub mod EvalLaws
pub mod Charges
