-- SPDX-License-Identifier: Apache-2.0
mod ParseWords
mod Lists
mod Points
mod WholeTexts
