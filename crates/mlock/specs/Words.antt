-- SPDX-License-Identifier: Apache-2.0
-- The words of the crates below that many contracts of this crate use, in one place.
pub use Rattle.mspec.specs.KeyBytes.{IsStored, key_bytes}
pub use Rattle.mspec.specs.LockConflict.{lock_name_cmp}
pub use Rattle.mspec.specs.Number.{significant_digits}
