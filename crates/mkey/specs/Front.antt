-- SPDX-License-Identifier: Apache-2.0
-- What bytes begin with.
use Rattle.std.specs.Prelude.{◌≡◌, ◌≤◌, ℕ, ℤ, List, ◌++◌, length, take, drop, All}
use Rattle.mspec.specs.Act.{Text}
use Rattle.mspec.specs.Number.{significant_digits}
use Rattle.mspec.specs.KeyBytes.{number_bytes, subscript_bytes, IsSubscript, AreSubscripts, IsAscii}

-- the bytes begin with these `count` bytes
pub record IsFront (bytes front : List ℕ) (count : ℕ) : Type 0 where
  pub fits : count ≤ length bytes
  pub is : bytes ≡ front ++ drop count bytes

-- the bytes do not begin with those of a text of which this holds
abbrev pub BeginsWithNo : (Text → Type 0) → (Text → List ℕ) → List ℕ → Type 0
BeginsWithNo P bytes_of bytes = (s : Text) (rest : List ℕ) → P s → bytes ≡ bytes_of s ++ rest → ⊥

-- a text that is a subscript of a store
abbrev pub IsSub : Text → Type 0
IsSub s = IsSubscript s × IsAscii s

-- the subscript of a store that the bytes begin with
abbrev pub IsFirst : List ℕ → Text → Type 0
IsFirst bytes s = IsSub s × ((count : ℕ) × IsFront bytes (subscript_bytes significant_digits s) count)

abbrev pub AreSubs : List Text → Type 0
AreSubs subscripts = AreSubscripts subscripts × All IsAscii subscripts

-- the bytes begin with those of a number, in units of 10 ^ -18
pub record BeginsWithNumber (u : ℤ) (bytes : List ℕ) : Type 0 where
  pub fits : 16 ≤ length bytes
  pub is : number_bytes u ≡ take 16 bytes
