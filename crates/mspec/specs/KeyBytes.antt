-- SPDX-License-Identifier: Apache-2.0
-- The bytes under which a node lies in a table, and those of a list of subscripts.
--
-- Bytes of keys are in the order of their nodes, and a key begins with the keys of its node's ancestors: each byte of a text is
-- raised by one and a byte 0 ends it, and a number has a fixed length. The digits that a number keeps are a parameter, since old
-- stores kept fewer.
use Rattle.std.specs.Prelude.{◌≡◌, ℕ, zero, suc, ◌+◌, ◌/◌, ◌%◌, ◌^◌, ◌<◌, ◌≤◌, true, ◌||◌, List, [], ◌∷◌, ◌++◌, length, All, Option, Some, None, ℤ, pos, ◌+ℤ◌}
use Rattle.std.specs.Prelude.{unsigned_abs}
use Rattle.std.specs.List.{flat_map}
use Rattle.mspec.specs.Limits.{max_account_name, max_subscript, max_subscripts}
use Rattle.mspec.specs.Node.{Text, Node}
use Rattle.mspec.specs.Names.{IsName, is_letter}
use Rattle.mspec.specs.Literal.{is_digit}
use Rattle.mspec.specs.NodeOrder.{canonical_value}

-- n in this many bytes, high byte first
abbrev pub big_endian : ℕ → ℕ → List ℕ
big_endian zero n = []
big_endian (suc k) n = n / 256 ^ k ∷ big_endian k (n % 256 ^ k)

-- the bytes of a text, each plus 1, and a 0 after them
abbrev pub text_bytes : Text → List ℕ
text_bytes [] = 0 ∷ []
text_bytes (c ∷ s) = (c + 1) ∷ text_bytes s

-- a number from -2 ^ 127 on, in units of 10 ^ -18, as a number from 0 on
abbrev pub raised : ℤ → ℕ
raised u = unsigned_abs (u +ℤ pos (2 ^ 127))

unfoldable pub number_bytes : ℤ → List ℕ
number_bytes u = big_endian 16 (raised u)

abbrev pub subscript_by : Text → Option ℤ → List ℕ
subscript_by s (Some u) = 1 ∷ number_bytes u
subscript_by s None = 2 ∷ text_bytes s

-- a subscript: 1 and a number, or 2 and a text
abbrev pub subscript_bytes : ℕ → Text → List ℕ
subscript_bytes kept s = subscript_by s (canonical_value kept s)

abbrev pub subscripts_bytes : ℕ → List Text → List ℕ
subscripts_bytes kept = flat_map (subscript_bytes kept)

-- a name and subscripts, as of a local
abbrev pub local_bytes : ℕ → Text → List Text → List ℕ
local_bytes kept name subscripts = text_bytes name ++ subscripts_bytes kept subscripts

-- the key of a node
abbrev pub key_bytes : ℕ → Node → List ℕ
key_bytes kept n = text_bytes n.account ++ local_bytes kept n.name n.subscripts

-- where the keys below a key begin, and the end of those that begin with it
abbrev pub children_start : List ℕ → List ℕ
children_start key = key ++ (1 ∷ [])

abbrev pub subtree_end : List ℕ → List ℕ
subtree_end key = key ++ (3 ∷ [])

-- ---- the nodes that have keys

-- an account's name: 1 to 16 letters or digits
pub record IsAccountName (account : Text) : Type 0 where
  pub some : 0 < length account
  pub few : length account ≤ max_account_name
  pub each : All (λ c. is_letter c || is_digit c ≡ true) account

-- 1 to 255 characters
pub record IsSubscript (s : Text) : Type 0 where
  pub some : 0 < length s
  pub few : length s ≤ max_subscript

-- at most 15 of them
pub record AreSubscripts (subscripts : List Text) : Type 0 where
  pub few : length subscripts ≤ max_subscripts
  pub each : All IsSubscript subscripts

-- a text of the character set of mserve: ASCII
abbrev pub IsAscii : Text → Type 0
IsAscii s = All (λ c. c < 128) s

-- a node of a store
pub record IsStored (n : Node) : Type 0 where
  pub account : IsAccountName n.account
  pub name : IsName n.name
  pub subscripts : AreSubscripts n.subscripts
  pub ascii : All IsAscii n.subscripts
