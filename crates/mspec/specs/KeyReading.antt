-- SPDX-License-Identifier: Apache-2.0
-- The node whose key some bytes are: keys read back. What this gives for bytes that are no key has no meaning.
use Rattle.std.specs.Prelude.{◌≡◌, ℕ, zero, suc, ◌^◌, cond, ◌==◌, List, [], ◌∷◌, take, drop, length, ℤ, pos, ◌-ℤ◌}
use Rattle.std.specs.Slice.Scan.{big_endian}
use Rattle.mspec.specs.Node.{Text, Node}
use Rattle.mspec.specs.NumberText.{number_text}
use Rattle.mspec.specs.KeyBytes.{key_bytes}

-- the text that bytes begin with, each lowered by 1, up to a 0; and what comes after the 0
abbrev pub text_of : List ℕ → Text
text_of [] = []
text_of (zero ∷ bytes) = []
text_of (suc c ∷ bytes) = c ∷ text_of bytes

abbrev pub behind_text : List ℕ → List ℕ
behind_text [] = []
behind_text (zero ∷ bytes) = bytes
behind_text (suc c ∷ bytes) = behind_text bytes

-- a number from 0 on, as one from -2 ^ 127 on, in units of 10 ^ -18
abbrev pub lowered : ℕ → ℤ
lowered n = pos n -ℤ pos (2 ^ 127)

-- the text of the number that bytes begin with
unfoldable pub text_of_number : List ℕ → Text
text_of_number bytes = number_text (lowered (big_endian 0 (take 16 bytes)))

-- the subscripts that bytes are, at most this many
abbrev pub subscripts_of : ℕ → List ℕ → List Text
subscripts_of zero bytes = []
subscripts_of (suc most) [] = []
subscripts_of (suc most) (tag ∷ bytes) = cond (tag == 1) (text_of_number bytes ∷ subscripts_of most (drop 16 bytes)) (text_of bytes ∷ subscripts_of most (behind_text bytes))

-- the node of a key
unfoldable pub node_of : List ℕ → Node
node_of bytes = record {
  account = text_of bytes;
  name = text_of (behind_text bytes);
  subscripts = subscripts_of (length bytes) (behind_text (behind_text bytes));
}

-- the node of a node's key is the node
abbrev pub KeysAreRead : Type 0
KeysAreRead = (kept : ℕ) (n : Node) → node_of (key_bytes kept n) ≡ n
