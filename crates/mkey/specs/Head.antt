-- SPDX-License-Identifier: Apache-2.0
-- The number that the first bytes of a key are.
use Rattle.std.specs.Prelude.{ℕ, zero, suc, ◌+◌, ◌*◌, ◌^◌, List, [], ◌∷◌}

-- the number that the first k bytes are, high byte first, followed by zeros if there are fewer
unfoldable pub head_number : ℕ → List ℕ → ℕ
head_number zero bytes = 0
head_number (suc k) [] = 0
head_number (suc k) (b ∷ bytes) = b * 256 ^ k + head_number k bytes
