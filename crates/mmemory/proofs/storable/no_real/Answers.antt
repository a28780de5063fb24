-- SPDX-License-Identifier: Apache-2.0
use Rattle.std.proofs.Common.{arith, ◌≡◌}
use Rattle.std.proofs.lemmas.Nat.Bits.{bit_at-zero}
use Rattle.std.specs.Int.{bit_at}
use Rattle.mmemory.proofs.storable.no_real.Goals as goal

pub returns : goal.returns
returns c k set = absurd (let none : bit_at c.args.reals k ≡ 0 = rw c.requires (bit_at-zero k) in omega (arith, none, set))
