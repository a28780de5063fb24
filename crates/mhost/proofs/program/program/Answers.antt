-- SPDX-License-Identifier: Apache-2.0
use Rattle.mhost.proofs.HostWords.{inl, inr}
use Rattle.mhost.proofs.program.program.Goals as goal

pub returns : goal.returns
returns g c = elim c.program_over.ensures [
  | inl refused ↦ inl refused
  | inr done ↦ inr done.finishes
]
