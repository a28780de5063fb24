-- SPDX-License-Identifier: Apache-2.0
use Rattle.mmemory.proofs.MemoryWords.{refl}
use Rattle.sqlite_trees.proofs.TypedLemmas.{no_float}
use Rattle.mmemory.proofs.storable.is_number.Goals as goal

pub returns-in_default : goal.returns-in_default
returns-in_default c = (λ _. no_float c.args.value c.in_default.not-Real, λ _. refl)
