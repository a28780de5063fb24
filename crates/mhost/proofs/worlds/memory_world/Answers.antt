-- SPDX-License-Identifier: Apache-2.0
use Rattle.mhost.proofs.HostWords.{ap, ◌∙◌, opening}
use Rattle.mhost.proofs.worlds.memory_world.Goals as goal

pub returns-in-Ok-world_over-clause-world : goal.returns-in-Ok-world_over-clause-world
returns-in-Ok-world_over-clause-world c = c.in-Ok-world_over.ensures.world ∙ ap opening c.in-Ok.ensures.empty

pub returns-in-Ok-world_over-clause-sound : goal.returns-in-Ok-world_over-clause-sound
returns-in-Ok-world_over-clause-sound c = c.in-Ok.ensures.sound

pub returns-in-Ok-world_over-clause-steady : goal.returns-in-Ok-world_over-clause-steady
returns-in-Ok-world_over-clause-steady c = c.in-Ok.ensures.steady

pub returns-in-Err-clause-early : goal.returns-in-Err-clause-early
returns-in-Err-clause-early c = (λ e. c.in-Err.ensures.key cc, λ e. c.in-Err.ensures.other_version cc)
