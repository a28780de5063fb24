-- SPDX-License-Identifier: Apache-2.0
use Rattle.mhost.proofs.HostWords.{◌∙◌, sym}
use Rattle.mhost.proofs.worlds.file_world.Goals as goal

pub returns-in-Ok-world_over-clause-world : goal.returns-in-Ok-world_over-clause-world
returns-in-Ok-world_over-clause-world g c = (g.F.Store.NodeStore.content c.in-Ok.store, c.in-Ok-world_over.ensures.world, λ t. (c.in-Ok-world_over.ensures.doubt ∙ c.in-Ok.ensures.undoubted t, c.in-Ok.ensures.globals t), λ sure. c.in-Ok.ensures.finds (sym c.in-Ok-world_over.ensures.doubt ∙ sure))
