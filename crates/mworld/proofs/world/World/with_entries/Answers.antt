-- SPDX-License-Identifier: Apache-2.0
use Rattle.mworld.proofs.WorldWords.{sym, subst, AreFit}
use Rattle.misolation.proofs.PartsAlone.{opening_is_fit}
use Rattle.mworld.proofs.world.World.with_entries.Goals as goal

pub invariant_of-result : goal.invariant_of-result
invariant_of-result g c = record { fit = λ sound. subst (AreFit c.args.settings) (sym c.new-3.ensures) (opening_is_fit c.args.settings (g.S.NodeStore.content c.args.store)) }
