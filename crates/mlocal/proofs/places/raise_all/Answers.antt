-- SPDX-License-Identifier: Apache-2.0
use Rattle.mlocal.proofs.LocalLaws.{arith, one_more_raised, slot_within}
use Rattle.mlocal.proofs.places.raise_all.Goals as goal

pub loop-slot-preserved : goal.loop-slot-preserved
loop-slot-preserved c = one_more_raised c.args.place c.loop-slot.slot c.loop-slot.places (omega arith) c.loop-slot.invariant

pub returns : goal.returns
returns c = λ n. c.loop-slot.invariant n (let within = slot_within n in omega (arith, within))
