-- SPDX-License-Identifier: Apache-2.0
use Rattle.moperator.proofs.PatternPlaces.{more_led}
use Rattle.moperator.proofs.places.more_ends.Goals as goal

pub returns : goal.returns
returns c =
    more_led c.either_marks.result c.args.least c.args.turn c.args.ends.items c.as_slice.result.now c.args.places.now c.as_slice.ensures.value c.if-turn-least.false c.either_marks.ensures.size c.either_marks.ensures.each
