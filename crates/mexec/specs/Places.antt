-- SPDX-License-Identifier: Apache-2.0
-- Where a program stands, as it is lent.
use Rattle.std.specs.Prelude.{Option}
use Rattle.mprogram.specs.Wholes.{WholeTree}
use Rattle.mexec.specs.Wholes.{argument_of, condition_of, parameter_of}
use Rattle.mexec.specs.Frames.{source_args, source_position, spaced_before}
use Rattle.mexec.specs.declared.frames.Position.{Position}
use Rattle.mexec.specs.declared.source.Place.{Place}
use Rattle.mexec.specs.declared.source.Place.TheVariants as place

abbrev pub whole_at : Place → Option WholeTree
whole_at (place.Argument source at) = argument_of (source_args source) at
whole_at (place.Condition behind) = condition_of (spaced_before behind.now.line.value behind.now.at)
whole_at (place.Parameter body at) = parameter_of body.now.line.value body.now.at at

abbrev pub place_position : Place → Position
place_position (place.Argument source at) = source_position source
place_position (place.Condition behind) = behind.now.position.value
place_position (place.Parameter body at) = body.now.position.value
