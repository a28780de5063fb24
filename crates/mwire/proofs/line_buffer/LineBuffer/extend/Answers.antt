-- SPDX-License-Identifier: Apache-2.0
use Rattle.mwire.proofs.WireWords.{length-take, arith, ◌∙◌, nat_tests}
use Rattle.mwire.proofs.Fronts.{take-append_room}
use Rattle.mwire.proofs.line_buffer.LineBuffer.extend.Goals as goal

pub returns : goal.returns
returns c =
    let end = length-take c.min-count.result c.args.bytes.now in
    rw (← c.self.view_is) (c.loop-byte.invariant ∙ take-append_room 262 _ _ _ (omega (arith, c.len.ensures)) (grind (arith, nat_tests, c.len.ensures, end, c.min-count.ensures)))
