-- SPDX-License-Identifier: Apache-2.0
use Rattle.mwire.proofs.WireWords.{arith, nat_tests}
use Rattle.mwire.proofs.Outputs.{output_more, output_last}
use Rattle.mwire.proofs.reply_bytes.push_output.Goals as goal

pub loop-end-preserved : goal.loop-end-preserved
loop-end-preserved c =
    let i = c.loop-end.invariant in
    record {
      shown = output_more c.args.digits.now c.loop-end.rest.now c.behind-rest.result.now c.loop-end.out.items _ _ c.loop-end.end
          i.end_is c.loop-end-test.true c.behind-rest.ensures c.in_ok-push_line.ensures i.shown;
      end_is = c.line_length-end-in-loop-end.ensures;
    }

pub returns : goal.returns
returns c =
    let i = c.loop-end.invariant in
    output_last c.push_line-2.result c.args.digits.now c.loop-end.rest.now c.loop-end.out.items _ _
    (omega (arith, i.end_is, c.loop-end-test.false)) (grind (arith, nat_tests, c.if-is_empty.ensures)) i.shown c.push_line-2.ensures
