-- SPDX-License-Identifier: Apache-2.0
use Rattle.mkey.proofs.KeyWords.{◌≡◌, ◌<◌, ◌-◌, Some, length, length-drop, sym, subst, arith, nat_tests}
use Rattle.mkey.proofs.KeyWalks.{Walked, walk_on, walk_ends}
use Rattle.mkey.proofs.ancestors.last_subscript.Goals as goal

pub loop-last-preserved : goal.loop-last-preserved
loop-last-preserved c =
    let some : 0 < length c.loop-last.rest.now = grind (arith, nat_tests, c.loop-last-test.ensures) in
    record {
      fits = grind (arith, length-drop, c.behind-rest.ensures, c.loop-last.invariant.fits);
      walked = λ n is.
          subst (λ b. Walked n c.args.bytes.now b (Some (length c.args.bytes.now - length c.loop-last.rest.now))) (sym c.behind-rest.ensures)
          (walk_on n c.args.bytes.now c.loop-last.rest.now c.loop-last.last c.subscript_len.result is some (c.loop-last.invariant.walked n is) c.subscript_len.ensures.subscript);
    }

pub returns : goal.returns
returns c n is =
    let none : length c.loop-last.rest.now ≡ 0 = grind (arith, nat_tests, c.loop-last-test.ensures) in
    walk_ends n c.args.bytes.now c.loop-last.rest.now c.loop-last.last none (c.loop-last.invariant.walked n is)
