-- SPDX-License-Identifier: Apache-2.0
use Rattle.std.proofs.Common.{◌≡◌, ◌<◌, length, ◌∙◌, arith}
use Rattle.std.proofs.lemmas.Bool.Decides.{nat_tests}
use Rattle.mtree.proofs.ListTexts.{arguments, choices, in_bracket, some_subscripts, some_actuals, no_attached, some_attached}
use Rattle.mtree.proofs.expression.+expr.Goals as goal
use Rattle.mtree.proofs.expression.+expr.Goals.{put_attached-then-not-is_empty+in_ok-push, put_attached-else-not-is_empty}

pub put_call-returns : goal.put_call-returns
put_call-returns t c =
    let spelled = rw (arguments c.args.arguments.now.items) at c.in_ok-put_list.ensures in
    let word = rw c.as_text.ensures at c.in_ok-put_word.ensures in
    in_bracket c.push.result c.args.out.now c.args.word.now c.put_word.new.out c.put_list.new.out c.push.new.self _ word spelled c.push.ensures.ok

pub put_select-returns : goal.put_select-returns
put_select-returns t c =
    let spelled = rw (choices c.args.choices.now.items) at c.in_ok-put_list.ensures in
    in_bracket c.push.result c.args.out.now c.args.word.now c.put_word.new.out c.put_list.new.out c.push.new.self _ c.in_ok-put_word.ensures spelled c.push.ensures.ok

pub put_subscripts-returns : goal.put_subscripts-returns
put_subscripts-returns t c =
    let some : 0 < length c.args.subscripts.now.items = grind (arith, nat_tests, c.if-is_empty.ensures, c.is_empty.ensures, c.if-is_empty.false) in
    some_subscripts c.push-2.result c.args.subscripts.now.items c.args.out.now c.push.new.self c.put_list.new.out c.push-2.new.self some c.in_ok-push.ensures.ok c.in_ok-put_list.ensures c.push-2.ensures.ok

pub put_actuals-returns : goal.put_actuals-returns
put_actuals-returns t c =
    let some : 0 < length c.args.actuals.now.items = grind (arith, nat_tests, c.if-is_empty.ensures, c.is_empty.ensures, c.if-is_empty.false) in
    some_actuals c.push-2.result c.args.actuals.now.items c.args.out.now c.push.new.self c.put_list.new.out c.push-2.new.self some c.in_ok-push.ensures.ok c.in_ok-put_list.ensures c.push-2.ensures.ok

pub put_attached-returns : goal.put_attached-returns
put_attached-returns t c =
    let count = length c.args.subscripts.now.items in
    elim c.if-not-is_empty.branch [
      | put_attached-then-not-is_empty+in_ok-push w ↦
          let some : 0 < count = grind (arith, nat_tests, c.is_empty.ensures, w.if-not-is_empty.true) in
          some_attached c.put_subscripts.result c.args.out.now c.if-not-is_empty.out c.put_subscripts.new.out c.args.subscripts.now.items some (w.out-is ∙ w.in_ok-push.ensures.ok) c.put_subscripts.ensures
      | put_attached-else-not-is_empty w ↦
          let none : count ≡ 0 = grind (arith, nat_tests, c.is_empty.ensures, w.if-not-is_empty.false) in
          no_attached c.put_subscripts.result c.args.out.now c.if-not-is_empty.out c.put_subscripts.new.out c.args.subscripts.now.items none w.out-is c.put_subscripts.ensures
    ]
