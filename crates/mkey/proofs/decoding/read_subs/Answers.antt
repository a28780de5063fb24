-- SPDX-License-Identifier: Apache-2.0
use Rattle.mkey.proofs.KeyWords.{◌≡◌, ◌<◌, ◌++◌, ◌∙◌, length, drop, All, sym, ap, subst, arith, nat_tests, All-push, subscripts_bytes, IsSub}
use Rattle.mkey.proofs.SubscriptLists.{too_many_subs, no_more_subs, one_more_sub}
use Rattle.mkey.proofs.decoding.read_subs.Goals as goal

pub returns-then-len-eq-MAX_SUBSCRIPTS : goal.returns-then-len-eq-MAX_SUBSCRIPTS
returns-then-len-eq-MAX_SUBSCRIPTS c =
    let some : 0 < length c.loop-rest.rest.now = grind (arith, nat_tests, c.loop-rest-test.ensures) in
    let full : length c.loop-rest.texts.items ≡ 15 = omega (arith, c.len.ensures, c.if-len-eq-MAX_SUBSCRIPTS.true, c.loop-rest.texts.ok) in
    λ ys all e. too_many_subs c.args.kept c.loop-rest.texts.items ys c.loop-rest.rest.now c.args.bytes.now c.loop-rest.invariant.subs all c.loop-rest.invariant.bytes e some full

pub returns-in_default : goal.returns-in_default
returns-in_default c =
    let some : 0 < length c.loop-rest.rest.now = grind (arith, nat_tests, c.loop-rest-test.ensures) in
    λ ys all e. no_more_subs c.args.kept c.loop-rest.texts.items ys c.loop-rest.rest.now c.args.bytes.now c.loop-rest.invariant.subs all c.loop-rest.invariant.bytes e some (rw c.in_default.is at c.in_ok-text.ensures)

pub loop-rest-preserved : goal.loop-rest-preserved
loop-rest-preserved c =
    let found = rw c.in-Some.is at c.in_ok-text.ensures in
    record {
      bytes = one_more_sub c.args.kept c.loop-rest.texts.items c.in-Some.text c.loop-rest.rest.now c.args.bytes.now c.in-Some.count c.loop-rest.invariant.bytes found.0
          ∙ ap (λ t. subscripts_bytes c.args.kept t ++ drop c.in-Some.count c.loop-rest.rest.now) (sym c.in_ok-push.ensures.items)
          ∙ ap (λ b. subscripts_bytes c.args.kept c.push.new.self.items ++ b) (sym c.behind-rest.ensures);
      subs = subst (All IsSub) (sym c.in_ok-push.ensures.items) (All-push IsSub c.loop-rest.texts.items c.in-Some.text c.loop-rest.invariant.subs found.1);
      few = omega (arith, c.in_ok-push.ensures.len, c.len.ensures, c.if-len-eq-MAX_SUBSCRIPTS.false, c.loop-rest.invariant.few);
    }
