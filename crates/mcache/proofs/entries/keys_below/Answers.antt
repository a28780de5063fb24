-- SPDX-License-Identifier: Apache-2.0
use Rattle.mcache.proofs.CacheWords.{◌∙◌, ap, nat_eq, sym, starts_with}
use Rattle.mcache.proofs.EntryLists.{noted_none, noted_all, noted_more, noted_passed}
use Rattle.mcache.proofs.entries.keys_below.Goals as goal

pub loop-bytes-init : goal.loop-bytes-init
loop-bytes-init c = noted_none c.args.entries.now.entries c.args.key.now c.new-keys.result.items c.into_iter-bytes-iterator.result (c.into_iter-bytes-iterator.ensures.into_iter_gives ∙ c.iter-bytes-items.ensures.rest)

pub loop-bytes-preserved-in_ok-push : goal.loop-bytes-preserved-in_ok-push
loop-bytes-preserved-in_ok-push c = noted_more c.args.entries.now.entries c.args.key.now c.loop-bytes.keys.items c.loop-bytes.bytes-iterator c.next.new.self (c.in-Some.bytes.now, c.in-Some.field-0-1.now) c.in-Some.ensures.steps c.loop-bytes.invariant c.in_ok-to_vec.field-0 c.push.new.self.items (c.in_ok-to_vec.ensures.items_if_clones_equal (λ x y e. e) ∙ c.deref-then-begin_with.ensures.value) c.in_ok-push.ensures.items

pub loop-bytes-preserved : goal.loop-bytes-preserved
loop-bytes-preserved c = noted_passed c.args.entries.now.entries c.args.key.now c.loop-bytes.keys.items c.loop-bytes.bytes-iterator c.next.new.self (c.in-Some.bytes.now, c.in-Some.field-0-1.now) c.in-Some.ensures.steps c.loop-bytes.invariant (ap (λ b. starts_with nat_eq b c.args.key.now) (sym c.deref.ensures.value) ∙ sym c.begin_with.ensures ∙ c.if-begin_with.false)

pub returns : goal.returns
returns c = noted_all c.args.entries.now.entries c.args.key.now c.loop-bytes.keys.items c.loop-bytes.bytes-iterator c.in-None.ensures.steps.0 c.loop-bytes.invariant
