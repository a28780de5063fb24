-- SPDX-License-Identifier: Apache-2.0
use Rattle.mlocal.proofs.LocalLaws.{reverse, sym, ◌∙◌, keys, AreSomeSubs, is_between, last_is, found_all, all_reversed}
use Rattle.mlocal.proofs.variable.last_between.Goals as goal

pub returns-in-Some-clause-key : goal.returns-in-Some-clause-key
returns-in-Some-clause-key c =
    last_is (is_between c.args.low.now c.args.high.now) c.args.values.now.entries (c.in-Some.key.now, c.in-Some.field-0-1.now) c.next_back.new.self (sym (c.range.ensures.between tt) ∙ c.in-Some.ensures.steps)

pub returns-in-Some-clause-subs : goal.returns-in-Some-clause-subs
returns-in-Some-clause-subs c =
    (found_all AreSomeSubs (is_between c.args.low.now c.args.high.now) (reverse (keys c.args.values.now)) (all_reversed AreSomeSubs (keys c.args.values.now) c.requires.subs) c.in-Some.key.now (returns-in-Some-clause-key c)).0
