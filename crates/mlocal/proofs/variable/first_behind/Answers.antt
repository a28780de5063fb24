-- SPDX-License-Identifier: Apache-2.0
use Rattle.mlocal.proofs.LocalLaws.{sym, ◌∙◌, keys, AreSomeSubs, is_behind, first_is, found_all}
use Rattle.mlocal.proofs.variable.first_behind.Goals as goal

pub returns-in-Some-clause-key : goal.returns-in-Some-clause-key
returns-in-Some-clause-key c =
    first_is (is_behind c.args.low.now) c.args.values.now.entries (c.in-Some.key.now, c.in-Some.field-0-1.now) c.next.new.self (sym (c.range.ensures.between tt) ∙ c.in-Some.ensures.steps)

pub returns-in-Some-clause-subs : goal.returns-in-Some-clause-subs
returns-in-Some-clause-subs c =
    (found_all AreSomeSubs (is_behind c.args.low.now) (keys c.args.values.now) (c.requires.subs) c.in-Some.key.now (returns-in-Some-clause-key c)).0
