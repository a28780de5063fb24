-- SPDX-License-Identifier: Apache-2.0
use Rattle.mlock.proofs.LockWords.{ap, ◌∙◌, cond, arith, held, one_more}
use Rattle.mlock.proofs.Steps.{free_first, free_rest, undone}
use Rattle.mlock.proofs.locks.Locks.+count_all.Goals as goal

pub count_one-requires : goal.count_one-requires
count_one-requires t c = free_first c.args.self.now c.args.terminal c.in-Some.first.now c.args.names.now c.in-Some.rest.now c.in-Some.ensures.cases.0 c.requires

pub count_all-requires : goal.count_all-requires
count_all-requires t c =
    let more = c.in_ok-count_one.ensures.counted ∙ ap (λ b. cond b (one_more c.args.self.now (held c.args.terminal c.in-Some.first.now)) c.args.self.now) c.if-not-branch.false in (
      omega (arith, c.decreases, c.in-Some.ensures.cases.1),
      free_rest c.args.self.now c.count_one.new.self c.args.terminal c.in-Some.first.now c.args.names.now c.in-Some.rest.now c.in-Some.ensures.cases.0 c.requires more,
    )

pub returns-in-Ok-false-clause-refused : goal.returns-in-Ok-false-clause-refused
returns-in-Ok-false-clause-refused t c refused =
    let more = c.in_ok-count_one.ensures.counted ∙ ap (λ b. cond b (one_more c.args.self.now (held c.args.terminal c.in-Some.first.now)) c.args.self.now) c.if-not-branch.false in
    undone c.args.self.now c.count_one.new.self c.count_all.new.self c.give_back.new.self c.args.terminal c.in-Some.first.now c.count_one.ensures.counts more
    (c.in-Ok-false.ensures.refused c.in-Ok-false.field-0-test) c.give_back.ensures

pub returns-in-Err-clause-err : goal.returns-in-Err-clause-err
returns-in-Err-clause-err t c =
    let more = c.in_ok-count_one.ensures.counted ∙ ap (λ b. cond b (one_more c.args.self.now (held c.args.terminal c.in-Some.first.now)) c.args.self.now) c.if-not-branch.false in
    undone c.args.self.now c.count_one.new.self c.count_all.new.self c.give_back-in-Err.new.self c.args.terminal c.in-Some.first.now c.count_one.ensures.counts more
    c.in-Err.ensures.err c.give_back-in-Err.ensures
