-- SPDX-License-Identifier: Apache-2.0
use Rattle.mtext.proofs.TextWords.{sym, ◌∙◌, true≢false, is_in_set, count_of}
use Rattle.mtext.proofs.PatternEndings.{so_many_members, no_members, longest_run, no_run}
use Rattle.mtext.proofs.ending.ending_of_members.Goals as goal

pub returns-then-has_members : goal.returns-then-has_members
returns-then-has_members c = λ codes others same first.
    so_many_members (is_in_set c.args.set) codes (count_of c.args.count) others c.args.text.now c.in-Some.number same c.in-Some.ensures.0 c.in-Some.ensures.1
    (c.has_members.ensures.0 c.if-has_members.true)

pub returns-else-has_members : goal.returns-else-has_members
returns-else-has_members c = λ codes others same first.
    no_members (is_in_set c.args.set) codes (count_of c.args.count) others c.args.text.now c.in-Some.number same c.in-Some.ensures.0 c.in-Some.ensures.1
    (λ has. true≢false (sym (c.has_members.ensures.1 has) ∙ c.if-has_members.false))

pub returns-then-permits : goal.returns-then-permits
returns-then-permits c = λ codes others same first.
    longest_run (is_in_set c.args.set) codes (count_of c.args.count) others c.args.text.now c.run-length.result same (c.is_barred.ensures c.if-not-is_barred.false others first)
    c.run-length.ensures (c.permits.ensures.0 c.if-permits.true)

pub returns-else-permits : goal.returns-else-permits
returns-else-permits c = λ codes others same first.
    no_run (is_in_set c.args.set) codes (count_of c.args.count) others c.args.text.now c.run-length.result same (c.is_barred.ensures c.if-not-is_barred.false others first)
    c.run-length.ensures (λ permitted. true≢false (sym (c.permits.ensures.1 permitted) ∙ c.if-permits.false))
