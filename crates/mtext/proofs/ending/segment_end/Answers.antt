-- SPDX-License-Identifier: Apache-2.0
use Rattle.mtext.proofs.TextWords.{subst, count_of, Repeats}
use Rattle.mtext.proofs.PatternEndings.{members_end, copies_end}
use Rattle.mtext.proofs.ending.segment_end.Goals as goal

pub returns-in-Members : goal.returns-in-Members
returns-in-Members c = λ first others is next.
    members_end c.in-Members.set c.args.text.now (count_of c.args.atom.count) first others c.ending_of_members.result
    (is.0, subst (λ r. Repeats r first.repeated) c.in-Members.is is.1) (λ codes same. c.ending_of_members.ensures codes others same next)

pub returns-in-Copies : goal.returns-in-Copies
returns-in-Copies c = λ first others is next.
    copies_end c.in-Copies.string c.args.text.now (count_of c.args.atom.count) first others c.ending_of_copies.result
    (is.0, subst (λ r. Repeats r first.repeated) c.in-Copies.is is.1) (c.ending_of_copies.ensures others)
