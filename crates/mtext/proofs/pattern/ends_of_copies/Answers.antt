-- SPDX-License-Identifier: Apache-2.0
use Rattle.mtext.proofs.TextWords.{rules, ◌≡◌, Decides, length, subst, ap, ◌∙◌, copies, count_of, no_copies, IsEnd, AreCopiesBefore}
use Rattle.mtext.proofs.PatternCopies.{ends_by_fewest}
use Rattle.mtext.proofs.PatternSlices.{each_more, marked_more}
use Rattle.mtext.proofs.pattern.ends_of_copies.Goals as goal

pub loop-place-preserved : goal.loop-place-preserved
loop-place-preserved c =
    let text = c.args.text.now in
    let string = c.args.string.now in
    let starts = c.args.starts.now in
    let place = c.loop-place._place in
    let found = c.copies_before-found.result in
    let taken : length c.loop-place.known.items ≡ place = c.loop-place.invariant.taken in
    let is : AreCopiesBefore text string c.args.count.least starts place found =
    subst (λ n. AreCopiesBefore text string c.args.count.least starts n found) (ap length c.as_slice.ensures.value ∙ taken) c.copies_before-found.ensures in
    let here : Decides c.serve.result (IsEnd text (count_of c.args.count) (copies string) starts place) =
    ends_by_fewest text string (count_of c.args.count) starts place found.number found.fewest c.serve.result is.0 is.1 c.serve.ensures in
    record {
      size = search rules;
      each = marked_more (IsEnd text (count_of c.args.count) (copies string) starts) c.loop-place.ends.items c.push.new.self.items c.serve.result place
          c.in_ok-push.ensures.items c.loop-place.invariant.size c.loop-place.invariant.each here;
      taken = search rules;
      before = each_more (AreCopiesBefore text string c.args.count.least starts) c.loop-place.known.items c.push-in-loop-place.new.self.items found
          no_copies place c.in_ok-push-2.ensures.items taken c.loop-place.invariant.before is;
    }
