-- SPDX-License-Identifier: Apache-2.0
use Rattle.mtext.proofs.TextWords.{rules, ◌+◌, Decides, sym, subst, ◌∙◌, arith, members, is_in_any, codes_of, count_of, IsEnd}
use Rattle.mtext.proofs.PatternMembers.{IsRun, IsLatest, latest_new, latest_kept, ends_here, run_more, run_anew}
use Rattle.mtext.proofs.PatternSlices.{marked_more}
use Rattle.mtext.proofs.pattern.ends_of_members.Goals as goal
use Rattle.mtext.proofs.pattern.ends_of_members.Goals.{then-place-count+then-starts-place, else-place-count}
use Rattle.mtext.proofs.pattern.ends_of_members.Goals.{else-place-count-via-then-place-count+else-starts-place, else-place-count-via-else-place-count}
use Rattle.mtext.proofs.pattern.ends_of_members.Goals.{then-place-text+then-not-is_of_any, else-place-text}
use Rattle.mtext.proofs.pattern.ends_of_members.Goals.{else-place-text-via-then-place-text+else-not-is_of_any, else-place-text-via-else-place-text}

pub loop-place-preserved : goal.loop-place-preserved
loop-place-preserved c =
    let latest : IsLatest c.args.starts.now c.args.count.least (c.loop-place.place + 1) c.if-place-count.latest =
    elim c.if-place-count.branch [
      | then-place-count+then-starts-place w ↦
          subst (λ l. IsLatest c.args.starts.now c.args.count.least (c.loop-place.place + 1) l) (sym w.latest-is)
          (latest_new c.args.starts.now c.args.count.least c.loop-place.place w.if-place-count.true w.if-starts-place.true)
      | else-place-count w ↦
          subst (λ l. IsLatest c.args.starts.now c.args.count.least (c.loop-place.place + 1) l) (sym w.latest-is)
          (latest_kept c.args.starts.now c.args.count.least c.loop-place.place c.loop-place.latest c.loop-place.invariant.latest
          (λ least. elim w.else-place-count.branch [
            | else-place-count-via-then-place-count+else-starts-place w' ↦ w'.if-starts-place.false
            | else-place-count-via-else-place-count w' ↦ absurd (omega arith)
          ]))
    ] in
    let run : IsRun (is_in_any (codes_of c.args.codes.now)) c.args.text.now c.if-place-text.first (c.loop-place.place + 1) =
    elim c.if-place-text.branch [
      | then-place-text+then-not-is_of_any w ↦
          subst (λ f. IsRun (is_in_any (codes_of c.args.codes.now)) c.args.text.now f (c.loop-place.place + 1)) (sym w.first-is)
          (run_anew (is_in_any (codes_of c.args.codes.now)) c.args.text.now c.loop-place.place (sym w.is_of_any.ensures ∙ w.if-not-is_of_any.true))
      | else-place-text w ↦
          subst (λ f. IsRun (is_in_any (codes_of c.args.codes.now)) c.args.text.now f (c.loop-place.place + 1)) (sym w.first-is)
          (run_more (is_in_any (codes_of c.args.codes.now)) c.args.text.now c.loop-place.first c.loop-place.place c.loop-place.invariant.run
          (λ in'. elim w.else-place-text.branch [
            | else-place-text-via-then-place-text+else-not-is_of_any w' ↦ sym w'.is_of_any.ensures ∙ w'.if-not-is_of_any.false
            | else-place-text-via-else-place-text w' ↦ absurd (omega arith)
          ]))
    ] in
    let here : Decides c.is_near.result (IsEnd c.args.text.now (count_of c.args.count) (members (codes_of c.args.codes.now)) c.args.starts.now c.loop-place.place) =
    ends_here c.args.text.now (codes_of c.args.codes.now) (count_of c.args.count) c.args.starts.now c.loop-place.first c.loop-place.place c.if-place-count.latest c.is_near.result
    (omega arith) c.loop-place.invariant.run latest c.is_near.ensures in
    record {
      size = search rules;
      each = marked_more (IsEnd c.args.text.now (count_of c.args.count) (members (codes_of c.args.codes.now)) c.args.starts.now) c.loop-place.ends.items c.push.new.self.items c.is_near.result c.loop-place.place
          c.in_ok-push.ensures.items c.loop-place.invariant.size c.loop-place.invariant.each here;
      run = run;
      latest = latest;
    }
