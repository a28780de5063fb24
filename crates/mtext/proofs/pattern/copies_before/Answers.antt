-- SPDX-License-Identifier: Apache-2.0
use Rattle.mtext.proofs.TextWords.{◌+◌, ◌-◌, ◌*◌, ◌≤◌, length, get_or, sym, ◌∙◌, true≢false, arith, no_copies, IsBefore, IsCopiedTo, AreCopiesBefore}
use Rattle.mtext.proofs.PatternCopies.{number_fits, copies_end, copied_to, copied_from, above_without, above_more, fewest_least, fewest_above}
use Rattle.mtext.proofs.pattern.copies_before.Goals as goal
use Rattle.mtext.proofs.pattern.copies_before.Goals.{then-stands_before, else-stands_before, else-least-found-via-then-least-found+else-starts-place}
use Rattle.mtext.proofs.pattern.copies_before.Goals.{else-least-found-via-else-least-found}

pub overflow_add-found : goal.overflow_add-found
overflow_add-found c =
    let place = length c.args.known.now in
    let before : IsBefore c.args.text.now c.args.string.now place = c.stands_before.ensures.0 c.if-stands_before.true in
    let room : length c.args.string.now ≤ place = before.0 in
    let start = place - length c.args.string.now in
    let last = get_or c.args.known.now start no_copies in
    let is : AreCopiesBefore c.args.text.now c.args.string.now c.args.least c.args.starts.now start last = c.requires.before start (omega arith) in
    let few : last.number ≤ start = number_fits c.args.text.now c.args.string.now c.args.starts.now start last.number (omega arith) c.requires.some is.0 in
    omega arith

pub overflow_add-found-then-stands_before : goal.overflow_add-found-then-stands_before
overflow_add-found-then-stands_before c =
    let place = length c.args.known.now in
    let before : IsBefore c.args.text.now c.args.string.now place = c.stands_before.ensures.0 c.if-stands_before.true in
    let room : length c.args.string.now ≤ place = before.0 in
    let start = place - length c.args.string.now in
    let last = get_or c.args.known.now start no_copies in
    let is : AreCopiesBefore c.args.text.now c.args.string.now c.args.least c.args.starts.now start last = c.requires.before start (omega arith) in
    let few : last.number ≤ start = number_fits c.args.text.now c.args.string.now c.args.starts.now start last.number (omega arith) c.requires.some is.0 in
    let near : last.fewest ≤ last.number + 1 = is.1.near in
    omega arith

room : (c : goal.Then-least-found) → c.args.least * length c.args.string.now ≤ length c.args.known.now
room c =
    let text = c.args.text.now in
    let string = c.args.string.now in
    let starts = c.args.starts.now in
    let least = c.args.least in
    let place = length c.args.known.now in
    let found = c.if-stands_before.found in
    let above : AreCopiesBefore text string (least + 1) starts place found = elim c.if-stands_before.branch [
      | then-stands_before w ↦
          let before : IsBefore text string place = c.stands_before.ensures.0 w.if-stands_before.true in
          let room : length string ≤ place = before.0 in
          let last = get_or c.args.known.now (place - length string) no_copies in
          above_more text string least starts place c.requires.within before last found w.found-is (c.requires.before (place - length string) (omega arith))
      | else-stands_before w ↦
          above_without text string least starts place c.requires.within
          (λ e. true≢false (sym (c.stands_before.ensures.1 e) ∙ w.if-stands_before.false)) found w.found-is
    ] in
    copies_end text string place least c.requires.within (above.0.stand least c.if-least-found.true)

pub overflow_mul-least : goal.overflow_mul-least
overflow_mul-least c = let fits : c.args.least * length c.args.string.now ≤ length c.args.known.now = room c in omega arith

pub overflow_sub-place : goal.overflow_sub-place
overflow_sub-place c = room c

pub returns-then-starts-place : goal.returns-then-starts-place
returns-then-starts-place c =
    let text = c.args.text.now in
    let string = c.args.string.now in
    let starts = c.args.starts.now in
    let least = c.args.least in
    let place = length c.args.known.now in
    let found = c.if-stands_before.found in
    let above : AreCopiesBefore text string (least + 1) starts place found = elim c.if-stands_before.branch [
      | then-stands_before w ↦
          let before : IsBefore text string place = c.stands_before.ensures.0 w.if-stands_before.true in
          let room : length string ≤ place = before.0 in
          let last = get_or c.args.known.now (place - length string) no_copies in
          above_more text string least starts place c.requires.within before last found w.found-is (c.requires.before (place - length string) (omega arith))
      | else-stands_before w ↦
          above_without text string least starts place c.requires.within
          (λ e. true≢false (sym (c.stands_before.ensures.1 e) ∙ w.if-stands_before.false)) found w.found-is
    ] in (
      above.0,
      fewest_least text string least starts place c.requires.within found.number c.if-least-found.true
          (copied_to text string starts place least c.requires.within (above.0.stand least c.if-least-found.true) c.if-starts-place.true),
    )

pub returns : goal.returns
returns c =
    let text = c.args.text.now in
    let string = c.args.string.now in
    let starts = c.args.starts.now in
    let least = c.args.least in
    let place = length c.args.known.now in
    let found = c.if-stands_before.found in
    let above : AreCopiesBefore text string (least + 1) starts place found = elim c.if-stands_before.branch [
      | then-stands_before w ↦
          let before : IsBefore text string place = c.stands_before.ensures.0 w.if-stands_before.true in
          let room : length string ≤ place = before.0 in
          let last = get_or c.args.known.now (place - length string) no_copies in
          above_more text string least starts place c.requires.within before last found w.found-is (c.requires.before (place - length string) (omega arith))
      | else-stands_before w ↦
          above_without text string least starts place c.requires.within
          (λ e. true≢false (sym (c.stands_before.ensures.1 e) ∙ w.if-stands_before.false)) found w.found-is
    ] in
    let not_at : IsCopiedTo text string starts place least → ⊥ = λ e. elim c.else-least-found.branch [
      | else-least-found-via-then-least-found+else-starts-place w ↦
          true≢false (sym (copied_from text string starts place least c.requires.within e) ∙ w.if-starts-place.false)
      | else-least-found-via-else-least-found w ↦ let few : least ≤ found.number = above.0.most least e in omega (arith, w.if-least-found.false)
    ] in
    (above.0, fewest_above text string least starts place c.requires.within found.number found.fewest not_at above.1)
