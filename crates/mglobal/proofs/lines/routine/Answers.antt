-- SPDX-License-Identifier: Apache-2.0
use Rattle.mglobal.proofs.GlobalWords.{◌≡◌, Doubts, Doubts-same, Doubts-then, undoubted, ◌<◌, ◌≤◌, ◌++◌, Option, Some, None, length, ap, sym, subst, ◌∙◌, refl}
use Rattle.mglobal.proofs.GlobalWords.{arith, append-nil, append_assoc, All-nil, order_at, IsAscii, Forward, AreHeld, line_at, line_in, lines_behind}
use Rattle.mglobal.proofs.LineWalks.{all_lines, no_more, next_line}
use Rattle.mglobal.proofs.PlacesLeft.{fewer_left}
use Rattle.mglobal.proofs.lines.routine.Goals as goal

pub loop-place-init : goal.loop-place-init
loop-place-init g c = record {
  place = subst (λ p. length p ≤ 255) (sym c.empty-place.ensures) (omega arith);
  ascii = subst IsAscii (sym c.empty-place.ensures) (All-nil (λ d. d < 128));
  doubt = Doubts-same _;
  same = λ sound. refl;
  lines =
      λ sound held.
      let globals = g.S.NodeStore.content c.args.store.now in
      let account = c.args.account.now in
      let name = c.args.name.now in
      ap (λ l. l ++ lines_behind globals account name c.empty-place.result) c.new-lines.ensures.items
      ∙ ap (lines_behind globals account name) c.empty-place.ensures ∙ all_lines account name globals held;
}

pub next_place-requires-clause-place : goal.next_place-requires-clause-place
next_place-requires-clause-place g c = c.loop-place.invariant.place

pub returns-in_err-next-clause-same : goal.returns-in_err-next-clause-same
returns-in_err-next-clause-same g c sound = c.next_place.ensures.same sound ∙ c.loop-place.invariant.same (undoubted c.next_place.ensures.doubt sound)

none_is : {A : Type 0} (r : Option A) → ((x : A) → r ≡ Some x → ⊥) → r ≡ None
none_is None h = refl
none_is (Some x) h = absurd (h x refl)

-- nothing comes after the last place
pub returns-clause-lines : goal.returns-clause-lines
returns-clause-lines g c sound =
    let globals = g.S.NodeStore.content c.args.store.now in
    let account = c.args.account.now in
    let name = c.args.name.now in
    let before = undoubted c.next_place.ensures.doubt sound in
    let same = c.loop-place.invariant.same before in
    let last : c.in_ok-next.field-0 ≡ None = none_is c.in_ok-next.field-0 (λ x e. c.in_default.not-Some x e) in
    let none = sym last ∙ c.in_ok-next.ensures.next sound ∙ ap (λ w. order_at w Forward (line_at account name c.loop-place.place)) same in
    sym (append-nil c.loop-place.lines.items) ∙ ap (λ l. c.loop-place.lines.items ++ l) (sym (no_more account name globals c.loop-place.place none))
    ∙ c.loop-place.invariant.lines before (subst AreHeld same (c.in_ok-next.ensures.held sound))

-- the next place is after this one
pub loop-place-smaller : goal.loop-place-smaller
loop-place-smaller g c =
    let sub = rw c.in-Some.is at c.in_ok-next.ensures.sub in
    let behind = rw c.in-Some.is at c.in_ok-next.ensures.behind in
    fewer_left c.loop-place.place c.in-Some.next c.loop-place.invariant.ascii c.loop-place.invariant.place sub.1 sub.0.few behind

pub returns-in_err-text-clause-same : goal.returns-in_err-text-clause-same
returns-in_err-text-clause-same g c sound =
    let mid = undoubted c.line_text.ensures.doubt sound in
    c.line_text.ensures.same sound ∙ c.next_place.ensures.same mid ∙ c.loop-place.invariant.same (undoubted c.next_place.ensures.doubt mid)

pub returns-in_err-add-clause-same : goal.returns-in_err-add-clause-same
returns-in_err-add-clause-same g c sound =
    let mid = undoubted c.line_text.ensures.doubt sound in
    c.line_text.ensures.same sound ∙ c.next_place.ensures.same mid ∙ c.loop-place.invariant.same (undoubted c.next_place.ensures.doubt mid)

-- the line at the next place was added
pub loop-place-preserved : goal.loop-place-preserved
loop-place-preserved g c = record {
  place = (rw c.in-Some.is at c.in_ok-next.ensures.sub).0.few;
  ascii = (rw c.in-Some.is at c.in_ok-next.ensures.sub).1;
  doubt = Doubts-then c.loop-place.invariant.doubt (Doubts-then c.in_ok-next.ensures.doubt c.in_ok-text.ensures.doubt);
  same =
      λ sound.
      let mid = undoubted c.line_text.ensures.doubt sound in
      c.line_text.ensures.same sound ∙ c.next_place.ensures.same mid ∙ c.loop-place.invariant.same (undoubted c.next_place.ensures.doubt mid);
  lines =
      λ sound held.
      let globals = g.S.NodeStore.content c.args.store.now in
      let account = c.args.account.now in
      let name = c.args.name.now in
      let mid = undoubted c.line_text.ensures.doubt sound in
      let before = undoubted c.next_place.ensures.doubt mid in
      let same = c.loop-place.invariant.same before in
      let some = sym c.in-Some.is ∙ c.in_ok-next.ensures.next mid ∙ ap (λ w. order_at w Forward (line_at account name c.loop-place.place)) same in
      let text = c.in_ok-text.ensures.text sound ∙ ap (λ w. line_in w account name c.in-Some.next) (c.next_place.ensures.same mid ∙ same) in
      ap (λ l. l ++ lines_behind globals account name c.in-Some.next) (c.in_ok-add.ensures ∙ ap (λ l. c.loop-place.lines.items ++ l) text)
      ∙ append_assoc c.loop-place.lines.items (line_in globals account name c.in-Some.next) (lines_behind globals account name c.in-Some.next)
      ∙ ap (λ l. c.loop-place.lines.items ++ l) (sym (next_line account name globals c.loop-place.place c.in-Some.next some))
      ∙ c.loop-place.invariant.lines before held;
}

pub returns-clause-same : goal.returns-clause-same
returns-clause-same g c sound = c.next_place.ensures.same sound ∙ c.loop-place.invariant.same (undoubted c.next_place.ensures.doubt sound)
