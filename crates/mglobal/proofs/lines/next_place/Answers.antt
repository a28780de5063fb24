-- SPDX-License-Identifier: Apache-2.0
use Rattle.mglobal.proofs.GlobalWords.{◌≡◌, true, false, Some, sym, ap, ◌∙◌, is_lt, order_at, Forward, line_at}
use Rattle.mglobal.proofs.LineWalks.{next_behind}
use Rattle.mglobal.proofs.lines.next_place.Goals as goal

-- a store without doubt named no such place
pub returns-clause-store : goal.returns-clause-store
returns-clause-store g c steady room same =
    let sound = g.met.S.NodeStore.steady_is_told steady c.neighbour.new.store room in
    let globals = g.S.NodeStore.content c.args.store.now in
    let asked = rw (c.deref.ensures.value, c.in_ok-subs.ensures, c.as_bytes.ensures.bytes, c.requires.global) at c.in_ok-neighbour.ensures.next sound in
    let there : Some c.in-Some.value ≡ order_at globals Forward (line_at c.args.account.now c.args.name.now c.args.place.now) = sym c.in-Some.is ∙ asked in
    let before = next_behind c.args.account.now c.args.name.now globals c.args.place.now c.in-Some.value there in
    let order = rw c.in_ok-next-in-Some.ensures at c.collate.ensures in
    let clash : true ≡ false = sym before ∙ ap is_lt (sym order) ∙ sym c.is_lt.ensures ∙ c.if-is_lt.false in
    absurd (cc)
