-- SPDX-License-Identifier: Apache-2.0
use Rattle.mworld.proofs.WorldWords.{◌≡◌, ℕ, List, ◌++◌, ◌∷◌, [], refl, sym, ap, ◌∙◌, subst, map, map-append, name_at, Event, Transition, Tells, settings_of}
use Rattle.mworld.proofs.WorldWords.{world_of, reply_of, event_of, told_of}
use Rattle.mworld.proofs.Tellings.{nobody_told, other_told, own_told, tells_more, each_more, no_ok}
use Rattle.mworld.proofs.Shuts.{shut_by}
use Rattle.mworld.proofs.StoreFaults.{store_sufficed, told_more}
use Rattle.mworld.proofs.isolated.tell.Goals as goal

-- ---- the event was run

pub returns-in_default-clause-ran : goal.returns-in_default-clause-ran
returns-in_default-clause-ran g c =
    let none = rw (c.settings.ensures ∙ c.line-reply.ensures.settings) at c.in_default.ensures.account in (
      reply_of c.line-reply.result,
      λ before now. shut_by _ c.line-reply.ensures.doubt before (sym c.reuse.ensures.doubt ∙ now),
      nobody_told _ _ _ _ (event_of c.args.event.now) (reply_of c.line-reply.result) (sym none),
    )

pub returns-then-not-is_same-clause-ran : goal.returns-then-not-is_same-clause-ran
returns-then-not-is_same-clause-ran g c =
    let sender = rw (c.settings.ensures ∙ c.line-reply.ensures.settings) at c.in-Some.ensures in
    let whole = rw (c.settings-2.ensures ∙ c.line-reply.ensures.settings) at c.in_ok-isolated.ensures in
    let apart = rw (c.settings-3.ensures ∙ c.line-reply.ensures.settings) at c.is_same.ensures in (
      reply_of c.line-reply.result,
      λ before now. shut_by _ c.line-reply.ensures.doubt before (sym c.reuse-then-not-is_same.ensures.doubt ∙ now),
      other_told _ _ _ _ (event_of c.args.event.now) (reply_of c.line-reply.result) c.in-Some.sender sender.account sender.known c.in_ok-isolated.field-0 whole (sym apart ∙ c.if-not-is_same.true),
    )

pub returns-clause-ran : goal.returns-clause-ran
returns-clause-ran g c =
    let sender = rw (c.settings.ensures ∙ c.line-reply.ensures.settings) at c.in-Some.ensures in
    let whole = rw (c.settings-2.ensures ∙ c.line-reply.ensures.settings) at c.in_ok-isolated.ensures in
    let own = rw (c.settings-3.ensures ∙ c.line-reply.ensures.settings) at c.is_same.ensures in
    let told = ap (map told_of) c.in_ok-push.ensures.items ∙ map-append told_of c.args.isolated.now.replies.items (record { terminal = c.args.event.now.terminal; reply = c.line-reply.result } ∷ []) in (
      reply_of c.line-reply.result,
      λ before now. shut_by _ c.line-reply.ensures.doubt before now,
      rw told (own_told _ _ _ _ (event_of c.args.event.now) (reply_of c.line-reply.result) c.in-Some.sender sender.account sender.known c.in_ok-isolated.field-0 whole (sym own ∙ c.if-not-is_same.false)),
    )

pub returns-in_err-isolated-clause-ran : goal.returns-in_err-isolated-clause-ran
returns-in_err-isolated-clause-ran g c = (reply_of c.line-reply.result, λ before now. shut_by _ c.line-reply.ensures.doubt before now, no_ok _ c.from_residual.result c.from_residual.ensures.0)

pub returns-in_err-push-clause-ran : goal.returns-in_err-push-clause-ran
returns-in_err-push-clause-ran g c = (reply_of c.line-reply.result, λ before now. shut_by _ c.line-reply.ensures.doubt before now, no_ok _ c.from_residual-in_err-push.result c.from_residual-in_err-push.ensures.0)

-- ---- so a run goes on

pub returns-in_default-clause-told : goal.returns-in_default-clause-told
unfolding returns-in_default-clause-ran
returns-in_default-clause-told g c = λ sure world events h.
    let transition = rw c.deref.ensures.value at (c.line-reply.ensures.transition (sym c.reuse.ensures.doubt ∙ sure)) in
    rw c.reuse.ensures.world (tells_more (returns-in_default-clause-ran g c).2 world _ _ events h transition)

pub returns-then-not-is_same-clause-told : goal.returns-then-not-is_same-clause-told
unfolding returns-then-not-is_same-clause-ran
returns-then-not-is_same-clause-told g c = λ sure world events h.
    let transition = rw c.deref.ensures.value at (c.line-reply.ensures.transition (sym c.reuse-then-not-is_same.ensures.doubt ∙ sure)) in
    rw c.reuse-then-not-is_same.ensures.world (tells_more (returns-then-not-is_same-clause-ran g c).2 world _ _ events h transition)

pub returns-clause-told : goal.returns-clause-told
unfolding returns-clause-ran
returns-clause-told g c = λ sure world events h.
    let transition = rw c.deref.ensures.value at (c.line-reply.ensures.transition sure) in
    tells_more (returns-clause-ran g c).2 world _ _ events h transition

pub returns-in_default-clause-each : goal.returns-in_default-clause-each
unfolding returns-in_default-clause-ran
returns-in_default-clause-each g c = λ events h. each_more (returns-in_default-clause-ran g c).2 events h

pub returns-then-not-is_same-clause-each : goal.returns-then-not-is_same-clause-each
unfolding returns-then-not-is_same-clause-ran
returns-then-not-is_same-clause-each g c = λ events h. each_more (returns-then-not-is_same-clause-ran g c).2 events h

pub returns-clause-each : goal.returns-clause-each
unfolding returns-clause-ran
returns-clause-each g c = λ events h. each_more (returns-clause-ran g c).2 events h

pub returns-then-not-is_same-clause-transition : goal.returns-then-not-is_same-clause-transition
returns-then-not-is_same-clause-transition g c = λ sure.
    let transition = rw c.deref.ensures.value at (c.line-reply.ensures.transition (sym c.reuse-then-not-is_same.ensures.doubt ∙ sure)) in
    (reply_of c.line-reply.result, rw c.reuse-then-not-is_same.ensures.world transition)

pub returns-clause-transition : goal.returns-clause-transition
returns-clause-transition g c = λ sure. (reply_of c.line-reply.result, rw c.deref.ensures.value at (c.line-reply.ensures.transition sure))

pub returns-in_err-isolated-clause-transition : goal.returns-in_err-isolated-clause-transition
returns-in_err-isolated-clause-transition g c = λ sure. (reply_of c.line-reply.result, rw c.deref.ensures.value at (c.line-reply.ensures.transition sure))

pub returns-in_err-push-clause-transition : goal.returns-in_err-push-clause-transition
returns-in_err-push-clause-transition g c = λ sure. (reply_of c.line-reply.result, rw c.deref.ensures.value at (c.line-reply.ensures.transition sure))

-- ---- and no reply says that the store failed

pub returns-clause-sufficed : goal.returns-clause-sufficed
returns-clause-sufficed g c = λ steady room before.
    let told = ap (map told_of) c.in_ok-push.ensures.items ∙ map-append told_of c.args.isolated.now.replies.items (record { terminal = c.args.event.now.terminal; reply = c.line-reply.result } ∷ []) in
    rw told (told_more _ _ (store_sufficed c.line-reply.result.ending (c.line-reply.ensures.steady steady room)) before)
