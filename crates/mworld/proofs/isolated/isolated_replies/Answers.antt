-- SPDX-License-Identifier: Apache-2.0
use Rattle.mworld.proofs.WorldWords.{Doubts-on, undoubted, ◌≡◌, sym, ap, ◌∙◌, subst, map, take, drop, ◌+◌, take_all, name_at, settings_of, world_of, doubt_of}
use Rattle.mworld.proofs.WorldWords.{event_of}
use Rattle.mworld.proofs.Tellings.{take_on, ran_first, whichever}
use Rattle.mworld.proofs.Shuts.{told_between, told_alone, shut_on, shut_early, split_at}
use Rattle.mworld.proofs.isolated.isolated_replies.Goals as goal

pub returns-in_err-tell-clause-first : goal.returns-in_err-tell-clause-first
returns-in_err-tell-clause-first g c = λ sound.
    let transition = rw c.loop-event.invariant.settings at c.in_err-tell.ensures.transition in
    whichever c.from_residual.result
    (ran_first event_of c.args.events.now c.loop-event.event-index c.event-item.result _ _ _ _ _ _ _ c.loop-event-test.true c.event-item.is (c.loop-event.invariant.told (undoubted c.in_err-tell.ensures.doubt sound)) (transition sound))

pub returns-in_err-tell-clause-first_until_shut : goal.returns-in_err-tell-clause-first_until_shut
returns-in_err-tell-clause-first_until_shut g c = λ before now.
    let ran = c.in_err-tell.ensures.ran in
    let i = c.loop-event.invariant in
    whichever c.from_residual.result
    (rw (split_at event_of c.args.events.now c.loop-event.event-index c.event-item.result c.loop-event-test.true c.event-item.is)
    (shut_early _ _ _ (c.args.world.now.fit before) _ _ _ _ ran.0 _ (map event_of (drop (c.loop-event.event-index + 1) c.args.events.now)) _ _ c.in_err-tell.ensures.doubt now (i.told, i.until_shut before) ran.1))

pub loop-event-preserved : goal.loop-event-preserved
loop-event-preserved g c =
    let more = rw c.loop-event.invariant.settings at c.in_ok-tell.ensures.told in
    let each = rw c.loop-event.invariant.settings at c.in_ok-tell.ensures.each in
    let ran = c.in_ok-tell.ensures.ran in
    let one = rw c.loop-event.invariant.settings at c.in_ok-tell.ensures.ran.2 in
    let i = c.loop-event.invariant in
    record {
      settings = c.tell.ensures.settings ∙ c.loop-event.invariant.settings;
      doubt = Doubts-on c.loop-event.invariant.doubt c.tell.ensures.doubt;
      told = λ sound.
          rw (take_on event_of c.args.events.now c.loop-event.event-index c.event-item.result c.loop-event-test.true c.event-item.is)
          (more sound _ _ (c.loop-event.invariant.told (undoubted c.tell.ensures.doubt sound)));
      until_shut = λ before now.
          rw (take_on event_of c.args.events.now c.loop-event.event-index c.event-item.result c.loop-event-test.true c.event-item.is)
          (shut_on _ _ _ (c.args.world.now.fit before) _ _ _ _ ran.0 _ _ _ c.tell.ensures.doubt now (i.told, i.until_shut before) ran.1 one);
      each =
          rw (take_on event_of c.args.events.now c.loop-event.event-index c.event-item.result c.loop-event-test.true c.event-item.is)
          (each _ c.loop-event.invariant.each);
      sufficed = λ steady room. c.in_ok-tell.ensures.sufficed steady room (i.sufficed steady (c.tell.ensures.doubt.room room));
    }

pub returns-clause-each : goal.returns-clause-each
returns-clause-each g c = rw (take_all c.loop-event.event-index c.args.events.now c.loop-event-test.false) at c.loop-event.invariant.each

pub returns-clause-told : goal.returns-clause-told
returns-clause-told g c = λ sound.
    let told = rw (take_all c.loop-event.event-index c.args.events.now c.loop-event-test.false) at c.loop-event.invariant.told in
    told_between _ _ _ (c.args.world.now.fit (undoubted c.loop-event.invariant.doubt sound)) _ _ _ _ (told sound)

pub returns-clause-alone : goal.returns-clause-alone
returns-clause-alone g c = λ sound whole.
    let told = rw (take_all c.loop-event.event-index c.args.events.now c.loop-event-test.false) at c.loop-event.invariant.told in
    told_alone _ _ _ (c.args.world.now.fit (undoubted c.loop-event.invariant.doubt sound)) _ _ _ _ (told sound) whole

pub returns-clause-told_until_shut : goal.returns-clause-told_until_shut
returns-clause-told_until_shut g c = rw (take_all c.loop-event.event-index c.args.events.now c.loop-event-test.false) at c.loop-event.invariant.until_shut
