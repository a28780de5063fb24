-- SPDX-License-Identifier: Apache-2.0
use Rattle.mworld.proofs.WorldWords.{undoubted, ◌≡◌, false, refl, sym, ap, subst, ◌∙◌, IsSome, get, insert, Memory, Faulted, lost, is_failure, session_or_new}
use Rattle.mworld.proofs.WorldWords.{fault_of, ending_of, world_of, sessions_of, shared, AreFit, cursor_of}
use Rattle.std.specs.Option.{option_copied_mut}
use Rattle.misolation.proofs.FittingLocks.{released_fits}
use Rattle.mworld.proofs.Runs.{ran_transition, lost_transition, unrun_transition, ran_fits, is_loss, not_lost, settles, halts}
use Rattle.mworld.proofs.Sessions.{is_there, is_lent, left, gone}
use Rattle.mworld.proofs.world.World.run.Goals as goal
use Rattle.mworld.proofs.world.World.run.Goals.{in-Fault+else-loses_session, in_default-ending}

pub returns-in_default-clause-transition : goal.returns-in_default-clause-transition
returns-in_default-clause-transition g c = λ sound.
    unrun_transition g.S.NodeStore c.args.self.now.settings (record { terminal = c.args.terminal; text = c.args.text.now }) c.args.account (sessions_of c.args.self.now.sessions) c.args.self.now.store c.args.self.now.locks c.requires _ _ Memory
    (λ i. record { shared = shared g.S.NodeStore c.args.self.now.store (c.release_all.ensures i); sessions = c.in_default.ensures.none i })
    c.refused.ensures

pub returns-then-loses_session-clause-transition : goal.returns-then-loses_session-clause-transition
returns-then-loses_session-clause-transition g c = λ sound.
    let sessions = sessions_of c.args.self.now.sessions in
    let m = c.begin_session.new.sessions in
    let some = subst IsSome c.in-Some.ensures.value refl in
    let loss = is_loss (fault_of c.in-Fault.code) (sym c.loses_session.ensures ∙ c.if-loses_session.true) in
    lost_transition g.S.NodeStore c.args.self.now.settings (record { terminal = c.args.terminal; text = c.args.text.now }) c.args.account sessions c.in-Some.session.now c.run_over-reply.new.session
    c.args.self.now.store c.run_over-reply.new.store c.args.self.now.locks c.run_over-reply.new.locks c.run_over-reply.result c.requires
    (is_lent c.args.terminal m (session_or_new (get sessions c.args.terminal)) c.in-Ok.ensures.session c.in-Some.session.now c.in-Some.ensures.value) c.run_over-reply.ensures.ran sound _ _ loss.0
    (λ i. record {
      shared = shared g.S.NodeStore c.run_over-reply.new.store (c.end_session.ensures.locks i);
      sessions = (c.end_session.ensures.session ∙ gone sessions c.args.terminal m c.begin_session.ensures.others some c.get_mut.follows.lender c.get_mut.follows.holds c.run_over-reply.new.session) i;
    })
    (c.refused-then-loses_session.ensures ∙ ap (λ fault. lost (Faulted fault)) loss.1)

pub returns-in-Halt-clause-transition : goal.returns-in-Halt-clause-transition
returns-in-Halt-clause-transition g c = λ sound.
    let sessions = sessions_of c.args.self.now.sessions in
    let m = c.begin_session.new.sessions in
    let some = subst IsSome c.in-Some.ensures.value refl in
    let fine : is_failure (ending_of c.run_over-reply.result.ending) ≡ false = ap (λ ending. is_failure (ending_of ending)) c.in-Halt.is in
    ran_transition g.S.NodeStore c.args.self.now.settings (record { terminal = c.args.terminal; text = c.args.text.now }) c.args.account sessions c.in-Some.session.now c.run_over-reply.new.session
    c.args.self.now.store c.run_over-reply.new.store c.args.self.now.locks c.run_over-reply.new.locks c.run_over-reply.result c.requires
    (is_lent c.args.terminal m (session_or_new (get sessions c.args.terminal)) c.in-Ok.ensures.session c.in-Some.session.now c.in-Some.ensures.value) c.run_over-reply.ensures.ran sound _ fine
    ((λ i. record {
      shared = shared g.S.NodeStore c.run_over-reply.new.store (c.end_session-in-Halt.ensures.locks i);
      sessions = (c.end_session-in-Halt.ensures.session ∙ gone sessions c.args.terminal m c.begin_session.ensures.others some c.get_mut.follows.lender c.get_mut.follows.holds c.run_over-reply.new.session) i;
    })
    ∙ sym (halts c.args.terminal (world_of g.S.NodeStore c.args.self.now) c.run_over-reply.result.ending _ (shared g.S.NodeStore c.run_over-reply.new.store c.run_over-reply.new.locks) c.in-Halt.is))

pub returns-clause-transition : goal.returns-clause-transition
returns-clause-transition g c = λ sound.
    let sessions = sessions_of c.args.self.now.sessions in
    let m = c.begin_session.new.sessions in
    let some = subst IsSome c.in-Some.ensures.value refl in
    let fine : is_failure (ending_of c.run_over-reply.result.ending) ≡ false = elim c.match-reply.branch [
      | in-Fault+else-loses_session w ↦ ap (λ ending. is_failure (ending_of ending)) w.in-Fault.is ∙ sym w.loses_session.ensures ∙ w.if-loses_session.false
      | in_default-ending w ↦ not_lost c.run_over-reply.result.ending w.in_default-ending.not-Fault
    ] in
    ran_transition g.S.NodeStore c.args.self.now.settings (record { terminal = c.args.terminal; text = c.args.text.now }) c.args.account sessions c.in-Some.session.now c.run_over-reply.new.session
    c.args.self.now.store c.run_over-reply.new.store c.args.self.now.locks c.run_over-reply.new.locks c.run_over-reply.result c.requires
    (is_lent c.args.terminal m (session_or_new (get sessions c.args.terminal)) c.in-Ok.ensures.session c.in-Some.session.now c.in-Some.ensures.value) c.run_over-reply.ensures.ran sound _ fine
    (ap (λ (s : _). record { shared = shared g.S.NodeStore c.run_over-reply.new.store c.run_over-reply.new.locks; sessions = s })
    (left sessions c.args.terminal m c.begin_session.ensures.others some c.get_mut.follows.lender c.get_mut.follows.holds (record c.run_over-reply.new.session { locals = c.leave_all.new.self })
    ∙ ap (λ l. insert sessions c.args.terminal (record { locals = l; naked = c.run_over-reply.new.session.naked; test = c.run_over-reply.new.session.test; cursor = cursor_of c.run_over-reply.new.session.cursor })) c.leave_all.ensures)
    ∙ sym (settles c.args.terminal (world_of g.S.NodeStore c.args.self.now) c.run_over-reply.result.ending _ (shared g.S.NodeStore c.run_over-reply.new.store c.run_over-reply.new.locks) c.in_default-ending-2.not-Halt))

-- a session is there, now or from the line before
pub unreachable-requires : goal.unreachable-requires
unreachable-requires g c =
    is_there c.args.terminal c.begin_session.new.sessions (session_or_new (get (sessions_of c.args.self.now.sessions) c.args.terminal)) c.in-Ok.ensures.session
    (ap option_copied_mut (sym c.in_default-get_mut.is) ∙ c.get_mut.ensures.value)

-- ---- what is held is held as it may be

pub invariant_of-self : goal.invariant_of-self
invariant_of-self g c = record {
  fit = λ sound. subst (AreFit c.args.self.now.settings) (sym c.release_all.ensures) (released_fits c.args.self.now.settings c.args.self.now.locks c.args.terminal (c.args.self.now.fit sound));
}

pub invariant_of-self-then-loses_session : goal.invariant_of-self-then-loses_session
invariant_of-self-then-loses_session g c = record {
  fit = λ sound.
      subst (AreFit c.args.self.now.settings) (sym c.end_session.ensures.locks)
      (released_fits c.args.self.now.settings c.run_over-reply.new.locks c.args.terminal
      (ran_fits g.S.NodeStore c.args.self.now.settings (record { terminal = c.args.terminal; text = c.args.text.now }) c.args.account c.in-Some.session.now c.run_over-reply.new.session
      c.args.self.now.store c.run_over-reply.new.store c.args.self.now.locks c.run_over-reply.new.locks c.run_over-reply.result c.requires c.run_over-reply.ensures.ran sound (c.args.self.now.fit (undoubted c.run_over-reply.ensures.ran.doubt sound))));
}

pub invariant_of-self-in-Halt : goal.invariant_of-self-in-Halt
invariant_of-self-in-Halt g c = record {
  fit = λ sound.
      subst (AreFit c.args.self.now.settings) (sym c.end_session-in-Halt.ensures.locks)
      (released_fits c.args.self.now.settings c.run_over-reply.new.locks c.args.terminal
      (ran_fits g.S.NodeStore c.args.self.now.settings (record { terminal = c.args.terminal; text = c.args.text.now }) c.args.account c.in-Some.session.now c.run_over-reply.new.session
      c.args.self.now.store c.run_over-reply.new.store c.args.self.now.locks c.run_over-reply.new.locks c.run_over-reply.result c.requires c.run_over-reply.ensures.ran sound (c.args.self.now.fit (undoubted c.run_over-reply.ensures.ran.doubt sound))));
}

pub invariant_of-self-2 : goal.invariant_of-self-2
invariant_of-self-2 g c = record {
  fit = λ sound.
      ran_fits g.S.NodeStore c.args.self.now.settings (record { terminal = c.args.terminal; text = c.args.text.now }) c.args.account c.in-Some.session.now c.run_over-reply.new.session
      c.args.self.now.store c.run_over-reply.new.store c.args.self.now.locks c.run_over-reply.new.locks c.run_over-reply.result c.requires c.run_over-reply.ensures.ran sound (c.args.self.now.fit (undoubted c.run_over-reply.ensures.ran.doubt sound));
}
