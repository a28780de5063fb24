-- SPDX-License-Identifier: Apache-2.0
-- A line's transition, from the run of its text.
use Rattle.mworld.proofs.WorldWords.{DoubtsOver, Doubts-same, is_kept_by, ◌≡◌, ℕ, [], true, false, Vec, Global, refl, sym, ap, subst, ◌∙◌, nat_cmp, FinMap, get}
use Rattle.mworld.proofs.WorldWords.{insert, remove, Own, Lost, Memory, Store, Settings, name_at, steps_at, Act, State, Gives, Fails, level_begun, Shared}
use Rattle.mworld.proofs.WorldWords.{Event, World, Transition, FailedTransition, lost, TransitionBy, normal, begun, kept, ended, settled, session_or_new}
use Rattle.mworld.proofs.WorldWords.{text_run, is_failure, is_lost, Ending, Finished, Halted, Faulted, act, AreFit, fault_of, Code, Session, session_of}
use Rattle.mworld.proofs.WorldWords.{RunsText, EndsBy, is_halt, ending_of, reply_of, shared, Passes, cursor_of, Bool, cond}
use Rattle.mspec.specs.Code as spec
use Rattle.mspec.specs.Plan.{perform, cut_short}
use Rattle.mspec.specs.LockConflict.{Locks, released}
use Rattle.mspec.specs.Access.{language_at}
use Rattle.mspec.specs.Act.{Text, given_to}
use Rattle.mgrammar.specs.Languages.{line_in}
use Rattle.mmeaning.specs.LineMeaning.{Completion}
use Rattle.mmeaning.specs.Transition as transition
use Rattle.mmeaning.specs.Transition.{Account}
use Rattle.mmeaning.specs.Calls.{Standing, Here, Gave, IsCut, FailedBy, ops_of, point}
use Rattle.mspec.proofs.Plans.{cut_whole}
use Rattle.mmeaning.specs.TransitionLaws.{PlanKeepsOthersLocks}
use Rattle.misolation.specs.PlanLaws.{Actor, KeepsFit}
use Rattle.misolation.proofs.PlansInside.{plans_keep_fit}
use Rattle.mmeaning.proofs.Calls.{cut_all}
use Rattle.mmeaning.proofs.OtherLocks.{others_kept}
use Rattle.mnodes.specs.Steady.{IsSteady}
use Rattle.mnodes.specs.declared.store.NodeStore.{Ghosts}
use Rattle.moperator.specs.declared.code.Code.TheVariants.{Zmem, Zstore}
use Rattle.meval.specs.Evaluates.{standing_of}
use Rattle.mcommand.specs.declared.parts.Parts.{Parts}
use Rattle.mexec.specs.declared.text.Ended.{Ended}
use Rattle.mexec.specs.declared.text.Ended.TheVariants.{Done, Halt, Fault}
use Rattle.mworld.specs.declared.reply.Reply.{Reply}
use Rattle.mworld.specs.Ran.{Ran, given_at, standing_at}
use Rattle.mworld.proofs.Checks.{let_through}

-- ---- a run that is not lost

-- a completion ends a line
gave_by : (b : Standing) (terminal : ℕ) (world : World) (p : Act Completion) (h : Here) (h' : Here) → (s : Completion) × Gave b p h s h'
    → ended terminal world (perform (ops_of b) (p h.0) h.1) ≡ (record { out = h'.0.out; ending = Finished }, settled terminal world Finished h'.0 h'.1)
gave_by b terminal world p h h' d =
    let gave : perform (ops_of b) (p h.0) h.1 ≡ (Gives d.0 h'.0, h'.1) = d.1 in
    ap (ended terminal world) gave

-- so does the code of HALT
halted_by : (b : Standing) (steady : Type 0) (terminal : ℕ) (world : World) (p : Act Completion) (h : Here) (h' : Here) → FailedBy b steady p h (Own spec.Halting) h'
    → ended terminal world (perform (ops_of b) (p h.0) h.1) ≡ (record { out = h'.0.out; ending = Halted }, settled terminal world Halted h'.0 h'.1)
halted_by b steady terminal world p h h' d =
    let failed : perform (ops_of b) (p h.0) h.1 ≡ (Fails spec.Halting h'.0, h'.1) = d in
    ap (ended terminal world) failed

-- a fault that is neither that nor a loss is the line's own code
failed_by : (b : Standing) (steady : Type 0) (terminal : ℕ) (world : World) (p : Act Completion) (h : Here) (fault : spec.Fault) (h' : Here) → FailedBy b steady p h fault h' → is_halt fault ≡ false → is_lost fault ≡ false
    → ended terminal world (perform (ops_of b) (p h.0) h.1) ≡ (record { out = h'.0.out; ending = Faulted fault }, settled terminal world (Faulted fault) h'.0 h'.1)
failed_by b steady terminal world p h (Own c) h' d shown fine =
    let failed : perform (ops_of b) (p h.0) h.1 ≡ (Fails c h'.0, h'.1) = d in
    let ends : Bool → Ending = λ halts. cond halts Halted (Faulted (Own c)) in
    ap (ended terminal world) failed ∙ ap (λ halts. (record { out = h'.0.out; ending = ends halts }, settled terminal world (ends halts) h'.0 h'.1)) shown
failed_by b steady terminal world p h (Lost loss) h' d shown fine = cc

ended_by : (b : Standing) (steady : Type 0) (terminal : ℕ) (world : World) (p : Act Completion) (h : Here) (ending : Ended) (h' : Here) → EndsBy b steady p h ending h' → is_failure (ending_of ending) ≡ false
    → ended terminal world (perform (ops_of b) (p h.0) h.1) ≡ (record { out = h'.0.out; ending = ending_of ending }, settled terminal world (ending_of ending) h'.0 h'.1)
ended_by b steady terminal world p h Done h' d fine = gave_by b terminal world p h h' d
ended_by b steady terminal world p h Halt h' d fine = halted_by b steady terminal world p h h' d
ended_by b steady terminal world p h (Fault c) h' d fine = failed_by b steady terminal world p h (fault_of c) h' d.1 d.0 fine

-- ---- a run that is lost

pub is_loss : (fault : spec.Fault) → is_lost fault ≡ true → (loss : spec.Loss) × (fault ≡ Lost loss)
is_loss (Own c) e = cc
is_loss (Lost loss) e = (loss, refl)

-- however a line ended, its plan was cut somewhere
is_cut_by : (b : Standing) (steady : Type 0) (p : Act Completion) (h : Here) (fault : spec.Fault) (h' : Here) → FailedBy b steady p h fault h' → IsCut b p h h'
is_cut_by b steady p h (Own c) h' d = cut_own d
  where
    cut_own : perform (ops_of b) (p h.0) h.1 ≡ (Fails c h'.0, h'.1) → IsCut b p h h'
    cut_own e = let all = cut_whole (ops_of b) (p h.0) h.1 in (all.0, all.1 ∙ ap (λ r. r.1) e)
is_cut_by b steady p h (Lost Memory) h' d = d
is_cut_by b steady p h (Lost Store) h' d = d.1

is_cut : (b : Standing) (steady : Type 0) (p : Act Completion) (h : Here) (ending : Ended) (h' : Here) → EndsBy b steady p h ending h' → IsCut b p h h'
is_cut b steady p h Done h' d = cut_all b p h d.0 h' d.1
is_cut b steady p h Halt h' d = is_cut_by b steady p h (Own spec.Halting) h' d
is_cut b steady p h (Fault c) h' d = is_cut_by b steady p h (fault_of c) h' d.1

-- ---- steps

module _ {S : Type 0} (g : Ghosts S) (settings : Settings) (e : Event) (place : ℕ) (sessions : FinMap nat_cmp transition.Session) (old new : Session) (store store' : S) (locks locks' : Locks) (reply : Reply) (passes : Passes settings e place)
    (same : session_of old ≡ session_or_new (get sessions e.terminal)) (ran : Ran g settings e.terminal place e.text old store locks reply new store' locks') (sure : g.doubt store' ≡ 0) where
  abbrev world : World
  world = record { shared = shared g store locks; sessions = sessions }

  abbrev b : Standing
  b = standing_at settings e.terminal place

  abbrev here : Here
  here = point (level_begun old.locals) old.naked old.test (cursor_of old.cursor) [] (steps_at settings place) (given_at settings e.terminal place) (shared g store locks)

  abbrev there : Here
  there = point new.locals new.naked new.test (cursor_of new.cursor) reply.out.items ran.left (given_at settings e.terminal place) (shared g store' locks')

  ends : EndsBy b (IsSteady g store') (text_run (name_at settings place) (line_in (language_at settings place) e.text)) here reply.ending there
  ends = ran.at sure

  begins : begun e.terminal passes.account (session_or_new (get sessions e.terminal)) ≡ here.0
  begins = λ i. record { locals = level_begun (sym same i).locals; naked = (sym same i).naked; test = (sym same i).test; cursor = (sym same i).cursor; out = []; steps = passes.steps i; given = given_to e.terminal (passes.language i) }

  -- a line that is not lost
  pub ran_transition : (after : World) → is_failure (ending_of reply.ending) ≡ false → after ≡ settled e.terminal world (ending_of reply.ending) there.0 there.1 → Transition settings e (reply_of reply) world after
  ran_transition after fine stored = subst (λ l. TransitionBy l settings e (reply_of reply) world after) (sym fine) normally
    where
      normally : normal settings e world ≡ (reply_of reply, after)
      normally =
          let_through settings e passes.account world passes.known passes.short passes.ascii
          ∙ (λ i. ended e.terminal world (perform (act settings e.terminal (passes.name i)) (text_run (passes.name i) (line_in (passes.language i) e.text) (begins i)) world.shared))
          ∙ ended_by b (IsSteady g store') e.terminal world (text_run (name_at settings place) (line_in (language_at settings place) e.text)) here reply.ending there ends fine
          ∙ ap (λ (s : World). (reply_of reply, s)) (sym stored)

  -- one that is lost, even if it was run to its end: what it left of its session is gone
  pub lost_transition : (after : World) (answer : transition.Reply) (loss : spec.Loss) → after ≡ record { shared = shared g store' (released locks' e.terminal); sessions = remove sessions e.terminal } → answer ≡ lost (Faulted (Lost loss)) → Transition settings e answer world after
  lost_transition after answer loss gone is = subst (λ r. Transition settings e r world after) (sym is) (refl, failed)
    where
      cut : IsCut b (text_run (name_at settings place) (line_in (language_at settings place) e.text)) here there
      cut = is_cut b (IsSteady g store') (text_run (name_at settings place) (line_in (language_at settings place) e.text)) here reply.ending there ends

      -- whatever was done for the terminal, others hold what they held
      others : PlanKeepsOthersLocks settings e.terminal (name_at settings place) (text_run (name_at settings place) (line_in (language_at settings place) e.text) here.0) here.1
      others = others_kept settings e.terminal (name_at settings place) (text_run (name_at settings place) (line_in (language_at settings place) e.text) here.0) here.1

      failed : FailedTransition settings e world after
      failed = record {
        account = passes.account;
        known = passes.known;
        short = passes.short;
        ascii = passes.ascii;
        operations = cut.0;
        globals =
            ap (λ (s : World). s.shared.globals) gone ∙ sym (ap (λ (w : Shared). w.globals) cut.1)
            ∙ (λ i. (cut_short (act settings e.terminal (sym passes.name i)) cut.0 (text_run (sym passes.name i) (line_in (sym passes.language i) e.text) (sym begins i)) world.shared).globals);
        locks = ap (λ (s : World). s.shared.locks) gone ∙ sym (ap (λ (w : Shared). released w.locks e.terminal) cut.1) ∙ others.short cut.0;
        sessions = ap (λ (s : World). s.sessions) gone;
      }

-- whatever a text did, what is held is held as it may be
pub ran_fits : {S : Type 0} (g : Ghosts S) (settings : Settings) (e : Event) (place : ℕ) (old new : Session) (store store' : S) (locks locks' : Locks) (reply : Reply) (passes : Passes settings e place)
    → Ran g settings e.terminal place e.text old store locks reply new store' locks' → g.doubt store' ≡ 0 → AreFit settings locks → AreFit settings locks'
ran_fits g settings e place old new store store' locks locks' reply passes ran sure fit =
    let b : Standing = standing_at settings e.terminal place in
    let here : Here = point (level_begun old.locals) old.naked old.test (cursor_of old.cursor) [] (steps_at settings place) (given_at settings e.terminal place) (shared g store locks) in
    let there : Here = point new.locals new.naked new.test (cursor_of new.cursor) reply.out.items ran.left (given_at settings e.terminal place) (shared g store' locks') in
    let p : Act Completion = text_run (name_at settings place) (line_in (language_at settings place) e.text) in
    let cut : IsCut b p here there = is_cut b (IsSteady g store') p here reply.ending there (ran.at sure) in
    let sender : Actor = record { settings = settings; terminal = e.terminal; account = passes.account; known = passes.known } in
    let kept : KeepsFit sender (p here.0) here.1 = plans_keep_fit sender (p here.0) here.1 fit in
    subst (λ (w : Shared). AreFit settings w.locks)
    ((λ i. cut_short (act settings e.terminal (passes.name i)) cut.0 (p here.0) here.1) ∙ cut.1)
    (kept.short cut.0)

-- a line that was not run for a loss
pub unrun_transition : {S : Type 0} (g : Ghosts S) (settings : Settings) (e : Event) (place : ℕ) (sessions : FinMap nat_cmp transition.Session) (store : S) (locks : Locks) (passes : Passes settings e place) (after : World) (answer : transition.Reply) (loss : spec.Loss)
    → after ≡ record { shared = shared g store (released locks e.terminal); sessions = remove sessions e.terminal } → answer ≡ lost (Faulted (Lost loss)) → Transition settings e answer (record { shared = shared g store locks; sessions = sessions }) after
unrun_transition g settings e place sessions store locks passes after answer loss gone is = subst (λ r. Transition settings e r (record { shared = shared g store locks; sessions = sessions }) after) (sym is) (
  refl,
  record {
    account = passes.account;
    known = passes.known;
    short = passes.short;
    ascii = passes.ascii;
    operations = 0;
    globals = ap (λ (s : World). s.shared.globals) gone;
    locks = ap (λ (s : World). s.shared.locks) gone;
    sessions = ap (λ (s : World). s.sessions) gone;
  },
)

-- the session, with a level begun, the store, the locks and the output are those that were lent
pub ran_over : {S : Type 0} {g : Ghosts S} {text : Text} {old new : Parts S} {ended : Ended} {session session' : Session} {store' : S} {locks' : Locks} {out : Vec ℕ Global} → RunsText g (line_in (standing_of old.eval).given.language text) old ended new → old.eval.steps ≡ steps_at old.eval.settings.now old.eval.account
    → old.out.now.items ≡ [] → old.eval.session.now ≡ record session { locals = level_begun session.locals } → session' ≡ new.eval.session.now → store' ≡ new.eval.store.now → locks' ≡ new.locks.now → out ≡ new.out.now
    → Ran g old.eval.settings.now old.eval.terminal old.eval.account text session old.eval.store.now old.locks.now (record { out = out; ending = ended }) session' store' locks'
ran_over {S = S} {g = g} {text = text} {old = old} {new = new} {ended = ended} runs steps first begun s u l o = record {
  left = new.eval.steps;
  doubt = subst (λ u. DoubtsOver g old.eval.store.now u (is_kept_by ended)) (sym u) runs.doubt;
  at = λ sure.
      subst (λ (q : Here × Here × S). EndsBy (standing_of old.eval) (IsSteady g q.2) (text_run (standing_of old.eval).account (line_in (standing_of old.eval).given.language text)) q.0 ended q.1)
      (λ i. (
        point (begun i).locals (begun i).naked (begun i).test (cursor_of (begun i).cursor) (first i) (steps i) (standing_of old.eval).given (shared g old.eval.store.now old.locks.now),
        point (sym s i).locals (sym s i).naked (sym s i).test (cursor_of (sym s i).cursor) (sym o i).items new.eval.steps (runs.keeps.eval.same i).given (shared g (sym u i) (sym l i)),
        sym u i,
      ))
      (runs.at (subst (λ u. g.doubt u ≡ 0) u sure));
}

-- a text that was not run because memory ran out
pub not_run : {S : Type 0} {g : Ghosts S} {settings : Settings} {terminal place : ℕ} {text : Text} {session session' : Session} {store store' : S} {locks locks' : Locks} {reply : Reply} → reply.ending ≡ Fault Zmem → store' ≡ store → locks' ≡ locks
    → Ran g settings terminal place text session store locks reply session' store' locks'
not_run {g = g} {settings = settings} {terminal = terminal} {place = place} {text = text} {session = session} {session' = session'} {store = store} {store' = store'} {locks = locks} {locks' = locks'} {reply = reply} is same unlocked = record {
  left = 0;
  doubt = subst (λ u. DoubtsOver g store u (is_kept_by reply.ending)) (sym same) (Doubts-same _);
  at = λ sure.
      subst (λ (ending : Ended). EndsBy (standing_at settings terminal place) (IsSteady g store') (text_run (name_at settings place) (line_in (language_at settings place) text))
      (point (level_begun session.locals) session.naked session.test (cursor_of session.cursor) [] (steps_at settings place) (given_at settings terminal place) (shared g store locks)) ending
      (point session'.locals session'.naked session'.test (cursor_of session'.cursor) reply.out.items 0 (given_at settings terminal place) (shared g store' locks')))
      (sym is) (refl, (0, λ i. shared g (sym same i) (sym unlocked i)));
}

-- what a line leaves that is not lost and does not halt
pub settles : (t : ℕ) (world : World) (ending : Ended) (s : State) (w : Shared) → (ending ≡ Halt → ⊥) → settled t world (ending_of ending) s w ≡ record { shared = w; sessions = insert world.sessions t (kept s) }
settles t _ Done s w _ = refl
settles t _ Halt s w not_halt = absurd (not_halt refl)
settles t _ (Fault c) s w _ = refl

-- and one that halts
pub halts : (t : ℕ) (world : World) (ending : Ended) (s : State) (w : Shared) → ending ≡ Halt → settled t world (ending_of ending) s w ≡ record { shared = record w { locks = released w.locks t }; sessions = remove world.sessions t }
halts t world ending s w is = ap (λ (x : Ended). settled t world (ending_of x) s w) is

-- an ending that is no code is not lost
pub not_lost : (ending : Ended) → ((c : Code) → ending ≡ Fault c → ⊥) → is_failure (ending_of ending) ≡ false
not_lost Done h = refl
not_lost Halt h = refl
not_lost (Fault c) h = absurd (h c refl)
