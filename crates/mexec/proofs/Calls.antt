-- SPDX-License-Identifier: Apache-2.0
-- How the calls of this crate are put together.
use Rattle.mexec.proofs.ExecWords.{Doubts-same, Doubts-then, undoubted, ◌≡◌, ℕ, zero, suc, ◌≤◌, ◌<◌, ◌+◌, ◌++◌, List, [], ◌∷◌, Result, Ok, Err, length, drop}
use Rattle.mexec.proofs.ExecWords.{get_or, refl, sym, ◌∙◌, subst, arith, drop_more, IsErr, IsErrAnd, Text, Act, ◌>>=◌, ◌>>◌, give, set_test, ExprTree, ArgTree}
use Rattle.mexec.proofs.ExecWords.{CommandTree, as_truth, Inside, inside, inside_of, context, value, Go_on, after, Standing, Here, Did, View, Rests, Lists}
use Rattle.mexec.proofs.ExecWords.{left, frame, Enough, MovedOn, residual_is, did_then, did_failed, did_gives, did_lost, then_follows, then_failed, assoc}
use Rattle.mexec.proofs.ExecWords.{ended, Ghosts, fault_of, Code, Zmem, standing_of, depth_of, Parts, Does, DoesAt, here_of, Runs, view, stack}
use Rattle.mexec.proofs.ExecWords.{stacked, resting, completion_of, position_of, went, listing, at_done, keeps_at_depth, keeps_itself, keeps_on, Completion}
use Rattle.mmeaning.proofs.Calls.{did_spent}
use Rattle.mmeaning.specs.Frames.{Fits}
use Rattle.mexec.specs.Frames.{RunsFurther, RunsIf, RunsWithin}
use Rattle.mmeaning.specs.LineMeaning as meaning
use Rattle.mnodes.specs.Steady.{IsSteady}
use Rattle.mmeaning.proofs.Moves.{on_then, on_failed, on_lost, on_completion, on_frame, on_top, enough}
use Rattle.meval.specs.declared.depth.Depth.{Depth}
use Rattle.mcommand.specs.Conditions.{tested}
use Rattle.mexec.specs.declared.frames.Frame.{Frame}
use Rattle.mexec.specs.declared.frames.Position as positions
use Rattle.mexec.proofs.Here.{Here as InLine}
use Rattle.mexec.specs.declared.completion.Completion.TheVariants as completion

-- ---- acts

pub at_then : {S A B X Y : Type 0} {g : Ghosts S} {p : Text → ℕ → Act A} (q : Text → ℕ → A → Act B) {f : X → A} {j : Y → B} {old mid new : Parts S} {x : X} {r : Result Y Code}
    → DoesAt g p f old (Ok x) mid → DoesAt g (λ a n. q a n (f x)) j mid r new → DoesAt g (λ a n. p a n >>= q a n) j old r new
at_then {g = g} q {f = f} {j = j} {old = old} {mid = mid} {new = new} {x = x} {r = r} d k = record {
  at = λ sure.
      did_then (q (standing_of old.eval).account) (d.at (undoubted k.doubt sure))
      (subst (λ b. Did b (IsSteady g new.eval.store.now) fault_of (λ n. q b.account n (f x)) j (here_of g mid) r (here_of g new)) d.keeps.eval.same (k.at sure));
  doubt = Doubts-then d.doubt k.doubt;
  keeps = keeps_on d.keeps k.keeps;
}

-- what is done whatever texts may be entered is done where one more may be
pub one_more : {S A X : Type 0} {g : Ghosts S} (p : Text → ℕ → Act A) {f : X → A} {old new : Parts S} {r : Result X Code}
    → DoesAt g p f old r new → DoesAt g (λ a n. p a (suc n)) f old r new
one_more p k = record {
  at = λ sure. let did = k.at sure in record { at = λ n le. did.at (suc n) (omega arith); fewer = did.fewer };
  doubt = k.doubt;
  keeps = k.keeps;
}

-- once a step is spent, one text more may be entered than there are steps
pub at_spent : {S A B X Y : Type 0} {g : Ghosts S} {p : Text → ℕ → Act A} (q : Text → ℕ → A → Act B) {f : X → A} {j : Y → B} {old mid new : Parts S} {x : X} {r : Result Y Code}
    → DoesAt g p f old (Ok x) mid → mid.eval.steps < old.eval.steps → DoesAt g (λ a n. q a (suc n) (f x)) j mid r new
    → DoesAt g (λ a n. p a n >>= q a n) j old r new
at_spent {g = g} q {f = f} {j = j} {old = old} {mid = mid} {new = new} {x = x} {r = r} d less k = record {
  at = λ sure.
      did_spent (q (standing_of old.eval).account) (d.at (undoubted k.doubt sure)) less
      (subst (λ b. Did b (IsSteady g new.eval.store.now) fault_of (λ n. q b.account (suc n) (f x)) j (here_of g mid) r (here_of g new)) d.keeps.eval.same (k.at sure));
  doubt = Doubts-then d.doubt k.doubt;
  keeps = keeps_on d.keeps k.keeps;
}

-- if the call returns by a `?`
pub at_stopped : {S A B X Y : Type 0} {g : Ghosts S} {p : Text → ℕ → Act A} (q : Text → ℕ → A → Act B) {f : X → A} {j : Y → B} {old new : Parts S} {e : Code} {r : Result Y Code}
    → DoesAt g p f old (Err e) new → IsErr r × IsErrAnd r (λ x. x ≡ e) → DoesAt g (λ a n. p a n >>= q a n) j old r new
at_stopped {g = g} {p = p} q {j = j} {old = old} {new = new} {e = e} {r = r} d h =
    subst (λ r. DoesAt g (λ a n. p a n >>= q a n) j old r new) (sym (residual_is r e h)) (record {
      at = λ sure. did_failed (q (standing_of old.eval).account) (d.at sure);
      doubt = d.doubt;
      keeps = d.keeps;
    })

pub at_failed : {S A B X Y : Type 0} {g : Ghosts S} {p : Text → ℕ → Act A} (q : Text → ℕ → A → Act B) {f : X → A} {j : Y → B} {old new : Parts S} {e : Code}
    → DoesAt g p f old (Err e) new → DoesAt g (λ a n. p a n >>= q a n) j old (Err e) new
at_failed q d = at_stopped q d (refl, refl)

pub at_gives : {S A X : Type 0} {g : Ghosts S} {parts : Parts S} (a : A) (f : X → A) (x : X) → f x ≡ a → DoesAt g (λ b n. give a) f parts (Ok x) parts
at_gives a f x same = record {
  at = λ sure. did_gives a f x same;
  doubt = Doubts-same _;
  keeps = keeps_itself _;
}

-- out of memory, if the call returns by a `?`
pub at_wanting : {S A X : Type 0} {g : Ghosts S} {parts : Parts S} (p : Text → ℕ → Act A) (f : X → A) (r : Result X Code) → IsErr r × IsErrAnd r (λ x. x ≡ Zmem)
    → DoesAt g p f parts r parts
at_wanting {g = g} {parts = parts} p f r h = subst (λ r. DoesAt g p f parts r parts) (sym (residual_is r Zmem h)) (record {
  at = λ sure. did_lost (p (standing_of parts.eval).account) f Zmem tt refl (omega arith);
  doubt = Doubts-same _;
  keeps = keeps_itself _;
})

-- a call at a depth of its own, which goes on with what is next
module _ {S : Type 0} {g : Ghosts S} (p : Inside → Act (Unit {0})) (depth : Depth) {old new : Parts S} where
  pub goes_on : (r : Result (Unit {0}) Code) → Does g p (λ (u : Unit {0}). u) (record old { eval = record old.eval { depth = depth } }) r new
      → DoesAt g (λ a n. p (inside a n (depth_of depth)) >> give Go_on) completion_of old (went r) new
  goes_on (Ok u) d = at_then (λ a n _. give Go_on) (at_done depth d) (at_gives Go_on completion_of completion.GoOn refl)
  goes_on (Err e) d = at_failed (λ a n _. give Go_on) (at_done depth d)

-- IF is a condition that is tested, and what follows from it
pub testing_is : (i : Inside) (e : ExprTree) → ◌≡◌ {A = Act meaning.Completion} (meaning.testing i e) (tested i e >>= (λ b. give (meaning.where_true b)))
testing_is i e = sym (
    assoc (value i e) (λ x. as_truth x >>= (λ b. set_test b >> give b)) (λ b. give (meaning.where_true b))
    ∙ (λ j. value i e >>= (λ x. assoc (as_truth x) (λ b. set_test b >> give b) (λ b. give (meaning.where_true b)) j)))

-- a completion that passes what is next
pub passes : (s : Completion) (p : Act meaning.Completion) → (s ≡ completion.GoOn → ⊥)
    → ◌≡◌ {A = Act meaning.Completion} (after (completion_of s) p) (give (completion_of s))
passes completion.GoOn p not_go = absurd (not_go refl)
passes s p not_go = refl

-- a call at a depth that plays no part
pub at_depth : {S A X : Type 0} {g : Ghosts S} {p : Text → ℕ → Act A} {f : X → A} {old new : Parts S} {r : Result X Code} (d : Depth)
    → DoesAt g p f (record old { eval = record old.eval { depth = d } }) r new → DoesAt g p f old r new
at_depth d k = record { at = λ sure. k.at sure; doubt = k.doubt; keeps = keeps_at_depth d k.keeps }

-- an act by another name
pub at_as : {S A X : Type 0} {g : Ghosts S} {p q : Text → ℕ → Act A} {f : X → A} {old new : Parts S} {r : Result X Code}
    → ((a : Text) (n : ℕ) → ◌≡◌ {A = Act A} (p a n) (q a n)) → DoesAt g q f old r new → DoesAt g p f old r new
at_as {g = g} {f = f} {old = old} {new = new} {r = r} same k = subst (λ p. DoesAt g p f old r new) (λ i a n. sym (same a n) i) k

-- the same in a line's context, for an act that calls no function
pub goes_here : {S : Type 0} {g : Ghosts S} (p : positions.Position) (act : Inside → Act (Unit {0})) → InLine (position_of p) act
    → {old new : Parts S} (r : Result (Unit {0}) Code)
    → Does g act (λ (u : Unit {0}). u) (record old { eval = record old.eval { depth = p.depth } }) r new → DoesAt g (λ a n. act (inside_of (context a n (position_of p))) >> give Go_on) completion_of old (went r) new
goes_here p act here r d = at_as (λ a n. λ i. here a n i >> give Go_on) (goes_on act p.depth r d)

-- ---- acts before frames

moved_to : {A : Type 0} {b b1 : Standing} {steady : Type 0} (p : Text → Act A) (k : Text → A → Act meaning.Completion) {h h1 : Here} {r : Result Completion Code} {fs : List View}
    → b1 ≡ b → MovedOn b1 steady fault_of completion_of (p b1.account) (k b1.account) h r fs h1
    → MovedOn b steady fault_of completion_of (p b.account) (k b.account) h r fs h1
moved_to {steady = steady} p k {h = h} {h1 = h1} {r = r} {fs = fs} same m =
    subst (λ b. MovedOn b steady fault_of completion_of (p b.account) (k b.account) h r fs h1) same m

module _ (fits : (steps n : ℕ) → Type 0) (sound : (s n : ℕ) → fits s n → s ≤ n) (fewer : (m s n : ℕ) → m ≤ s → fits s n → fits m n) where
  pub if_then : {S A X : Type 0} {g : Ghosts S} {p : Text → ℕ → Act A} (q : Text → ℕ → A → Act meaning.Completion) {f : X → A} {x : X} {fs fs' : List View} {old mid new : Parts S} {r : Result Completion Code}
      → DoesAt g p f old (Ok x) mid → RunsIf fits g (λ a n. q a n (f x)) fs mid r fs' new → RunsIf fits g (λ a n. p a n >>= q a n) fs old r fs' new
  if_then q {f = f} {x = x} {fs = fs} {old = old} {mid = mid} d k =
      let few = d.keeps.eval.fewer in
      record {
        at = λ sure n ns le e.
            on_then (q (standing_of old.eval).account n) n (sound old.eval.steps n le) (d.at (undoubted k.doubt sure))
            (moved_to (λ a. q a n (f x)) (λ a. left a fs ns) d.keeps.eval.same (k.at sure n ns (fewer mid.eval.steps old.eval.steps n few le) (enough mid.eval.steps old.eval.steps fs ns few e)));
        doubt = Doubts-then d.doubt k.doubt;
        keeps = keeps_on d.keeps k.keeps;
      }

  -- an act fails, and the call returns by a `?`
  pub if_stopped : {S A X : Type 0} {g : Ghosts S} {p : Text → ℕ → Act A} (q : Text → ℕ → A → Act meaning.Completion) {f : X → A} {fs fs' : List View} {old new : Parts S} {r : Result Completion Code} {e : Code}
      → DoesAt g p f old (Err e) new → IsErr r × IsErrAnd r (λ x. x ≡ e) → RunsIf fits g (λ a n. p a n >>= q a n) fs old r fs' new
  if_stopped {g = g} {p = p} q {fs = fs} {fs' = fs'} {old = old} {new = new} {r = r} d h =
      subst (λ r. RunsIf fits g (λ a n. p a n >>= q a n) fs old r fs' new) (sym (residual_is r _ h)) (record {
        at = λ sure n ns le e. on_failed (q (standing_of old.eval).account n) n (sound old.eval.steps n le) (d.at sure);
        doubt = d.doubt;
        keeps = d.keeps;
      })

  -- if the first act spent the step of an entry: what follows runs with one text fewer
  pub if_spent : (below : (m s n : ℕ) → m < s → fits s (suc n) → fits m n) {S A X : Type 0} {g : Ghosts S} {p : Text → ℕ → Act A} (q : Text → ℕ → A → Act meaning.Completion) {f : X → A} {x : X} {fs fs' : List View} {old mid new : Parts S} {r : Result Completion Code}
      → DoesAt g p f old (Ok x) mid → mid.eval.steps < old.eval.steps → RunsIf fits g (λ a n. q a (suc n) (f x)) fs mid r fs' new → RunsIf fits g (λ a n. p a n >>= q a n) fs old r fs' new
  if_spent below {g = g} {p = p} q {f = f} {x = x} {fs = fs} {fs' = fs'} {old = old} {mid = mid} {new = new} {r = r} d less k = record {
    at = go;
    doubt = Doubts-then d.doubt k.doubt;
    keeps = keeps_on d.keeps k.keeps;
  }
    where
      go : g.doubt new.eval.store.now ≡ 0 → (n : ℕ) (ns : List ℕ) → fits old.eval.steps n → Enough old.eval.steps fs ns
          → MovedOn (standing_of old.eval) (IsSteady g new.eval.store.now) fault_of completion_of (p (standing_of old.eval).account n >>= q (standing_of old.eval).account n) (left (standing_of old.eval).account fs ns) (here_of g old) r fs' (here_of g new)
      go sure zero ns le e = let none = sound old.eval.steps zero le in absurd (omega arith)
      go sure (suc n) ns le e =
          on_then (q (standing_of old.eval).account (suc n)) (suc n) (sound old.eval.steps (suc n) le) (d.at (undoubted k.doubt sure))
          (moved_to (λ a. q a (suc n) (f x)) (λ a. left a fs ns) d.keeps.eval.same (k.at sure n ns (below mid.eval.steps old.eval.steps n less le) (enough mid.eval.steps old.eval.steps fs ns (omega arith) e)))

  -- an act that leaves the frames as they are
  pub if_done : {S : Type 0} {g : Ghosts S} {p : Text → ℕ → Act meaning.Completion} {fs : List View} {old new : Parts S} (r : Result Completion Code)
      → DoesAt g p completion_of old r new → RunsIf fits g p fs old r fs new
  if_done {g = g} {p = p} {fs = fs} {old = old} {new = new} (Ok s) d = record {
    at = λ sure n ns le e. record {
      done =
          let b = standing_of old.eval in
          let did = d.at sure in
          let few = d.keeps.eval.fewer in
          (ns, enough new.eval.steps old.eval.steps fs ns few e, then_follows b (p b.account n) (left b.account fs ns) (here_of g old) (completion_of s) (here_of g new) (did.at n (sound old.eval.steps n le)));
    };
    doubt = d.doubt;
    keeps = d.keeps;
  }
  if_done {g = g} {p = p} {fs = fs} {old = old} {new = new} (Err c) d = record {
    at = λ sure n ns le e. record {
      done =
          let b = standing_of old.eval in
          let did = d.at sure in
          then_failed b (IsSteady g new.eval.store.now) (p b.account n) (left b.account fs ns) (here_of g old) (fault_of c) (here_of g new) (did.at n (sound old.eval.steps n le));
    };
    doubt = d.doubt;
    keeps = d.keeps;
  }

module _ {fits : (steps n : ℕ) → Type 0} where
  -- out of memory: the call returns by a `?`
  pub runs_wanting : {S : Type 0} {g : Ghosts S} (p : Text → ℕ → Act meaning.Completion) {fs fs' : List View} {parts : Parts S} (r : Result Completion Code)
      → IsErr r × IsErrAnd r (λ x. x ≡ Zmem) → RunsIf fits g p fs parts r fs' parts
  runs_wanting {g = g} p {fs = fs} {fs' = fs'} {parts = parts} r h = subst (λ r. RunsIf fits g p fs parts r fs' parts) (sym (residual_is r Zmem h)) (record {
    at = λ sure n ns le e. on_lost (p (standing_of parts.eval).account n) (left (standing_of parts.eval).account fs ns) Zmem tt refl (omega arith);
    doubt = Doubts-same _;
    keeps = keeps_itself _;
  })

  -- a completion is given to the frames
  pub runs_completion : {S : Type 0} {g : Ghosts S} {fs : List View} {parts : Parts S} (s : Completion)
      → RunsIf fits g (λ a n. give (completion_of s)) fs parts (Ok s) fs parts
  runs_completion s = record {
    at = λ sure n ns le e. on_completion s ns e;
    doubt = Doubts-same _;
    keeps = keeps_itself _;
  }

  -- an act by another name
  pub runs_as : {S : Type 0} {g : Ghosts S} {p q : Text → ℕ → Act meaning.Completion} {fs fs' : List View} {old new : Parts S} {r : Result Completion Code}
      → ((a : Text) (n : ℕ) → ◌≡◌ {A = Act meaning.Completion} (p a n) (q a n)) → RunsIf fits g q fs old r fs' new → RunsIf fits g p fs old r fs' new
  runs_as {g = g} {fs = fs} {fs' = fs'} {old = old} {new = new} {r = r} same k = subst (λ p. RunsIf fits g p fs old r fs' new) (λ i a n. sym (same a n) i) k

  -- a frame stands below what is done, in place of what it does then
  pub frame_below : {S : Type 0} {g : Ghosts S} {p : Text → ℕ → Act meaning.Completion} (f : View) → ((s n : ℕ) → fits s n → Fits f s n)
      → {fs fs' : List View} {old new : Parts S} {r : Result Completion Code} → RunsIf fits g p (f ∷ fs) old r fs' new
      → RunsIf fits g (λ a n. p a n >>= frame a n f) fs old r fs' new
  frame_below f fit {fs = fs} {old = old} k = record {
    at = λ sure n ns le e. on_frame fs f n ns (k.at sure n (n ∷ ns) le (fit old.eval.steps n le, e));
    doubt = k.doubt;
    keeps = k.keeps;
  }

  -- a frame is on top, and goes on with what is next
  pub frame_top : {S : Type 0} {g : Ghosts S} {fs : List View} {parts : Parts S} (f : View) → ((s n : ℕ) → fits s n → Fits f s n)
      → RunsIf fits g (λ a n. frame a n f Go_on) fs parts (Ok completion.GoOn) (f ∷ fs) parts
  frame_top {parts = parts} f fit = record {
    at = λ sure n ns le e. on_top f completion.GoOn n ns (fit parts.eval.steps n le) e;
    doubt = Doubts-same _;
    keeps = keeps_itself _;
  }

-- ---- as many texts as there are steps

module _ {S A X : Type 0} {g : Ghosts S} {p : Text → ℕ → Act A} (q : Text → ℕ → A → Act meaning.Completion) {f : X → A} where
  pub runs_then : {x : X} {fs fs' : List View} {old mid new : Parts S} {r : Result Completion Code} → DoesAt g p f old (Ok x) mid
      → Runs g (λ a n. q a n (f x)) fs mid r fs' new → Runs g (λ a n. p a n >>= q a n) fs old r fs' new
  runs_then d k = if_then (λ s n. s ≤ n) (λ s n h. h) (λ m s n le h. omega arith) q d k

  pub runs_spent : {x : X} {fs fs' : List View} {old mid new : Parts S} {r : Result Completion Code} → DoesAt g p f old (Ok x) mid
      → mid.eval.steps < old.eval.steps → Runs g (λ a n. q a (suc n) (f x)) fs mid r fs' new → Runs g (λ a n. p a n >>= q a n) fs old r fs' new
  runs_spent d less k = if_spent (λ s n. s ≤ n) (λ s n h. h) (λ m s n le h. omega arith) (λ m s n less h. omega arith) q d less k

  pub runs_stopped : {fs fs' : List View} {old new : Parts S} {r : Result Completion Code} {e : Code} → DoesAt g p f old (Err e) new
      → IsErr r × IsErrAnd r (λ x. x ≡ e) → Runs g (λ a n. p a n >>= q a n) fs old r fs' new
  runs_stopped d h = if_stopped (λ s n. s ≤ n) (λ s n h. h) (λ m s n le h. omega arith) q d h

  -- within a command, one more
  pub within_then : {x : X} {fs fs' : List View} {old mid new : Parts S} {r : Result Completion Code} → DoesAt g p f old (Ok x) mid
      → RunsWithin g (λ a n. q a n (f x)) fs mid r fs' new → RunsWithin g (λ a n. p a n >>= q a n) fs old r fs' new
  within_then d k = if_then (λ s n. s < n) (λ s n h. omega arith) (λ m s n le h. omega arith) q d k

  pub within_spent : {x : X} {fs fs' : List View} {old mid new : Parts S} {r : Result Completion Code} → DoesAt g p f old (Ok x) mid
      → mid.eval.steps < old.eval.steps → RunsWithin g (λ a n. q a (suc n) (f x)) fs mid r fs' new → RunsWithin g (λ a n. p a n >>= q a n) fs old r fs' new
  within_spent d less k = if_spent (λ s n. s < n) (λ s n h. omega arith) (λ m s n le h. omega arith) (λ m s n less h. omega arith) q d less k

  pub within_stopped : {fs fs' : List View} {old new : Parts S} {r : Result Completion Code} {e : Code} → DoesAt g p f old (Err e) new
      → IsErr r × IsErrAnd r (λ x. x ≡ e) → RunsWithin g (λ a n. p a n >>= q a n) fs old r fs' new
  within_stopped d h = if_stopped (λ s n. s < n) (λ s n h. omega arith) (λ m s n le h. omega arith) q d h

-- what is done, and then what runs where it may enter another number of texts
pub then_if : {S A X : Type 0} {g : Ghosts S} {fits more : (steps n : ℕ) → Type 0} {p : Text → ℕ → Act A} (q : Text → ℕ → A → Act meaning.Completion) {f : X → A} {x : X} {fs fs' : List View} {old mid new : Parts S} {r : Result Completion Code}
    → ((s n : ℕ) → fits s n → s ≤ n) → DoesAt g p f old (Ok x) mid → ((n : ℕ) → fits old.eval.steps n → more mid.eval.steps n)
    → RunsIf more g (λ a n. q a n (f x)) fs mid r fs' new → RunsIf fits g (λ a n. p a n >>= q a n) fs old r fs' new
then_if q {f = f} {x = x} {fs = fs} {old = old} {mid = mid} sound d fit k =
    let few = d.keeps.eval.fewer in
    record {
      at = λ sure n ns le e.
          on_then (q (standing_of old.eval).account n) n (sound old.eval.steps n le) (d.at (undoubted k.doubt sure))
          (moved_to (λ a. q a n (f x)) (λ a. left a fs ns) d.keeps.eval.same (k.at sure n ns (fit n le) (enough mid.eval.steps old.eval.steps fs ns few e)));
      doubt = Doubts-then d.doubt k.doubt;
      keeps = keeps_on d.keeps k.keeps;
    }

-- after a step of a program
module _ {S A X : Type 0} {g : Ghosts S} {p : Text → ℕ → Act A} (q : Text → ℕ → A → Act meaning.Completion) {f : X → A} where
  pub further_on : {x : X} {fs fs' : List View} {old mid new : Parts S} {r : Result Completion Code} → DoesAt g p f old (Ok x) mid
      → RunsFurther g (λ a n. q a n (f x)) fs mid r fs' new → RunsFurther g (λ a n. p a n >>= q a n) fs old r fs' new
  further_on d k = if_then (λ s n. suc s < n) (λ s n h. omega (arith, h)) (λ m s n le h. omega (arith, le, h)) q d k

  pub further_failed : {fs fs' : List View} {old new : Parts S} {r : Result Completion Code} {e : Code} → DoesAt g p f old (Err e) new
      → IsErr r × IsErrAnd r (λ x. x ≡ e) → RunsFurther g (λ a n. p a n >>= q a n) fs old r fs' new
  further_failed d h = if_stopped (λ s n. suc s < n) (λ s n h. omega (arith, h)) (λ m s n le h. omega (arith, le, h)) q d h

-- what is done where one text more may be entered, and then what runs
module _ {S A X : Type 0} {g : Ghosts S} {fits : (steps n : ℕ) → Type 0} (sound : (s n : ℕ) → fits s n → s < n) (p : Text → ℕ → Act A) (q : Text → ℕ → A → Act meaning.Completion) {f : X → A} where
  pub further_if : {more : (steps n : ℕ) → Type 0} {x : X} {fs fs' : List View} {old mid new : Parts S} {r : Result Completion Code}
      → DoesAt g (λ a n. p a (suc n)) f old (Ok x) mid → ((n : ℕ) → fits old.eval.steps n → more mid.eval.steps n)
      → RunsIf more g (λ a n. q a n (f x)) fs mid r fs' new → RunsIf fits g (λ a n. p a n >>= q a n) fs old r fs' new
  further_if {x = x} {fs = fs} {fs' = fs'} {old = old} {mid = mid} {new = new} {r = r} d fit k = record {
    at = go;
    doubt = Doubts-then d.doubt k.doubt;
    keeps = keeps_on d.keeps k.keeps;
  }
    where
      go : g.doubt new.eval.store.now ≡ 0 → (n : ℕ) (ns : List ℕ) → fits old.eval.steps n → Enough old.eval.steps fs ns
          → MovedOn (standing_of old.eval) (IsSteady g new.eval.store.now) fault_of completion_of (p (standing_of old.eval).account n >>= q (standing_of old.eval).account n) (left (standing_of old.eval).account fs ns) (here_of g old) r fs' (here_of g new)
      go sure zero ns h e = let less = sound old.eval.steps zero h in absurd (omega (arith, less))
      go sure (suc n) ns h e =
          let less = sound old.eval.steps (suc n) h in
          let few = d.keeps.eval.fewer in
          on_then (q (standing_of old.eval).account (suc n)) n (omega (arith, less)) (d.at (undoubted k.doubt sure))
          (moved_to (λ a. q a (suc n) (f x)) (λ a. left a fs ns) d.keeps.eval.same (k.at sure (suc n) ns (fit (suc n) h) (enough mid.eval.steps old.eval.steps fs ns few e)))

  pub further_ended : {fs fs' : List View} {old new : Parts S} {r : Result Completion Code} {e : Code} → DoesAt g (λ a n. p a (suc n)) f old (Err e) new
      → IsErr r × IsErrAnd r (λ x. x ≡ e) → RunsIf fits g (λ a n. p a n >>= q a n) fs old r fs' new
  further_ended {fs = fs} {fs' = fs'} {old = old} {new = new} {r = r} {e = c} d h =
      subst (λ r. RunsIf fits g (λ a n. p a n >>= q a n) fs old r fs' new) (sym (residual_is r c h)) (record { at = go; doubt = d.doubt; keeps = d.keeps })
    where
      go : g.doubt new.eval.store.now ≡ 0 → (n : ℕ) (ns : List ℕ) → fits old.eval.steps n → Enough old.eval.steps fs ns
          → MovedOn (standing_of old.eval) (IsSteady g new.eval.store.now) fault_of completion_of (p (standing_of old.eval).account n >>= q (standing_of old.eval).account n) (left (standing_of old.eval).account fs ns) (here_of g old) (Err c) fs' (here_of g new)
      go sure zero ns h e = let less = sound old.eval.steps zero h in absurd (omega (arith, less))
      go sure (suc n) ns h e =
          let less = sound old.eval.steps (suc n) h in
          on_failed (q (standing_of old.eval).account (suc n)) n (omega (arith, less)) (d.at sure)

-- the same within a command
module _ {S A X : Type 0} {g : Ghosts S} (p : Text → ℕ → Act A) (q : Text → ℕ → A → Act meaning.Completion) {f : X → A} where
  pub further_then : {x : X} {fs fs' : List View} {old mid new : Parts S} {r : Result Completion Code} → DoesAt g (λ a n. p a (suc n)) f old (Ok x) mid
      → RunsWithin g (λ a n. q a n (f x)) fs mid r fs' new → RunsWithin g (λ a n. p a n >>= q a n) fs old r fs' new
  further_then d k = let few = d.keeps.eval.fewer in further_if (λ s n h. h) p q d (λ n h. omega (arith, few)) k

  pub further_stopped : {fs fs' : List View} {old new : Parts S} {r : Result Completion Code} {e : Code} → DoesAt g (λ a n. p a (suc n)) f old (Err e) new
      → IsErr r × IsErrAnd r (λ x. x ≡ e) → RunsWithin g (λ a n. p a n >>= q a n) fs old r fs' new
  further_stopped d h = further_ended (λ s n h. h) p q d h

-- what runs where fewer texts may be entered runs where more may be
pub runs_weaker : {S : Type 0} {g : Ghosts S} {fits more : (steps n : ℕ) → Type 0} {p : Text → ℕ → Act meaning.Completion} {fs fs' : List View} {old new : Parts S} {r : Result Completion Code}
    → ((n : ℕ) → fits old.eval.steps n → more old.eval.steps n) → RunsIf more g p fs old r fs' new → RunsIf fits g p fs old r fs' new
runs_weaker fit k = record { at = λ sure n ns h e. k.at sure n ns (fit n h) e; doubt = k.doubt; keeps = k.keeps }

-- what runs within a command runs after a step of a program
pub runs_further : {S : Type 0} {g : Ghosts S} {p : Text → ℕ → Act meaning.Completion} {fs fs' : List View} {old new : Parts S} {r : Result Completion Code}
    → RunsWithin g p fs old r fs' new → RunsFurther g p fs old r fs' new
runs_further k = runs_weaker (λ n h. omega (arith, h)) k

-- what runs anywhere runs within a command
pub runs_within : {S : Type 0} {g : Ghosts S} {p : Text → ℕ → Act meaning.Completion} {fs fs' : List View} {old new : Parts S} {r : Result Completion Code}
    → Runs g p fs old r fs' new → RunsWithin g p fs old r fs' new
runs_within k = record { at = λ sure n ns less e. k.at sure n ns (omega arith) e; doubt = k.doubt; keeps = k.keeps }

-- what runs with one text more runs within a command, where there is one more
pub within_entered : {S : Type 0} {g : Ghosts S} {p : Text → ℕ → Act meaning.Completion} {fs fs' : List View} {old new : Parts S} {r : Result Completion Code}
    → Runs g (λ a n. p a (suc n)) fs old r fs' new → RunsWithin g p fs old r fs' new
within_entered {g = g} {p = p} {fs = fs} {fs' = fs'} {old = old} {new = new} {r = r} k = record { at = go; doubt = k.doubt; keeps = k.keeps }
  where
    go : g.doubt new.eval.store.now ≡ 0 → (n : ℕ) (ns : List ℕ) → old.eval.steps < n → Enough old.eval.steps fs ns
        → MovedOn (standing_of old.eval) (IsSteady g new.eval.store.now) fault_of completion_of (p (standing_of old.eval).account n) (left (standing_of old.eval).account fs ns) (here_of g old) r fs' (here_of g new)
    go sure zero ns less e = absurd (omega arith)
    go sure (suc n) ns less e = k.at sure n ns (omega arith) e

-- the same after a step of a program
pub further_entered : {S : Type 0} {g : Ghosts S} {p : Text → ℕ → Act meaning.Completion} {fs fs' : List View} {old new : Parts S} {r : Result Completion Code}
    → RunsWithin g (λ a n. p a (suc n)) fs old r fs' new → RunsFurther g p fs old r fs' new
further_entered {g = g} {p = p} {fs = fs} {fs' = fs'} {old = old} {new = new} {r = r} k = record { at = go; doubt = k.doubt; keeps = k.keeps }
  where
    go : g.doubt new.eval.store.now ≡ 0 → (n : ℕ) (ns : List ℕ) → suc old.eval.steps < n → Enough old.eval.steps fs ns
        → MovedOn (standing_of old.eval) (IsSteady g new.eval.store.now) fault_of completion_of (p (standing_of old.eval).account n) (left (standing_of old.eval).account fs ns) (here_of g old) r fs' (here_of g new)
    go sure zero ns less e = absurd (omega arith)
    go sure (suc n) ns less e = k.at sure n ns (omega arith) e

-- an act that leaves the frames as they are
pub runs_done : {S : Type 0} {g : Ghosts S} {p : Text → ℕ → Act meaning.Completion} {fs : List View} {old new : Parts S} (r : Result Completion Code)
    → DoesAt g p completion_of old r new → Runs g p fs old r fs new
runs_done r d = if_done (λ s n. s ≤ n) (λ s n h. h) (λ m s n le h. omega arith) r d

-- if nothing is next, a completion is given again
nothing_next : (s : meaning.Completion) → ◌≡◌ {A = Act meaning.Completion} (after s (give Go_on)) (give s)
nothing_next Go_on = refl
nothing_next s = refl

module _ {fits : (steps n : ℕ) → Type 0} (sound : (s n : ℕ) → fits s n → s < n) where
  -- an act before the rest of a line that may be empty
  pub within_resting : {S : Type 0} {g : Ghosts S} {p : Text → ℕ → Act meaning.Completion} (d : meaning.Position) (l : List CommandTree) {fs fs' : List View} {old new : Parts S} {r : Result Completion Code}
      → RunsIf fits g p (resting d l fs) old r fs' new → RunsIf fits g (λ a n. p a n >>= frame a n (Rests d l)) fs old r fs' new
  within_resting {p = p} d [] k = runs_as (λ a n. (λ i. p a n >>= (λ s. nothing_next s i)) ∙ ended (p a n)) k
  within_resting d (c ∷ l) k = frame_below (Rests d (c ∷ l)) (λ s n h. let less = sound s n h in omega (arith, less)) k

  -- an act before the rest of a command's arguments, of which there may be none
  pub within_listing : {S : Type 0} {g : Ghosts S} {p : Text → ℕ → Act meaning.Completion} (d : meaning.Position) (args : List ArgTree) {fs fs' : List View} {old new : Parts S} {r : Result Completion Code}
      → RunsIf fits g p (listing d args fs) old r fs' new → RunsIf fits g (λ a n. p a n >>= frame a n (Lists d args)) fs old r fs' new
  within_listing {p = p} d [] k = runs_as (λ a n. (λ i. p a n >>= (λ s. nothing_next s i)) ∙ ended (p a n)) k
  within_listing d (x ∷ args) k = frame_below (Lists d (x ∷ args)) sound k

-- ---- frames

stacked_push : (below : List View) (fs : List Frame) (f : Frame) → stacked below (fs ++ f ∷ []) ≡ view f ∷ stacked below fs
stacked_push below [] f = refl
stacked_push below (g ∷ fs) f = stacked_push (view g ∷ below) fs f

pub stack_push : (fs : List Frame) (f : Frame) → stack (fs ++ f ∷ []) ≡ view f ∷ stack fs
stack_push fs f = stacked_push [] fs f

pub some_item : {A : Type 0} (i : ℕ) (xs : List A) → i < length xs → (x : A) × (drop i xs ≡ x ∷ drop (i + 1) xs)
some_item i [] h = absurd (omega arith)
some_item i (y ∷ xs) h = (get_or (y ∷ xs) i y, drop_more (y ∷ xs) i y h)
