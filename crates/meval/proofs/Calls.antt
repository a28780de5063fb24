-- SPDX-License-Identifier: Apache-2.0
-- How the calls of this crate are put together.
use Rattle.meval.proofs.EvalWords.{Doubts-same, Doubts-then, undoubted, ◌≡◌, ◌≢◌, ℕ, [], Result, Ok, Err, refl, sym, ap, ◌∙◌, subst, arith, IsErr, IsErrAnd}
use Rattle.meval.proofs.EvalWords.{Own, Act, Gives, Fails, ◌>>=◌, Locals, value_of, of_locals, give, fail, give_some, Place, at_local, at_node, read_at}
use Rattle.meval.proofs.EvalWords.{found_at, Inside, inside, Standing, Here, Did, Ends, FailedBy, Yields, assoc, did_then, did_failed, did_gives, did_lost}
use Rattle.meval.proofs.EvalWords.{residual_is, yielded, Ghosts, fault_of, Code, Zmem, Zstore, Depth, Eval, undefined_at, Evaluates, KeepsEval, standing_of}
use Rattle.meval.proofs.EvalWords.{eval_here, depth_of, Text, yielded_so, read_so, Option}
use Rattle.std.specs.FinMap.{empty}
use Rattle.std.specs.Prelude.{IsTrue}
use Rattle.mnodes.specs.Steady.{IsSteady}
use Rattle.mspec.specs.Code as spec

-- ---- what calls keep to

pub keeps_itself : {S : Type 0} (e : Eval S) → KeepsEval e e
keeps_itself e = record { same = refl; session = refl; store = refl; fewer = omega arith }

pub keeps_on : {S : Type 0} {a b c : Eval S} → KeepsEval a b → KeepsEval b c → KeepsEval a c
keeps_on k l = record { same = l.same ∙ k.same; session = l.session ∙ k.session; store = l.store ∙ k.store; fewer = omega arith }

-- where its text stands plays no part
pub keeps_at_depth : {S : Type 0} {a b : Eval S} (d : Depth) → KeepsEval (record a { depth = d }) b → KeepsEval a b
keeps_at_depth d k = record { same = k.same; session = k.session; store = k.store; fewer = k.fewer }

-- ---- what they do

-- a call that began where another ended, stated from where that one began
pub moved : {A X : Type 0} {b b1 : Standing} {steady : Type 0} {d d1 : Depth} (p : Inside → Act A) {f : X → A} {h h1 : Here} {r : Result X Code} → b1 ≡ b → d1 ≡ d
    → Did b1 steady fault_of (λ n. p (inside b1.account n (depth_of d1))) f h r h1 → Did b steady fault_of (λ n. p (inside b.account n (depth_of d))) f h r h1
moved {b = b} {b1 = b1} {steady = steady} {d = d} {d1 = d1} p {f = f} {h = h} {h1 = h1} {r = r} same depth did =
    subst (λ d. Did b steady fault_of (λ n. p (inside b.account n (depth_of d))) f h r h1) depth
    (subst (λ b. Did b steady fault_of (λ n. p (inside b.account n (depth_of d1))) f h r h1) same did)

pub evaluates_then : {S A B X Y : Type 0} {g : Ghosts S} {p : Inside → Act A} (q : Inside → A → Act B) {f : X → A} {j : Y → B} {old mid new : Eval S} {x : X} {r : Result Y Code}
    → Evaluates g p f old (Ok x) mid → Evaluates g (λ i. q i (f x)) j mid r new → Evaluates g (λ i. p i >>= q i) j old r new
evaluates_then q {f = f} {old = old} {x = x} d k = record {
  at = λ sure out locks. did_then (λ n. q (inside (standing_of old).account n (depth_of old.depth))) (d.at (undoubted k.doubt sure) out locks) (moved (λ i. q i (f x)) d.keeps.same d.depth (k.at sure out locks));
  doubt = Doubts-then d.doubt k.doubt;
  keeps = keeps_on d.keeps k.keeps;
  depth = k.depth ∙ d.depth;
}

-- what follows both of two acts follows the second one
pub evaluates_regrouped : {S A B C X : Type 0} {g : Ghosts S} (p : Inside → Act A) (q : Inside → A → Act B) (k : Inside → B → Act C) {f : X → C} {old new : Eval S} {r : Result X Code}
    → Evaluates g (λ i. (p i >>= q i) >>= k i) f old r new → Evaluates g (λ i. p i >>= (λ a. q i a >>= k i)) f old r new
evaluates_regrouped {g = g} p q k {f = f} {old = old} {new = new} {r = r} d =
    subst (λ act. Evaluates g act f old r new) (λ j i. assoc (p i) (q i) (k i) j) d

pub evaluates_failed : {S A B X Y : Type 0} {g : Ghosts S} {p : Inside → Act A} (q : Inside → A → Act B) {f : X → A} {j : Y → B} {old new : Eval S} {e : Code}
    → Evaluates g p f old (Err e) new → Evaluates g (λ i. p i >>= q i) j old (Err e) new
evaluates_failed q {old = old} d = record {
  at = λ sure out locks. did_failed (λ n. q (inside (standing_of old).account n (depth_of old.depth))) (d.at sure out locks);
  doubt = d.doubt;
  keeps = d.keeps;
  depth = d.depth;
}

-- the same, if the call returns by a `?`
pub evaluates_stopped : {S A B X Y : Type 0} {g : Ghosts S} {p : Inside → Act A} (q : Inside → A → Act B) {f : X → A} {j : Y → B} {old new : Eval S} {e : Code} {r : Result Y Code}
    → Evaluates g p f old (Err e) new → IsErr r × IsErrAnd r (λ x. x ≡ e) → Evaluates g (λ i. p i >>= q i) j old r new
evaluates_stopped {g = g} {p = p} q {j = j} {old = old} {new = new} {r = r} d h =
    subst (λ r. Evaluates g (λ i. p i >>= q i) j old r new) (sym (residual_is r _ h)) (evaluates_failed q d)

pub evaluates_gives : {S A X : Type 0} {g : Ghosts S} {e : Eval S} (a : A) (f : X → A) (x : X) → f x ≡ a → Evaluates g (λ i. give a) f e (Ok x) e
evaluates_gives a f x same = record {
  at = λ sure out locks. did_gives a f x same;
  doubt = Doubts-same _;
  keeps = keeps_itself _;
  depth = refl;
}

-- out of memory: the call returns by a `?`
pub evaluates_wanting : {S A X : Type 0} {g : Ghosts S} {e : Eval S} (p : Inside → Act A) (f : X → A) (r : Result X Code) → IsErr r × IsErrAnd r (λ x. x ≡ Zmem) → Evaluates g p f e r e
evaluates_wanting {g = g} {e = e} p f r h = subst (λ r. Evaluates g p f e r e) (sym (residual_is r Zmem h)) (record {
  at = λ sure out locks. did_lost (λ n. p (inside (standing_of e).account n (depth_of e.depth))) f Zmem tt refl (omega arith);
  doubt = Doubts-same _;
  keeps = keeps_itself _;
  depth = refl;
})

-- the same with what a call gives, or its error, seen in another way
pub evaluates_seen : {S A X Y : Type 0} {g : Ghosts S} {p : Inside → Act A} {f : X → A} {j : Y → A} {old new : Eval S} (x : X) (y : Y) → f x ≡ j y → Evaluates g p f old (Ok x) new → Evaluates g p j old (Ok y) new
evaluates_seen {g = g} {new = new} x y is d = record {
  at = λ sure out locks.
      let did = d.at sure out locks in
      record { at = λ n le. let h = eval_here g new out locks in did.at n le ∙ ap (λ a. (Gives a h.0, h.1)) is; fewer = did.fewer };
  doubt = d.doubt;
  keeps = d.keeps;
  depth = d.depth;
}

pub evaluates_refused : {S A X Y : Type 0} {g : Ghosts S} {p : Inside → Act A} {f : X → A} (j : Y → A) {old new : Eval S} {e : Code} → Evaluates g p f old (Err e) new → Evaluates g p j old (Err e) new
evaluates_refused j d = record {
  at = λ sure out locks. let did = d.at sure out locks in record { at = λ n le. did.at n le; fewer = did.fewer };
  doubt = d.doubt;
  keeps = d.keeps;
  depth = d.depth;
}

-- what a call gives is all that is asked for
pub evaluates_whole : {S A X : Type 0} {g : Ghosts S} {p : Inside → Act A} {f : X → A} {old new : Eval S} (r : Result X Code) → Evaluates g p f old r new → Evaluates g (λ i. p i >>= give) f old r new
evaluates_whole {f = f} (Ok x) d = evaluates_then (λ i. give) d (evaluates_gives (f x) f x refl)
evaluates_whole (Err e) d = evaluates_failed (λ i. give) d

-- a call that needs no point
pub evaluates_yielded : {S A X : Type 0} {g : Ghosts S} {e : Eval S} {p : Act A} {f : X → A} {r : Result X Code} → Yields fault_of p f r → Evaluates g (λ i. p) f e r e
evaluates_yielded {g = g} {e = e} y = record {
  at = λ sure out locks. yielded (eval_here g e out locks) y;
  doubt = Doubts-same _;
  keeps = keeps_itself _;
  depth = refl;
}

-- a call that reads a text in the language of the line
pub evaluates_read : {S A X : Type 0} {g : Ghosts S} {e : Eval S} (c : spec.Code) (read : ℕ → Option A) {f : X → A} {r : Result X Code}
    → Yields fault_of (give_some c (read (standing_of e).given.language)) f r → Evaluates g (λ i. read_so c read) f e r e
evaluates_read {g = g} {e = e} c read y = record {
  at = λ sure out locks. yielded_so c read (eval_here g e out locks) y;
  doubt = Doubts-same _;
  keeps = keeps_itself _;
  depth = refl;
}

-- ---- over a steady store that has room

-- a call over such a store never fails by the store
pub did_steadily : {A X : Type 0} {b : Standing} {steady : Type 0} {p : ℕ → Act A} {f : X → A} {h h1 : Here} {r : Result X Code} → steady → Did b steady fault_of p f h r h1 → ◌≢◌ {A = Result X Code} r (Err Zstore)
did_steadily {b = b} {steady = steady} {p = p} {f = f} {h = h} {h1 = h1} is did store =
    let lost = subst (λ r. Ends b steady fault_of (p h.0.steps) f h r h1) store (did.at h.0.steps (omega arith)) in
    lost.0 is

pub never_refused : {S A X : Type 0} {g : Ghosts S} {p : Inside → Act A} {f : X → A} {old new : Eval S} {r : Result X Code} → (g.steady → (s : S) → IsTrue (g.has_room s) → g.doubt s ≡ 0) → Evaluates g p f old r new → g.steady → IsTrue (g.has_room new.store.now) → ◌≢◌ {A = Result X Code} r (Err Zstore)
never_refused {g = g} {new = new} told does steady room = did_steadily (steady, room) (does.at (told steady new.store.now room) [] empty)

-- ---- places

-- what is read is what is found, if there is something
pub read_is : (p : Place) → ◌≡◌ {A = Act Text} (read_at p) (found_at p >>= give_some (undefined_at p))
unfolding value_of
read_is (at_local name xs) = refl
read_is (at_node n) = refl

-- what is asked of the locals
pub asks_locals : {S A X : Type 0} {g : Ghosts S} {e : Eval S} (question : Locals → A) (f : X → A) (x : X) → f x ≡ question e.session.now.locals → Evaluates g (λ i. of_locals question) f e (Ok x) e
asks_locals {g = g} {e = e} question f x is = record {
  at = λ sure out locks. record {
    at = λ n le i. let h = eval_here g e out locks in (Gives (sym is i) h.0, h.1);
    fewer = omega arith;
  };
  doubt = Doubts-same _;
  keeps = keeps_itself _;
  depth = refl;
}

-- a code of the act's own
pub evaluates_fails : {S A X : Type 0} {g : Ghosts S} {e : Eval S} (f : X → A) (c : spec.Code) (code : Code) → fault_of code ≡ Own c → Evaluates g (λ i. fail c) f e (Err code) e
evaluates_fails {A = A} {g = g} {e = e} f c code is = record {
  at = λ sure out locks. record {
    at = λ n le. let h = eval_here g e out locks in subst (λ fault. FailedBy {A = A} (standing_of e) (IsSteady g e.store.now) (fail c) h fault h) (sym is) (λ i. (Fails c h.0, h.1));
    fewer = omega arith;
  };
  doubt = Doubts-same _;
  keeps = keeps_itself _;
  depth = refl;
}
