-- SPDX-License-Identifier: Apache-2.0
-- What is left of a line, a step of it at a time.
use Rattle.mmeaning.proofs.MeaningWords.{◌≡◌, ℕ, ◌≤◌, List, [], ◌∷◌, Result, Ok, Err, sym, subst, arith, Fault, Act, ◌>>=◌, give, Completion, Standing, Here}
use Rattle.mmeaning.proofs.MeaningWords.{Did, MayLose, Follows, View, frame, left, Enough, MovedAs, MovedOn}
use Rattle.mmeaning.specs.Frames.{Fits, Rests, Lists, Turns, Levels, Programs, Conditions}
use Rattle.mmeaning.proofs.Calls.{then_follows, then_failed, follows_itself, follows_on, failed_after, assoc, did_lost}

moved_after : {X E : Type 0} (b : Standing) (steady : Type 0) (fault_of : E → Fault) (completion_of : X → Completion) (p q : Act Completion) (h h1 : Here) (r : Result X E) (fs : List View) (h2 : Here)
    → Follows b p h q h1 → MovedAs b steady fault_of completion_of q h1 r fs h2 → MovedAs b steady fault_of completion_of p h r fs h2
moved_after b steady fault_of completion_of p q h h1 (Ok s) fs h2 f m = (m.0, m.1, follows_on b p q (left b.account fs m.0 (completion_of s)) h h1 h2 f m.2)
moved_after b steady fault_of completion_of p q h h1 (Err e) fs h2 f m = failed_after b steady p q h h1 (fault_of e) h2 f m

moved_as : {X E : Type 0} (b : Standing) (steady : Type 0) (fault_of : E → Fault) (completion_of : X → Completion) (p q : Act Completion) (h : Here) (r : Result X E) (fs : List View) (h1 : Here)
    → ◌≡◌ {A = Act Completion} p q → MovedAs b steady fault_of completion_of q h r fs h1 → MovedAs b steady fault_of completion_of p h r fs h1
moved_as b steady fault_of completion_of p q h r fs h1 same m = subst (λ p. MovedAs b steady fault_of completion_of p h r fs h1) (sym same) m

module _ {X E : Type 0} {b : Standing} {steady : Type 0} {fault_of : E → Fault} {completion_of : X → Completion} where
  -- an act was done, and the rest goes on
  pub on_then : {early A B Y : Type 0} {h h1 h2 : Here} {p : ℕ → Act A} (q : A → Act B) {k : B → Act Completion} {f : Y → A} {x : Y} {r : Result X E} {fs : List View} (n : ℕ) → h.0.steps ≤ n
      → Did b early fault_of p f h (Ok x) h1 → MovedOn b steady fault_of completion_of (q (f x)) k h1 r fs h2 → MovedOn b steady fault_of completion_of (p n >>= q) k h r fs h2
  on_then {h = h} {h1 = h1} {h2 = h2} {p = p} q {k = k} {f = f} {x = x} {r = r} {fs = fs} n le d m = record {
    done =
        moved_as b steady fault_of completion_of ((p n >>= q) >>= k) (p n >>= (λ a. q a >>= k)) h r fs h2 (assoc (p n) q k)
        (moved_after b steady fault_of completion_of (p n >>= (λ a. q a >>= k)) (q (f x) >>= k) h h1 r fs h2 (then_follows b (p n) (λ a. q a >>= k) h (f x) h1 (d.at n le)) m.done);
  }

  pub on_failed : {A B Y : Type 0} {h h1 : Here} {p : ℕ → Act A} (q : A → Act B) {k : B → Act Completion} {f : Y → A} {e : E} {fs : List View} (n : ℕ) → h.0.steps ≤ n
      → Did b steady fault_of p f h (Err e) h1 → MovedOn {X = X} b steady fault_of completion_of (p n >>= q) k h (Err e) fs h1
  on_failed {h = h} {h1 = h1} {p = p} q {k = k} {e = e} n le d = record {
    done = then_failed b steady (p n >>= q) k h (fault_of e) h1 (then_failed b steady (p n) q h (fault_of e) h1 (d.at n le));
  }

  -- a loss, if nothing was done yet
  pub on_lost : {A : Type 0} {h h1 : Here} (p : Act A) (k : A → Act Completion) (e : E) {fs : List View} → MayLose steady (fault_of e) → h.1 ≡ h1.1 → h1.0.steps ≤ h.0.steps → MovedOn {X = X} b steady fault_of completion_of p k h (Err e) fs h1
  on_lost {h = h} {h1 = h1} p k e m same few = record {
    done = let d : Did b steady fault_of (λ n. p >>= k) (λ (s : Completion). s) h (Err e) h1 = did_lost (λ n. p >>= k) (λ s. s) e m same few in d.at h.0.steps (omega arith);
  }

  -- a completion is given to the frames
  pub on_completion : {h : Here} {fs : List View} (s : X) (ns : List ℕ) → Enough h.0.steps fs ns → MovedOn b steady fault_of completion_of (give (completion_of s)) (left b.account fs ns) h (Ok s) fs h
  on_completion {h = h} {fs = fs} s ns e = record { done = (ns, e, follows_itself b (left b.account fs ns (completion_of s)) h) }

  -- a frame is pushed: what it does comes between an act and the frames below
  pub on_frame : {h h1 : Here} {p : Act Completion} {r : Result X E} {fs' : List View} (fs : List View) (f : View) (n : ℕ) (ns : List ℕ)
      → MovedOn b steady fault_of completion_of p (left b.account (f ∷ fs) (n ∷ ns)) h r fs' h1 → MovedOn b steady fault_of completion_of (p >>= frame b.account n f) (left b.account fs ns) h r fs' h1
  on_frame {h = h} {h1 = h1} {p = p} {r = r} {fs' = fs'} fs f n ns m = record {
    done = moved_as b steady fault_of completion_of ((p >>= frame b.account n f) >>= left b.account fs ns) (p >>= left b.account (f ∷ fs) (n ∷ ns)) h r fs' h1 (assoc p (frame b.account n f) (left b.account fs ns)) m.done;
  }

  -- a frame that is on top has to do with a completion what it does
  pub on_top : {h : Here} {fs : List View} (f : View) (s : X) (n : ℕ) (ns : List ℕ) → Fits f h.0.steps n → Enough h.0.steps fs ns → MovedOn b steady fault_of completion_of (frame b.account n f (completion_of s)) (left b.account fs ns) h (Ok s) (f ∷ fs) h
  on_top {h = h} {fs = fs} f s n ns le e = record { done = (n ∷ ns, (le, e), follows_itself b (left b.account (f ∷ fs) (n ∷ ns) (completion_of s)) h) }

-- fewer steps need no more
pub fits : (m n x : ℕ) (f : View) → m ≤ n → Fits f n x → Fits f m x
fits m n x (Rests p cs) le h = omega arith
fits m n x (Lists p args) le h = omega arith
fits m n x (Turns p t) le h = omega arith
fits m n x (Levels p c) le h = omega arith
fits m n x (Programs p d ops k st) le h = omega arith
fits m n x (Conditions p c rest) le h = omega arith

-- a frame may enter at least as many texts as there are steps
pub fits_within : (m x : ℕ) (f : View) → Fits f m x → m ≤ x
fits_within m x (Rests p cs) h = h
fits_within m x (Lists p args) h = omega arith
fits_within m x (Turns p t) h = omega arith
fits_within m x (Levels p c) h = h
fits_within m x (Programs p d ops k st) h = omega arith
fits_within m x (Conditions p c rest) h = omega arith

pub enough : (m n : ℕ) (fs : List View) (ns : List ℕ) → m ≤ n → Enough n fs ns → Enough m fs ns
enough m n [] [] le e = tt
enough m n [] (x ∷ ns) le e = e
enough m n (f ∷ fs) [] le e = e
enough m n (f ∷ fs) (x ∷ ns) le e = (fits m n x f le e.0, enough m n fs ns le e.1)
