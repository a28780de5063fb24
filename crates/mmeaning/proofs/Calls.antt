-- SPDX-License-Identifier: Apache-2.0
-- How calls are put together.
use Rattle.mmeaning.proofs.MeaningWords.{◌≡◌, ℕ, zero, suc, ◌≤◌, ◌<◌, Result, Ok, Err, refl, sym, ap, ◌∙◌, arith, Memory, Store, Fault, Own, Lost, Op, Answer}
use Rattle.mmeaning.proofs.MeaningWords.{Plan, Done, Ask, then_plan, perform, cut_short, Outcome, Gives, Fails, Act, on_gives, ◌>>=◌, give, ask, perform-then}
use Rattle.mmeaning.proofs.MeaningWords.{cut_first, cut_second, cut_whole, Standing, Here, Gave, IsCut, FailedBy, Ends, Did, MayLose, Follows, ops_of}
use Rattle.mmeaning.specs.Transition.{Shared}
pub use Rattle.mspec.proofs.Basics.{residual_is}

-- after what an act gives, the rest is left
pub then_follows : {A B : Type 0} (b : Standing) (p : Act A) (f : A → Act B) (h : Here) (a : A) (h' : Here) → Gave b p h a h' → Follows b (p >>= f) h (f a) h'
then_follows b p f h a h' g =
    let here : perform (ops_of b) (p h.0) h.1 ≡ (Gives a h'.0, h'.1) = g in
    record {
      whole = perform-then (ops_of b) (p h.0) (on_gives f) h.1 ∙ ap (λ r. perform (ops_of b) (on_gives f r.0) r.1) here;
      short = λ k.
          let s = cut_second (ops_of b) k (p h.0) (on_gives f) h.1 in
          (s.0, s.1 ∙ ap (λ r. cut_short (ops_of b) k (on_gives f r.0) r.1) here);
    }

cut_then : {A B : Type 0} (b : Standing) (p : Act A) (f : A → Act B) (h h' : Here) → IsCut b p h h' → IsCut b (p >>= f) h h'
cut_then b p f h h' g = let s = cut_first (ops_of b) g.0 (p h.0) (on_gives f) h.1 in (s.0, s.1 ∙ g.1)

-- if an act fails, so does what begins with it
pub then_failed : {A B : Type 0} (b : Standing) (steady : Type 0) (p : Act A) (f : A → Act B) (h : Here) (c : Fault) (h' : Here) → FailedBy b steady p h c h' → FailedBy b steady (p >>= f) h c h'
then_failed b steady p f h (Own c) h' g =
    let here : perform (ops_of b) (p h.0) h.1 ≡ (Fails c h'.0, h'.1) = g in
    perform-then (ops_of b) (p h.0) (on_gives f) h.1 ∙ ap (λ r. perform (ops_of b) (on_gives f r.0) r.1) here
then_failed b steady p f h (Lost Memory) h' g = cut_then b p f h h' g
then_failed b steady p f h (Lost Store) h' g = (g.0, cut_then b p f h h' g.1)

pub follows_itself : {A : Type 0} (b : Standing) (p : Act A) (h : Here) → Follows b p h p h
follows_itself b p h = record { whole = refl; short = λ k. (k, refl) }

pub follows_on : {A : Type 0} (b : Standing) (p q r : Act A) (h i j : Here) → Follows b p h q i → Follows b q i r j → Follows b p h r j
follows_on b p q r h i j f g = record {
  whole = f.whole ∙ g.whole;
  short = λ k. let t = g.short k in let a = f.short t.0 in (a.0, a.1 ∙ t.1);
}

cut_after : {A : Type 0} (b : Standing) (p q : Act A) (h i j : Here) → Follows b p h q i → IsCut b q i j → IsCut b p h j
cut_after b p q h i j f g = let a = f.short g.0 in (a.0, a.1 ∙ g.1)

pub failed_after : {A : Type 0} (b : Standing) (steady : Type 0) (p q : Act A) (h i : Here) (c : Fault) (j : Here) → Follows b p h q i → FailedBy b steady q i c j → FailedBy b steady p h c j
failed_after b steady p q h i (Own c) j f g = f.whole ∙ g
failed_after b steady p q h i (Lost Memory) j f g = cut_after b p q h i j f g
failed_after b steady p q h i (Lost Store) j f g = (g.0, cut_after b p q h i j f g.1)

pub ends_after : {A X E : Type 0} (b : Standing) (steady : Type 0) (fault_of : E → Fault) (p q : Act A) (f : X → A) (h i : Here) (r : Result X E) (j : Here) → Follows b p h q i → Ends b steady fault_of q f i r j → Ends b steady fault_of p f h r j
ends_after b steady fault_of p q f h i (Ok x) j s g = s.whole ∙ g
ends_after b steady fault_of p q f h i (Err e) j s g = failed_after b steady p q h i (fault_of e) j s g

-- one act after another, whatever follows
assoc_outcome : {A B C : Type 0} (f : A → Act B) (g : B → Act C) (o : Outcome A) → then_plan (on_gives f o) (on_gives g) ≡ on_gives (λ a. f a >>= g) o
assoc_outcome f g (Gives a s) = refl
assoc_outcome f g (Fails c s) = refl

pub assoc_plan : {A B C : Type 0} (f : A → Act B) (g : B → Act C) (p : Plan (Outcome A)) → then_plan (then_plan p (on_gives f)) (on_gives g) ≡ then_plan p (on_gives (λ a. f a >>= g))
assoc_plan f g (Done o) = assoc_outcome f g o
assoc_plan f g (Ask op k) = λ i. Ask op (λ r. assoc_plan f g (k r) i)

pub assoc : {A B C : Type 0} (p : Act A) (f : A → Act B) (g : B → Act C) → ◌≡◌ {A = Act C} ((p >>= f) >>= g) (p >>= (λ a. f a >>= g))
assoc p f g = λ i s. assoc_plan f g (p s) i

-- what is given is what an act ends with
pub then_give : {A : Type 0} (p : Plan (Outcome A)) → then_plan p (on_gives give) ≡ p
then_give (Done (Gives a s)) = refl
then_give (Done (Fails c s)) = refl
then_give (Ask op k) = λ i. Ask op (λ r. then_give (k r) i)

pub ended : {A : Type 0} (p : Act A) → ◌≡◌ {A = Act A} (p >>= give) p
ended p = λ i s. then_give (p s) i

-- ---- calls

-- what is done by an act that was done does not turn on what is said of a steady store (`early`)
pub did_then : {A B X Y E : Type 0} {b : Standing} {early steady : Type 0} {fault_of : E → Fault} {h h1 h2 : Here} {p : ℕ → Act A} (q : ℕ → A → Act B) {f : X → A} {g : Y → B} {x : X} {r : Result Y E}
    → Did b early fault_of p f h (Ok x) h1 → Did b steady fault_of (λ n. q n (f x)) g h1 r h2 → Did b steady fault_of (λ n. p n >>= q n) g h r h2
did_then {b = b} {steady = steady} {fault_of = fault_of} {h = h} {h1 = h1} {h2 = h2} {p = p} q {f = f} {g = g} {x = x} {r = r} d k =
    let few = d.fewer in
    let fewer = k.fewer in
    record {
      at = λ n le. ends_after b steady fault_of (p n >>= q n) (q n (f x)) g h h1 r h2 (then_follows b (p n) (q n) h (f x) h1 (d.at n le)) (k.at n (omega (arith, few, le)));
      fewer = omega (arith, few, fewer);
    }

-- the same, if the first act spent the step of an entry: what follows runs with one text fewer
pub did_spent : {A B X Y E : Type 0} {b : Standing} {early steady : Type 0} {fault_of : E → Fault} {h h1 h2 : Here} {p : ℕ → Act A} (q : ℕ → A → Act B) {f : X → A} {g : Y → B} {x : X} {r : Result Y E}
    → Did b early fault_of p f h (Ok x) h1 → h1.0.steps < h.0.steps → Did b steady fault_of (λ n. q (suc n) (f x)) g h1 r h2 → Did b steady fault_of (λ n. p n >>= q n) g h r h2
did_spent {b = b} {steady = steady} {fault_of = fault_of} {h = h} {h1 = h1} {h2 = h2} {p = p} q {f = f} {g = g} {x = x} {r = r} d less k = record { at = go; fewer = omega (arith, k.fewer, less) }
  where
    go : (n : ℕ) → h.0.steps ≤ n → Ends b steady fault_of (p n >>= q n) g h r h2
    go zero le = absurd (omega arith)
    go (suc n) le = ends_after b steady fault_of (p (suc n) >>= q (suc n)) (q (suc n) (f x)) g h h1 r h2 (then_follows b (p (suc n)) (q (suc n)) h (f x) h1 (d.at (suc n) le)) (k.at n (omega arith))

pub did_failed : {A B X Y E : Type 0} {b : Standing} {steady : Type 0} {fault_of : E → Fault} {h h1 : Here} {p : ℕ → Act A} (q : ℕ → A → Act B) {f : X → A} {g : Y → B} {e : E}
    → Did b steady fault_of p f h (Err e) h1 → Did b steady fault_of (λ n. p n >>= q n) g h (Err e) h1
did_failed {b = b} {steady = steady} {fault_of = fault_of} {h = h} {h1 = h1} {p = p} q {e = e} d = record {
  at = λ n le. then_failed b steady (p n) (q n) h (fault_of e) h1 (d.at n le);
  fewer = d.fewer;
}

pub did_gives : {A X E : Type 0} {b : Standing} {steady : Type 0} {fault_of : E → Fault} {h : Here} (a : A) (f : X → A) (x : X) → f x ≡ a → Did b steady fault_of (λ n. give a) f h (Ok x) h
did_gives {h = h} a f x e = record { at = λ n le. ap (λ a. (Gives a h.0, h.1)) (sym e); fewer = omega arith }

lost_by : {A : Type 0} (b : Standing) (steady : Type 0) (p : Act A) (h : Here) (c : Fault) (h1 : Here) → MayLose steady c → IsCut b p h h1 → FailedBy b steady p h c h1
lost_by b steady p h (Own c) h1 m cut = absurd m
lost_by b steady p h (Lost Memory) h1 m cut = cut
lost_by b steady p h (Lost Store) h1 m cut = (m, cut)

-- a loss, if nothing was done yet
pub did_lost : {A X E : Type 0} {b : Standing} {steady : Type 0} {fault_of : E → Fault} {h h1 : Here} (p : ℕ → Act A) (f : X → A) (e : E) → MayLose steady (fault_of e) → h.1 ≡ h1.1 → h1.0.steps ≤ h.0.steps → Did b steady fault_of p f h (Err e) h1
did_lost {b = b} {steady = steady} {fault_of = fault_of} {h = h} {h1 = h1} p f e m same few = record {
  at = λ n le. lost_by b steady (p n) h (fault_of e) h1 m (0, same);
  fewer = few;
}

-- an operation that was carried out
pub asked : {X E : Type 0} {b : Standing} {steady : Type 0} {fault_of : E → Fault} {h : Here} (op : Op) (f : X → Answer op) (x : X) (w : Shared) → ops_of b op h.1 ≡ (f x, w) → Did b steady fault_of (λ n. ask op) f h (Ok x) (h.0, w)
asked {h = h} op f x w e = record {
  at = λ n le. ap (λ r. (Gives r.0 h.0, r.1)) e;
  fewer = omega arith;
}

-- a call that was done is also one that was cut at its end
pub cut_all : {A : Type 0} (b : Standing) (p : Act A) (h : Here) (a : A) (h1 : Here) → Gave b p h a h1 → IsCut b p h h1
cut_all b p h a h1 g =
    let all = cut_whole (ops_of b) (p h.0) h.1 in
    let here : perform (ops_of b) (p h.0) h.1 ≡ (Gives a h1.0, h1.1) = g in
    (all.0, all.1 ∙ ap (λ r. r.1) here)
