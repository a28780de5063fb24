-- SPDX-License-Identifier: Apache-2.0
-- How acts that look at no state are put together.
use Rattle.mmeaning.proofs.MeaningWords.{◌≡◌, Result, Ok, Err, refl, sym, ap, ◌∙◌, subst, arith, Fault, Own, Lost, Memory, Store, Done, then_plan, perform}
use Rattle.mmeaning.proofs.MeaningWords.{State, Gives, Act, on_gives, ◌>>=◌, give, give_some, read_so, Code, ℕ, Option, Standing, Here, Ends, FailedBy, Did}
use Rattle.mmeaning.proofs.MeaningWords.{ops_of}
use Rattle.std.specs.Result.{IsErr, IsErrAnd}
use Rattle.mmeaning.specs.Yields.{YieldsFault, YieldsAs, Yields}
use Rattle.mmeaning.proofs.Calls.{residual_is}

first_gives : {A B : Type 0} (p : Act A) (q : A → Act B) (a : A) → ((s : State) → p s ≡ Done (Gives a s)) → (s : State) → (p >>= q) s ≡ q a s
first_gives p q a gives s = ap (λ plan. then_plan plan (on_gives q)) (gives s)

then_fault : {A B : Type 0} (p : Act A) (q : A → Act B) (a : A) (c : Fault) → ((s : State) → p s ≡ Done (Gives a s)) → YieldsFault (q a) c → YieldsFault (p >>= q) c
then_fault p q a (Own c) gives k = λ s. first_gives p q a gives s ∙ k s
then_fault p q a (Lost Memory) gives k = tt
then_fault p q a (Lost Store) gives k = k

then_ends : {A B Y E : Type 0} (fault_of : E → Fault) (p : Act A) (q : A → Act B) (g : Y → B) (a : A) (r : Result Y E) → ((s : State) → p s ≡ Done (Gives a s)) → YieldsAs fault_of (q a) g r → YieldsAs fault_of (p >>= q) g r
then_ends fault_of p q g a (Ok y) gives k = λ s. first_gives p q a gives s ∙ k s
then_ends fault_of p q g a (Err e) gives k = then_fault p q a (fault_of e) gives k

failed_fault : {A B : Type 0} (p : Act A) (q : A → Act B) (c : Fault) → YieldsFault p c → YieldsFault (p >>= q) c
failed_fault p q (Own c) k = λ s. ap (λ plan. then_plan plan (on_gives q)) (k s)
failed_fault p q (Lost Memory) k = tt
failed_fault p q (Lost Store) k = k

pub yields_then : {A B X Y E : Type 0} {fault_of : E → Fault} {p : Act A} (q : A → Act B) {f : X → A} {g : Y → B} {x : X} {r : Result Y E}
    → Yields fault_of p f (Ok x) → Yields fault_of (q (f x)) g r → Yields fault_of (p >>= q) g r
yields_then {fault_of = fault_of} {p = p} q {f = f} {g = g} {x = x} {r = r} d k = record { ends = then_ends fault_of p q g (f x) r d.ends k.ends }

pub yields_failed : {A B X Y E : Type 0} {fault_of : E → Fault} {p : Act A} (q : A → Act B) {f : X → A} {g : Y → B} {e : E}
    → Yields fault_of p f (Err e) → Yields fault_of (p >>= q) g (Err e)
yields_failed {fault_of = fault_of} {p = p} q {e = e} d = record { ends = failed_fault p q (fault_of e) d.ends }

-- the same, where it is by a `?` that the call returns
pub yields_stopped : {A B X Y E : Type 0} {fault_of : E → Fault} {p : Act A} (q : A → Act B) {f : X → A} {g : Y → B} {e : E} {r : Result Y E}
    → Yields fault_of p f (Err e) → IsErr r × IsErrAnd r (λ x. x ≡ e) → Yields fault_of (p >>= q) g r
yields_stopped {fault_of = fault_of} {p = p} q {g = g} {r = r} d h = subst (λ r. Yields fault_of (p >>= q) g r) (sym (residual_is r _ h)) (yields_failed q d)

pub yields_gives : {A X E : Type 0} {fault_of : E → Fault} (a : A) (f : X → A) (x : X) → f x ≡ a → Yields {E = E} fault_of (give a) f (Ok x)
yields_gives a f x e = record { ends = λ s. ap (λ a. Done (Gives a s)) (sym e) }

-- out of memory, by a `?` that the call returns
pub yields_wanting : {A X E : Type 0} {fault_of : E → Fault} (p : Act A) (f : X → A) (e : E) (r : Result X E) → fault_of e ≡ Lost Memory → IsErr r × IsErrAnd r (λ x. x ≡ e) → Yields fault_of p f r
yields_wanting {fault_of = fault_of} p f e r memory h = subst (λ r. Yields fault_of p f r) (sym (residual_is r e h)) (record { ends = subst (YieldsFault p) (sym memory) tt })

-- ---- wherever such a call is made

yields_lost : {A : Type 0} (b : Standing) (steady : Type 0) (p : Act A) (h : Here) (c : Fault) → YieldsFault p c → FailedBy b steady p h c h
yields_lost b steady p h (Own c) y = ap (λ p. perform (ops_of b) p h.1) (y h.0)
yields_lost b steady p h (Lost Memory) y = (0, refl)
yields_lost b steady p h (Lost Store) y = absurd y

yields_ends : {A X E : Type 0} (b : Standing) (steady : Type 0) (fault_of : E → Fault) (p : Act A) (f : X → A) (h : Here) (r : Result X E) → YieldsAs fault_of p f r → Ends b steady fault_of p f h r h
yields_ends b steady fault_of p f h (Ok x) y = ap (λ p. perform (ops_of b) p h.1) (y h.0)
yields_ends b steady fault_of p f h (Err e) y = yields_lost b steady p h (fault_of e) y

-- such a call does its act wherever it is made
pub yielded : {A X E : Type 0} {b : Standing} {steady : Type 0} {fault_of : E → Fault} {p : Act A} {f : X → A} {r : Result X E} (h : Here) → Yields fault_of p f r → Did b steady fault_of (λ n. p) f h r h
yielded {b = b} {steady = steady} {fault_of = fault_of} {p = p} {f = f} {r = r} h y = record {
  at = λ n le. yields_ends b steady fault_of p f h r y.ends;
  fewer = omega arith;
}

-- ---- texts, read in the language of the line

so_lost : {A : Type 0} (b : Standing) (steady : Type 0) (c : Code) (read : ℕ → Option A) (h : Here) (d : Fault)
    → YieldsFault (give_some c (read h.0.given.language)) d → FailedBy b steady (read_so c read) h d h
so_lost b steady c read h (Own d) y = ap (λ p. perform (ops_of b) p h.1) (y h.0)
so_lost b steady c read h (Lost Memory) y = (0, refl)
so_lost b steady c read h (Lost Store) y = absurd y

so_ends : {A X E : Type 0} (b : Standing) (steady : Type 0) (fault_of : E → Fault) (c : Code) (read : ℕ → Option A) (f : X → A) (h : Here) (r : Result X E)
    → YieldsAs fault_of (give_some c (read h.0.given.language)) f r → Ends b steady fault_of (read_so c read) f h r h
so_ends b steady fault_of c read f h (Ok x) y = ap (λ p. perform (ops_of b) p h.1) (y h.0)
so_ends b steady fault_of c read f h (Err e) y = so_lost b steady c read h (fault_of e) y

-- a call that reads a text in that language does so wherever it is made
pub yielded_so : {A X E : Type 0} {b : Standing} {steady : Type 0} {fault_of : E → Fault} (c : Code) (read : ℕ → Option A) {f : X → A} {r : Result X E} (h : Here)
    → Yields fault_of (give_some c (read h.0.given.language)) f r → Did b steady fault_of (λ n. read_so c read) f h r h
yielded_so {b = b} {steady = steady} {fault_of = fault_of} c read {f = f} {r = r} h y = record {
  at = λ n le. so_ends b steady fault_of c read f h r y.ends;
  fewer = omega arith;
}
