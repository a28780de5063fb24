-- SPDX-License-Identifier: Apache-2.0
-- The laws of plans.
use Rattle.mspec.proofs.SpecWords.{◌≡◌, ℕ, zero, suc, refl, subst}
use Rattle.mspec.specs.Plan.{Op, Plan, Done, Ask, then_plan, Ops, perform, cut_short}

-- one plan after another
pub perform-then : {W A B : Type 0} (ops : Ops W) (p : Plan A) (f : A → Plan B) (w : W) → perform ops (then_plan p f) w ≡ perform ops (f (perform ops p w).0) (perform ops p w).1
perform-then ops (Done a) f w = refl
perform-then ops (Ask op k) f w = perform-then ops (k (ops op w).0) f (ops op w).1

-- a plan whose first part was cut short was cut short
pub cut_first : {W A B : Type 0} (ops : Ops W) (n : ℕ) (p : Plan A) (f : A → Plan B) (w : W) → (m : ℕ) × (cut_short ops m (then_plan p f) w ≡ cut_short ops n p w)
cut_first ops zero p f w = (0, refl)
cut_first ops (suc n) (Done a) f w = (0, refl)
cut_first ops (suc n) (Ask op k) f w =
    let rest = cut_first ops n (k (ops op w).0) f (ops op w).1 in
    (suc rest.0, rest.1)

-- and so was one whose second part was
pub cut_second : {W A B : Type 0} (ops : Ops W) (n : ℕ) (p : Plan A) (f : A → Plan B) (w : W) → (m : ℕ) × (cut_short ops m (then_plan p f) w ≡ cut_short ops n (f (perform ops p w).0) (perform ops p w).1)
cut_second ops n (Done a) f w = (n, refl)
cut_second ops n (Ask op k) f w =
    let rest = cut_second ops n (k (ops op w).0) f (ops op w).1 in
    (suc rest.0, rest.1)

-- after some number of its operations a plan is whole
pub cut_whole : {W A : Type 0} (ops : Ops W) (p : Plan A) (w : W) → (n : ℕ) × (cut_short ops n p w ≡ (perform ops p w).1)
cut_whole ops (Done a) w = (0, refl)
cut_whole ops (Ask op k) w =
    let rest = cut_whole ops (k (ops op w).0) (ops op w).1 in
    (suc rest.0, rest.1)

-- two worlds that a relation ties: each operation answers alike and keeps them tied
pub record Respects {V W : Type 0} (R : V → W → Type 0) (low : Ops V) (high : Ops W) : Type 0 where
  pub answers : (op : Op) (v : V) (w : W) → R v w → (low op v).0 ≡ (high op w).0
  pub tied : (op : Op) (v : V) (w : W) → R v w → R (low op v).1 (high op w).1

-- then so does every plan
pub respects : {V W A : Type 0} (R : V → W → Type 0) (low : Ops V) (high : Ops W) → Respects R low high → (p : Plan A) (v : V) (w : W) → R v w → ((perform low p v).0 ≡ (perform high p w).0) × R (perform low p v).1 (perform high p w).1
respects R low high h (Done a) v w r = (refl, r)
respects R low high h (Ask op k) v w r =
    let same = h.answers op v w r in
    let rest = respects R low high h (k (low op v).0) (low op v).1 (high op w).1 (h.tied op v w r) in
    subst (λ a. ((perform low (k (low op v).0) (low op v).1).0 ≡ (perform high (k a) (high op w).1).0) × R (perform low (k (low op v).0) (low op v).1).1 (perform high (k a) (high op w).1).1) same rest

-- cut short, too
pub respects_short : {V W A : Type 0} (R : V → W → Type 0) (low : Ops V) (high : Ops W) → Respects R low high → (n : ℕ) (p : Plan A) (v : V) (w : W) → R v w → R (cut_short low n p v) (cut_short high n p w)
respects_short R low high h zero p v w r = r
respects_short R low high h (suc n) (Done a) v w r = r
respects_short R low high h (suc n) (Ask op k) v w r =
    subst (λ a. R (cut_short low n (k (low op v).0) (low op v).1) (cut_short high n (k a) (high op w).1)) (h.answers op v w r)
    (respects_short R low high h n (k (low op v).0) (low op v).1 (high op w).1 (h.tied op v w r))

-- what each operation keeps, every plan keeps
pub keeps : {W A : Type 0} (I : W → Type 0) (ops : Ops W) → ((op : Op) (w : W) → I w → I (ops op w).1) → (p : Plan A) (w : W) → I w → I (perform ops p w).1
keeps I ops h (Done a) w i = i
keeps I ops h (Ask op k) w i = keeps I ops h (k (ops op w).0) (ops op w).1 (h op w i)

pub keeps_short : {W A : Type 0} (I : W → Type 0) (ops : Ops W) → ((op : Op) (w : W) → I w → I (ops op w).1) → (n : ℕ) (p : Plan A) (w : W) → I w → I (cut_short ops n p w)
keeps_short I ops h zero p w i = i
keeps_short I ops h (suc n) (Done a) w i = i
keeps_short I ops h (suc n) (Ask op k) w i = keeps_short I ops h n (k (ops op w).0) (ops op w).1 (h op w i)
