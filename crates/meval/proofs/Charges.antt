-- SPDX-License-Identifier: Apache-2.0
-- Steps that are charged at once, and the match of a pattern after them.
use Rattle.meval.proofs.EvalWords.{Doubts-same, ◌≡◌, ℕ, zero, suc, ◌<◌, ◌≤◌, Result, Ok, Err, refl, sym, ap, ◌∙◌, subst, arith, Text, Act, Gives, Fails, ◌>>◌}
use Rattle.meval.proofs.EvalWords.{give, unless, Standing, ops_of, Yields, Ghosts, fault_of, Code, Eval, Evaluates, standing_of, eval_here}
use Rattle.std.specs.Prelude.{Bool, true, false, not, ◌-◌, List, map, length}
use Rattle.std.specs.List.{list_any}
use Rattle.mspec.specs.Act.{State}
use Rattle.mspec.specs.Code as spec
use Rattle.mspec.specs.Plan.{Done, perform}
use Rattle.mspec.specs.PatternTests.{is_match}
use Rattle.mgrammar.specs.Grammar.{AtomTree}
use Rattle.mgrammar.specs.Matching.{atom_of, atom_reversed, turns_of}
use Rattle.mmeaning.specs.Operators.{charges, matching}
use Rattle.moperator.specs.declared.code.Code.TheVariants.{M10, Zsteps}

charges_given : (n k : ℕ) (s : State) → n ≤ k → charges n (record s { steps = k }) ≡ Done (Gives tt (record s { steps = k - n }))
charges_given zero k s le = let same : k ≡ k - 0 = omega arith in ap (λ (m : ℕ). Done (Gives tt (record s { steps = m }))) same
charges_given (suc n) zero s le = absurd (omega (arith, le))
charges_given (suc n) (suc k) s le =
    let same : k - n ≡ suc k - suc n = omega arith in
    charges_given n k s (omega (arith, le)) ∙ ap (λ (m : ℕ). Done (Gives tt (record s { steps = m }))) same

charges_failed : (n k : ℕ) (s : State) → k < n → charges n (record s { steps = k }) ≡ Done (Fails spec.Zsteps (record s { steps = 0 }))
charges_failed zero k s lt = absurd (omega (arith, lt))
charges_failed (suc n) zero s lt = refl
charges_failed (suc n) (suc k) s lt = charges_failed n k s (omega (arith, lt))

-- that many are left
pub spends : {S : Type 0} {g : Ghosts S} (e : Eval S) (n : ℕ) → n ≤ e.steps → Evaluates g (λ i. charges n) (λ (u : Unit {0}). u) e (Ok tt) (record e { steps = e.steps - n })
spends {g = g} e n le = record {
  at = λ sure out locks.
      let h = eval_here g e out locks in
      record { at = λ m fuel. ap (λ p. perform (ops_of (standing_of e)) p h.1) (charges_given n e.steps h.0 le); fewer = omega arith };
  doubt = Doubts-same _;
  keeps = record { same = refl; session = refl; store = refl; fewer = omega arith };
  depth = refl;
}

-- too few are left
pub spends_all : {S : Type 0} {g : Ghosts S} (e : Eval S) (n : ℕ) → e.steps < n → Evaluates g (λ i. charges n) (λ (u : Unit {0}). u) e (Err Zsteps) (record e { steps = 0 })
spends_all {g = g} e n lt = record {
  at = λ sure out locks.
      let h = eval_here g e out locks in
      record { at = λ m fuel. ap (λ p. perform (ops_of (standing_of e)) p h.1) (charges_failed n e.steps h.0 lt); fewer = omega arith };
  doubt = Doubts-same _;
  keeps = record { same = refl; session = refl; store = refl; fewer = omega arith };
  depth = refl;
}

-- ---- a match

pub reversed_fails : {X : Type 0} (pattern : List AtomTree) (x : Text) (f : X → Bool) → list_any atom_reversed pattern ≡ true → Yields fault_of (matching pattern x) f (Err M10)
reversed_fails pattern x f is =
    subst (λ b. Yields fault_of (unless spec.M10 (not b) >> (charges (turns_of (length x) pattern) >> give (is_match (map atom_of pattern) x))) f (Err M10)) (sym is) (record { ends = λ s. refl })

pub matching_of : {S X : Type 0} {g : Ghosts S} (pattern : List AtomTree) (x : Text) (f : X → Bool) (old : Eval S) (r : Result X Code) (new : Eval S) → list_any atom_reversed pattern ≡ false
    → Evaluates g (λ i. charges (turns_of (length x) pattern) >> give (is_match (map atom_of pattern) x)) f old r new → Evaluates g (λ i. matching pattern x) f old r new
matching_of {g = g} pattern x f old r new right d =
    subst (λ b. Evaluates g (λ i. unless spec.M10 (not b) >> (charges (turns_of (length x) pattern) >> give (is_match (map atom_of pattern) x))) f old r new) (sym right) d
