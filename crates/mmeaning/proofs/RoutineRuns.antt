-- SPDX-License-Identifier: Apache-2.0
-- Lines that lead to routines: for examples in a world whose store has a routine of ALICE.
use Rattle.mmeaning.proofs.MeaningWords.{◌≡◌, ℕ, Bool, false, List, [], None, refl, ap, codes, empty, insert, Locks, May, Put, Kill, Routine, Plan, Ask}
use Rattle.mmeaning.proofs.MeaningWords.{perform, Completion, opening, Globals, lines_of, Mode, may, Text, Node, Outcome, no_locals, assigned_to, act, Settings}
use Rattle.mmeaning.proofs.MeaningWords.{Session, World, Reply, home}
use Rattle.mmeaning.specs.Transition.{Shared}
use Rattle.mmeaning.proofs.Calls.{assoc_plan}
use Rattle.mmeaning.proofs.LineRuns.{opened, text_opened, list_opened, name_found, AreAnswered, Cases, AreAnsweredEach}
use Rattle.mmeaning.proofs.ExampleAccount.{with_steps, alice_in, account}

-- the lines of ALICE's routines
unfoldable pub lines_in : Globals → Text → List Text
lines_in g name = lines_of g (codes "ALICE") name

-- a routine of which the lines are known is read
pub asked : (g : Globals) (name : Text) (lines : List Text) → lines_in g name ≡ lines → (locks : Locks) (settings : Settings) (terminal : ℕ) (k : List Text → Plan (Outcome Completion))
    → perform (act settings terminal (codes "ALICE")) (Ask (Routine None name) k) (record { globals = g; locks = locks }) ≡ perform (act settings terminal (codes "ALICE")) (k lines) (record { globals = g; locks = locks })
unfolding lines_in
asked g name lines h locks settings terminal k = ap (λ xs. perform (act settings terminal (codes "ALICE")) (k xs) (record { globals = g; locks = locks })) h

-- what is asked and what is written otherwise, an operation at a time
module _ (settings : Settings) (terminal : ℕ) (me : Text) (w : Shared) where
  pub told : (owner name : Text) (mode : Mode) (k : Bool → Plan (Outcome Completion)) → perform (act settings terminal me) (Ask (May owner name mode) k) w ≡ perform (act settings terminal me) (k (may settings me owner name mode)) w
  told owner name mode k = refl

  pub put : (n : Node) (t : Text) (k : Unit {0} → Plan (Outcome Completion)) → perform (act settings terminal me) (Ask (Put n t) k) w ≡ perform (act settings terminal me) (k tt) (act settings terminal me (Put n t) w).1
  put n t k = refl

  pub killed : (n : Node) (k : Unit {0} → Plan (Outcome Completion)) → perform (act settings terminal me) (Ask (Kill n) k) w ≡ perform (act settings terminal me) (k tt) (act settings terminal me (Kill n) w).1
  killed n k = refl

pub ruleset computed_operations = (told, put, killed)

-- a world with this store, in which terminal 1 has a session
abbrev pub serving_in : Globals → Session → World
serving_in g s = record { shared = (opening g).shared; sessions = insert empty 1 s }

-- where it holds one text, at a variable's name
abbrev pub holding_in : Globals → Text → Text → World
holding_in g name x = serving_in g (record { locals = assigned_to no_locals name [] x; naked = None; test = false; cursor = home })

-- A level is deep within plans one after another, where `simp` doesn't look: it brings what is done next to the front.
pub ruleset computed_levels = (opened, text_opened, list_opened, name_found, assoc_plan)

-- what lines of a terminal are answered in any store, and in one that has these lines of a routine
abbrev pub Anywhere : List Text → List Reply → Type 0
Anywhere ts rs = (g : Globals) → AreAnswered account (opening g) ts rs

abbrev pub With : Text → List Text → List Text → List Reply → Type 0
With name lines ts rs = (g : Globals) → lines_in g name ≡ lines → AreAnswered account (opening g) ts rs

abbrev pub WithSteps : ℕ → Text → List Text → List Text → List Reply → Type 0
WithSteps n name lines ts rs = (g : Globals) → lines_in g name ≡ lines → AreAnswered (with_steps n) (opening g) ts rs

-- where each line stands by itself, and is read in this language
abbrev pub WithEachIn : ℕ → Text → List Text → Cases → Type 0
WithEachIn language name lines cases = (g : Globals) → lines_in g name ≡ lines → AreAnsweredEach (alice_in language) (opening g) cases

abbrev pub WithEach : Text → List Text → Cases → Type 0
WithEach name lines cases = (g : Globals) → lines_in g name ≡ lines → AreAnsweredEach account (opening g) cases
