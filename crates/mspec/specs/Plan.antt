-- SPDX-License-Identifier: Apache-2.0
-- What a line does to what is not its session's, as a plan: a tree of operations, each followed by what is done on
-- its answer.
--
-- A plan says what is done without saying where: carried out over a world, it gives an answer and the world that it leaves.
-- What is proved of all plans, as isolation is, needs one case for each operation and none for the language.
use Rattle.std.specs.Prelude.{ℕ, zero, suc, Bool, List, Option}
use Rattle.mspec.specs.Node.{Text, Node}
use Rattle.mspec.specs.Trees.{Direction}
use Rattle.mspec.specs.Access.{Mode}
use Rattle.mspec.specs.LockConflict.{LockName}

-- the operations. The lines of a routine, of one's own account or of the owner's, are one operation, since a loop that costs no steps has
-- no end of its own.
pub data Op : Type 0 where
  May : (owner name : Text) → Mode → Op
  Value : Node → Op
  Status : Node → Op
  Neighbour : Direction → Node → Op
  Following : Direction → Node → Op
  Routine : (owner : Option Text) → (name : Text) → Op
  Put : Node → Text → Op
  Kill : Node → Op
  Take : List LockName → Op
  Give_back : LockName → Op
  Release : Op

-- what each answers: whether it is allowed; a text; whether there is a text and whether one below it; a subscript; subscripts; the lines;
-- whether the names were taken
abbrev pub Answer : Op → Type 0
Answer (May owner name mode) = Bool
Answer (Value node) = Option Text
Answer (Status node) = Bool × Bool
Answer (Neighbour direction node) = Option Text
Answer (Following direction node) = Option (List Text)
Answer (Routine owner name) = List Text
Answer (Put node text) = Unit {0}
Answer (Kill node) = Unit {0}
Answer (Take names) = Bool
Answer (Give_back name) = Unit {0}
Answer Release = Unit {0}

pub data Plan (A : Type 0) : Type 0 where
  Done : A → Plan A
  Ask : (op : Op) → (Answer op → Plan A) → Plan A

abbrev pub then_plan : {A B : Type 0} → Plan A → (A → Plan B) → Plan B
then_plan (Done a) f = f a
then_plan (Ask op k) f = Ask op (λ r. then_plan (k r) f)

-- the operations over some worlds
abbrev pub Ops : Type 0 → Type 0
Ops W = (op : Op) → W → Answer op × W

-- a plan carried out: the answer, and the world that it leaves
abbrev pub perform : {W A : Type 0} → Ops W → Plan A → W → A × W
perform ops (Done a) w = (a, w)
perform ops (Ask op k) w = perform ops (k (ops op w).0) (ops op w).1

-- a plan cut short after n operations: the world that it leaves
abbrev pub cut_short : {W A : Type 0} → Ops W → ℕ → Plan A → W → W
cut_short ops zero p w = w
cut_short ops (suc n) (Done a) w = w
cut_short ops (suc n) (Ask op k) w = cut_short ops n (k (ops op w).0) (ops op w).1
