-- SPDX-License-Identifier: Apache-2.0
-- A reference that an evaluation gives where it stands, put on a program's stack.
use Rattle.mcommand.proofs.CommandWords.{List, Option, Ok, Err, Result, IsErr, IsErrAnd, ◌≡◌, give, Evaluated, Inside, Ghosts, Code, Parts, Does}
use Rattle.mmeaning.specs.Programs.{Item, found, on_top}
use Rattle.mcommand.proofs.Calls.{does_then, does_stopped}

module _ {S X Y : Type 0} {g : Ghosts S} (node : Inside → Evaluated) (st : List Item) {f : X → Evaluated} {j : Y → Option (List Item)} where
  pub own_then : {old mid new : Parts S} {x : X} {r : Result Y Code} → Does g (λ i. give (node i)) f old (Ok x) mid
      → Does g (λ i. on_top st (found (f x))) j mid r new → Does g (λ i. on_top st (found (node i))) j old r new
  own_then d k = does_then (λ i (r : Evaluated). on_top st (found r)) d k

  pub own_stopped : {old new : Parts S} {e : Code} {r : Result Y Code} → Does g (λ i. give (node i)) f old (Err e) new
      → IsErr r × IsErrAnd r (λ x. x ≡ e) → Does g (λ i. on_top st (found (node i))) j old r new
  own_stopped d h = does_stopped (λ i (r : Evaluated). on_top st (found r)) d h
