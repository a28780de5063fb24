-- SPDX-License-Identifier: Apache-2.0
-- What calls say of the acts of a line.
use Rattle.std.specs.Prelude.{◌≡◌, ℕ, suc, Result}
use Rattle.mspec.specs.Act.{Text, Act}
use Rattle.mmeaning.specs.Expression.{Inside}
use Rattle.mmeaning.specs.Calls.{Here, Did}
use Rattle.mnodes.specs.Over.{DoubtsOver}
use Rattle.mnodes.specs.Steady.{IsSteady}
use Rattle.mnodes.specs.declared.store.NodeStore.{Ghosts}
use Rattle.moperator.specs.Codes.{fault_of}
use Rattle.moperator.specs.declared.code.Code.{Code}
use Rattle.meval.specs.Evaluates.{KeepsEval, is_kept, standing_of, eval_here, inside_at}
use Rattle.mcommand.specs.declared.parts.Parts.{Parts}

abbrev pub here_of : {S : Type 0} → Ghosts S → Parts S → Here
here_of g p = eval_here g p.eval p.out.now.items p.locks.now

-- a call keeps to what an evaluation does, and the locks and the output are those that were lent
pub record KeepsLoans {S : Type 0} (old new : Parts S) : Type 0 where
  pub eval : KeepsEval old.eval new.eval
  pub locks : new.locks.ghost_name ≡ old.locks.ghost_name
  pub out : new.out.ghost_name ≡ old.out.ghost_name

-- it does an act
pub record Does {S A X : Type 0} (g : Ghosts S) (p : Inside → Act A) (f : X → A) (old : Parts S) (r : Result X Code) (new : Parts S) : Type 0 where
  pub at : g.doubt new.eval.store.now ≡ 0 → Did (standing_of old.eval) (IsSteady g new.eval.store.now) fault_of (λ n. p (inside_at old.eval n)) f (here_of g old) r (here_of g new)
  pub doubt : DoubtsOver g old.eval.store.now new.eval.store.now (is_kept r)
  pub keeps : KeepsLoans old new
  pub depth : new.eval.depth ≡ old.eval.depth

-- The same where one text more may be entered than steps are left, as within a command, whose own step is spent. What a text names, and no
-- step came before, is evaluated so.
pub record DoesWithin {S A X : Type 0} (g : Ghosts S) (p : Inside → Act A) (f : X → A) (old : Parts S) (r : Result X Code) (new : Parts S) : Type 0 where
  pub at : g.doubt new.eval.store.now ≡ 0 → Did (standing_of old.eval) (IsSteady g new.eval.store.now) fault_of (λ n. p (inside_at old.eval (suc n))) f
      (here_of g old) r (here_of g new)
  pub doubt : DoubtsOver g old.eval.store.now new.eval.store.now (is_kept r)
  pub keeps : KeepsLoans old new
  pub depth : new.eval.depth ≡ old.eval.depth

-- the same for an act that is given the account and how many texts it may enter, since it brings its own depth
pub record DoesAt {S A X : Type 0} (g : Ghosts S) (p : Text → ℕ → Act A) (f : X → A) (old : Parts S) (r : Result X Code) (new : Parts S) : Type 0 where
  pub at : g.doubt new.eval.store.now ≡ 0 → Did (standing_of old.eval) (IsSteady g new.eval.store.now) fault_of (p (standing_of old.eval).account) f (here_of g old) r (here_of g new)
  pub doubt : DoubtsOver g old.eval.store.now new.eval.store.now (is_kept r)
  pub keeps : KeepsLoans old new
