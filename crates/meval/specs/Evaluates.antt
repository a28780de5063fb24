-- SPDX-License-Identifier: Apache-2.0
-- What a call that evaluates says: it does an act that is given where it stands.
use Rattle.std.specs.Prelude.{◌≡◌, ◌≤◌, ℕ, Bool, true, not, List, Result, Ok, Err}
use Rattle.mspec.specs.Access.{name_at, language_at}
use Rattle.mspec.specs.LockConflict.{Locks}
use Rattle.mspec.specs.Act.{Text, Node, Act, given_to}
use Rattle.mmeaning.specs.Expression as meaning
use Rattle.mmeaning.specs.Expression.{Inside, inside}
use Rattle.mmeaning.specs.Transition.{is_lost}
use Rattle.mmeaning.specs.Calls.{Standing, Here, Did, point}
use Rattle.mnodes.specs.Over.{DoubtsOver}
use Rattle.mnodes.specs.Steady.{IsSteady}
use Rattle.mnodes.specs.declared.store.NodeStore.{Ghosts}
use Rattle.moperator.specs.Codes.{fault_of}
use Rattle.moperator.specs.declared.code.Code.{Code}
use Rattle.meval.specs.Sessions.{cursor_of}
use Rattle.meval.specs.declared.depth.Depth.{Depth}
use Rattle.meval.specs.declared.eval.Eval.{Eval}

abbrev pub depth_of : Depth → meaning.Depth
depth_of d = record { levels = d.levels; indirections = d.indirections; wants_value = d.wants_value }

abbrev pub standing_of : {S : Type 0} → Eval S → Standing
standing_of e = record {
  settings = e.settings.now;
  terminal = e.terminal;
  account = name_at e.settings.now e.account;
  given = given_to e.terminal (language_at e.settings.now e.account);
}

-- a node of the account's own global
abbrev pub own_global : {S : Type 0} → Eval S → Text → List Text → Node
own_global e name xs = record { account = (standing_of e).account; name = name; subscripts = xs }

-- where an evaluation is, with what it does not see: the output and the locks
abbrev pub eval_here : {S : Type 0} → Ghosts S → Eval S → Text → Locks → Here
eval_here g e out locks =
    point e.session.now.locals e.session.now.naked e.session.now.test (cursor_of e.session.now.cursor) out e.steps (standing_of e).given (record { globals = g.content e.store.now; locks = locks })

-- where the expressions of its line stand, with `n` texts that may be entered
abbrev pub inside_at : {S : Type 0} → Eval S → ℕ → Inside
inside_at e n = inside (standing_of e).account n (depth_of e.depth)

-- an evaluation keeps to this: it stands where it stood, the references are those that were lent, and no step comes back
pub record KeepsEval {S : Type 0} (old new : Eval S) : Type 0 where
  pub same : standing_of new ≡ standing_of old
  pub session : new.session.ghost_name ≡ old.session.ghost_name
  pub store : new.store.ghost_name ≡ old.store.ghost_name
  pub fewer : new.steps ≤ old.steps

-- it was done, or ended with a code of the language: memory and the store sufficed
abbrev pub is_kept : {X : Type 0} → Result X Code → Bool
is_kept (Ok x) = true
is_kept (Err c) = not (is_lost (fault_of c))

-- it does an act, whatever the output and the locks
pub record Evaluates {S A X : Type 0} (g : Ghosts S) (p : Inside → Act A) (f : X → A) (old : Eval S) (r : Result X Code) (new : Eval S) : Type 0 where
  pub at : g.doubt new.store.now ≡ 0 → (out : Text) (locks : Locks) → Did (standing_of old) (IsSteady g new.store.now) fault_of (λ n. p (inside_at old n)) f (eval_here g old out locks) r (eval_here g new out locks)
  pub doubt : DoubtsOver g old.store.now new.store.now (is_kept r)
  pub keeps : KeepsEval old new
  pub depth : new.depth ≡ old.depth

-- what an act does from one evaluation on, another act does from another evaluation on
pub record Leads {S : Type 0} (g : Ghosts S) (p : Inside → Act Text) (old : Eval S) (q : Inside → Act Text) (mid : Eval S) : Type 0 where
  pub on : (r : Result Text Code) (new : Eval S) → Evaluates g q (λ (v : Text). v) mid r new → Evaluates g p (λ (v : Text). v) old r new
