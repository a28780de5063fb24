-- SPDX-License-Identifier: Apache-2.0
-- LOCK on examples, as proved equations over any world: what is asked in which order, and what is refused.
use Rattle.mmeaning.proofs.MeaningWords.{◌≡◌, ℕ, suc, Bool, true, false, [], ◌∷◌, Option, Some, None, refl, rules, codes, empty, get, M9, Zgrant, Zlocked, Zsub}
use Rattle.mmeaning.proofs.MeaningWords.{Zsyntax, perform, LockName, Locks, taken, given_back, released, Read, Text, Node, Locals, State, Gives, Fails}
use Rattle.mmeaning.proofs.MeaningWords.{ExprTree, divide, number, text, ReferenceTree, local, global, indirect, extended, exprs, no_exprs, anew, adding}
use Rattle.mmeaning.proofs.MeaningWords.{giving_back, lock_one, lock_several, reference, reads_in, finds, Shared, computes, Cursor}
use Rattle.mspec.specs.Access.{Settings}
use Rattle.mmeaning.specs.Locking.{locking}
use Rattle.mmeaning.proofs.ExampleAccount.{account_named, of_profile}
use Rattle.mmeaning.proofs.LineTrees.{only, with_operator}
use Rattle.mmeaning.proofs.LockRuns.{hers, his, her_line, his_line}

-- ALICE lets BOB read her global X
abbrev lending : Settings
lending = record {
  accounts = account_named (codes "ALICE") ∷ account_named (codes "BOB") ∷ [];
  terminals = empty;
  grants = record { from = codes "ALICE"; to = codes "BOB"; global = codes "X"; mode = Read } ∷ [];
}

abbrev global_j : ReferenceTree
global_j = global (codes "J") no_exprs

abbrev local_m : ReferenceTree
local_m = local (codes "M") no_exprs

abbrev lock_j : LockName
lock_j = record { global = true; node = record { account = codes "ALICE"; name = codes "J"; subscripts = [] } }

-- a name without `^` is of the line's account
abbrev lock_m : LockName
lock_m = record { global = false; node = record { account = codes "ALICE"; name = codes "M"; subscripts = [] } }

abbrev her_y : Node
her_y = record { account = codes "ALICE"; name = codes "Y"; subscripts = codes "a" ∷ [] }

abbrev error : ExprTree
error = with_operator (number (codes "1")) divide (number (codes "0"))

module _ (w : Shared) (naked : Option Node) (test : Bool) (cursor : Cursor) (out : Text) (locals : Locals) (steps : ℕ) where
  abbrev state : Bool → ℕ → State
  state b n = record { locals = locals; naked = naked; test = b; cursor = cursor; out = out; steps = n; given = of_profile }

  -- ---- taking

  -- without a sign all that the terminal holds is given up first; the node that was referred to last stays the same
  taken_anew : (locks : Locks) → taken (released w.locks 1) 1 (lock_j ∷ []) ≡ Some locks → perform hers (locking her_line anew (lock_one global_j) None (state test steps)) w ≡ (Gives tt (state test steps), record w { locks = locks })
  taken_anew locks h = rw (perform, h) refl

  -- even if the names are not free then
  refused_anew : taken (released w.locks 1) 1 (lock_j ∷ []) ≡ None → perform hers (locking her_line anew (lock_one global_j) None (state test steps)) w ≡ (Fails Zlocked (state test steps), record w { locks = released w.locks 1 })
  refused_anew h = rw (perform, h) refl

  -- with a timeout $TEST says so, and the line goes on
  taken_in_time : (locks : Locks) → taken w.locks 1 (lock_j ∷ lock_m ∷ []) ≡ Some locks
      → perform hers (locking her_line adding (lock_several (global_j ∷ local_m ∷ [])) (Some (only (text (codes "1E30")))) (state test (suc steps))) w ≡ (Gives tt (state true steps), record w { locks = locks })
  taken_in_time locks h = rw h refl

  refused_in_time : taken w.locks 1 (lock_j ∷ lock_m ∷ []) ≡ None
      → perform hers (locking her_line adding (lock_several (global_j ∷ local_m ∷ [])) (Some (only (text (codes "1E30")))) (state test (suc steps))) w ≡ (Gives tt (state false steps), w)
  refused_in_time h = rw h refl

  -- a subscript that is read is the node that was referred to last; the name itself is not
  subscript_refers : (locks : Locks) → get w.globals her_y ≡ Some (codes "x") → taken w.locks 1 (record { global = true; node = record { account = codes "ALICE"; name = codes "J"; subscripts = codes "x" ∷ [] } } ∷ []) ≡ Some locks
      → perform hers (locking her_line adding (lock_one (global (codes "J") (exprs (only (reference (global (codes "Y") (exprs (only (text (codes "a"))) no_exprs)))) no_exprs))) None (state test (suc (suc steps)))) w
      ≡ (Gives tt (record { locals = locals; naked = Some her_y; test = test; cursor = cursor; out = out; steps = steps; given = of_profile }), record w { locks = locks })
  subscript_refers locks read free = rw (perform, read, free) refl

  -- ---- giving back

  record Given : Type 0 where
    given_back_each : perform hers (locking her_line giving_back (lock_several (global_j ∷ local_m ∷ [])) None (state test steps)) w
        ≡ (Gives tt (state test steps), record w { locks = given_back (given_back w.locks 1 lock_j) 1 lock_m })
    -- with a timeout $TEST is true, whatever was held
    given_back_in_time : perform hers (locking her_line giving_back (lock_one global_j) (Some (only (text (codes "0")))) (state test (suc steps))) w ≡ (Gives tt (state true steps), record w { locks = given_back w.locks 1 lock_j })
    -- nothing is given up before all is evaluated and checked
    error_in_name : perform hers (locking her_line anew (lock_one (global (codes "Y") (exprs error no_exprs))) None (state test (suc (suc steps)))) w ≡ (Fails M9 (state test steps), w)
    error_in_timeout : perform hers (locking her_line anew (lock_one (global (codes "Y") no_exprs)) (Some error) (state test (suc (suc steps)))) w ≡ (Fails M9 (state test steps), w)
    empty_subscript : perform hers (locking her_line anew (lock_one (local (codes "M") (exprs (only (text [])) no_exprs))) None (state test (suc steps))) w ≡ (Fails Zsub (state test steps), w)
    -- who may lock
    -- permission to read is not enough, and having none is reported like an account that does not exist
    granted_reading : perform his (locking his_line adding (lock_one (extended (only (text (codes "ALICE"))) (codes "X") no_exprs)) None (state test (suc steps))) w ≡ (Fails Zgrant (state test steps), w)
    no_such_account : perform his (locking his_line adding (lock_one (extended (only (text (codes "NOBODY"))) (codes "X") no_exprs)) None (state test (suc steps))) w ≡ (Fails Zgrant (state test steps), w)

  given : Given
  unfolding computes
  given = search rules

  -- by an environment one may name one's own
  own_environment : (locks : Locks) → taken w.locks 1 (lock_j ∷ []) ≡ Some locks
      → perform hers (locking her_line adding (lock_one (extended (only (text (codes "ALICE"))) (codes "J") no_exprs)) None (state test (suc steps))) w ≡ (Gives tt (state test steps), record w { locks = locks })
  own_environment locks h = rw (perform, h) refl

  -- ---- naked references

  record NakedNamed : Type 0 where
    -- one that a text names is refused after its subscripts, and before the next name
    naked_named : perform hers (locking her_line adding (lock_several (indirect (text (codes "^(\"x\")")) no_exprs ∷ global (codes "X") (exprs error no_exprs) ∷ [])) None (state test (suc (suc steps)))) w ≡ (Fails Zsyntax (state test steps), w)
    subscripts_before : perform hers (locking her_line adding (lock_one (indirect (text (codes "^(\"x\")")) (exprs error no_exprs))) None (state test (suc (suc (suc (suc steps)))))) w ≡ (Fails M9 (state test steps), w)

  naked_named : NakedNamed
  unfolding reads_in finds computes
  naked_named = search rules
