-- SPDX-License-Identifier: Apache-2.0
-- Globals of other accounts on examples, as proved equations over any world: what is asked in which order, and what is refused.
use Rattle.mmeaning.proofs.MeaningWords.{◌≡◌, ℕ, suc, Bool, [], ◌∷◌, Option, Some, refl, rules, codes, get, M9, Zarg, Zgrant, Zsub, perform, setting, Text}
use Rattle.mmeaning.proofs.MeaningWords.{Node, Locals, State, Gives, Fails, ExprTree, divide, number, text, reference, refer, ReferenceTree, naked, extended}
use Rattle.mmeaning.proofs.MeaningWords.{ExprsTree, exprs, no_exprs, variable, one, value, Shared, computes, Cursor}
use Rattle.mgrammar.specs.Functions.{function_of}
use Rattle.mmeaning.proofs.LineTrees.{only, with_operator}
use Rattle.mmeaning.proofs.LockRuns.{hers, his, her_line, his_line}
use Rattle.mmeaning.proofs.ExampleAccount.{of_profile}

-- of ALICE's, and of what is no account
abbrev of_alice : Text → ExprsTree → ReferenceTree
of_alice name subscripts = extended (only (text (codes "ALICE"))) name subscripts

abbrev of_nobody : Text → ExprsTree → ReferenceTree
of_nobody name subscripts = extended (only (text (codes "NOBODY"))) name subscripts

abbrev subscript : Text → ExprsTree
subscript t = exprs (only (text t)) no_exprs

abbrev node : Text → Text → Node
node name subscript = record { account = codes "ALICE"; name = name; subscripts = subscript ∷ [] }

abbrev next_of : ReferenceTree → ExprTree
next_of r = only (refer (codes "O") r no_exprs)

module _ (w : Shared) (last : Option Node) (test : Bool) (cursor : Cursor) (out : Text) (locals : Locals) (steps : ℕ) where
  abbrev state : Option Node → ℕ → State
  state at n = record { locals = locals; naked = at; test = test; cursor = cursor; out = out; steps = n; given = of_profile }

  -- ---- what is granted

  -- the node that was read is the one that was referred to last
  granted_value : (x : Text) → get w.globals (node (codes "X") (codes "a")) ≡ Some x
      → perform his (value his_line (only (reference (of_alice (codes "X") (subscript (codes "a"))))) (state last (suc (suc (suc steps))))) w ≡ (Gives x (state (Some (node (codes "X") (codes "a"))) steps), w)
  granted_value x h = rw (perform, h) refl

  -- also by one's own name
  own_value : (x : Text) → get w.globals (node (codes "Y") (codes "a")) ≡ Some x
      → perform hers (value her_line (only (reference (of_alice (codes "Y") (subscript (codes "a"))))) (state last (suc (suc (suc steps))))) w ≡ (Gives x (state (Some (node (codes "Y") (codes "a"))) steps), w)
  own_value x h = rw (perform, h) refl

  -- a naked reference keeps the account
  beside_value : (x : Text) → get w.globals (node (codes "X") (codes "b")) ≡ Some x
      → perform his (value his_line (only (reference (naked (subscript (codes "b"))))) (state (Some (node (codes "X") (codes "a"))) (suc (suc steps)))) w ≡ (Gives x (state (Some (node (codes "X") (codes "b"))) steps), w)
  beside_value x h = rw (perform, h) refl

  -- ---- what is not: the node that was referred to last stays the same

  record Refusals : Type 0 where
    written_beside : perform his (setting his_line (one (variable (naked (subscript (codes "b"))))) (only (text (codes "1"))) (state (Some (node (codes "X") (codes "a"))) (suc (suc steps)))) w
        ≡ (Fails Zgrant (state (Some (node (codes "X") (codes "a"))) steps), w)
    written_there : perform his (setting his_line (one (variable (of_alice (codes "X") (subscript (codes "a"))))) (only (text (codes "1"))) (state last (suc (suc (suc steps))))) w ≡ (Fails Zgrant (state last steps), w)
    not_granted : perform his (value his_line (only (reference (of_alice (codes "Y") no_exprs))) (state last (suc (suc steps)))) w ≡ (Fails Zgrant (state last steps), w)
    no_account : perform his (value his_line (only (reference (of_nobody (codes "X") no_exprs))) (state last (suc (suc steps)))) w ≡ (Fails Zgrant (state last steps), w)
    -- nor what is no account's name
    no_account_name : perform his (value his_line (only (reference (extended (only (text (codes "A-B"))) (codes "X") no_exprs))) (state last (suc (suc steps)))) w ≡ (Fails Zgrant (state last steps), w)
    -- in which order: all is evaluated, then the grant, then the subscripts, then whether there is one for $ORDER
    error_before_grant : perform his (value his_line (only (reference (of_nobody (codes "Y") (exprs (with_operator (number (codes "1")) divide (number (codes "0"))) no_exprs)))) (state last (suc (suc (suc (suc steps)))))) w ≡ (Fails M9 (state last steps), w)
    grant_before_subscripts : perform his (value his_line (only (reference (of_alice (codes "Y") (subscript [])))) (state last (suc (suc (suc steps))))) w ≡ (Fails Zgrant (state last steps), w)
    subscripts_refused : perform his (value his_line (only (reference (of_alice (codes "X") (subscript [])))) (state last (suc (suc (suc steps))))) w ≡ (Fails Zsub (state last steps), w)
    grant_before_order : perform his (value his_line (next_of (of_alice (codes "Y") no_exprs)) (state last (suc (suc steps)))) w ≡ (Fails Zgrant (state last steps), w)
    order_refused : perform his (value his_line (next_of (of_alice (codes "X") no_exprs)) (state last (suc (suc steps)))) w ≡ (Fails Zarg (state last steps), w)

  refusals : Refusals
  unfolding computes function_of
  refusals = search rules
