-- SPDX-License-Identifier: Apache-2.0
-- Names of variables, as $NAME gives them.
use Rattle.meval.proofs.EvalWords.{Doubts-same, ◌≡◌, ◌<◌, Option, Some, None, Result, cond, refl, ap, true, false, Act, Text, Node, IsAccountName, Yields}
use Rattle.meval.proofs.EvalWords.{yielded}
use Rattle.meval.proofs.EvalWords.{ℤ, List, Ghosts, fault_of, Code, Eval, Evaluates, eval_here, standing_of, environment_of, name_with, named, of_local}
use Rattle.std.proofs.Common.{All}
use Rattle.mspec.specs.Trees.{text_eq}
use Rattle.mspec.proofs.Basics.{rest_is_ascii}
use Rattle.meval.proofs.Calls.{evaluates_yielded, keeps_itself}

pub account_is_ascii : (s : Text) → IsAccountName s → All (λ c. c < 128) s
account_is_ascii s name = λ k d within. rest_is_ascii _ (name.each k d within)

-- the name of a node of the line's own account has no environment
pub own_environment : (me : Text) (n : Node) → text_eq n.account me ≡ true → environment_of me n ≡ None
own_environment me n is = ap (λ b. cond b None (Some n.account)) is

pub other_environment : (me : Text) (n : Node) → text_eq n.account me ≡ false → environment_of me n ≡ Some n.account
other_environment me n is = ap (λ b. cond b None (Some n.account)) is

module _ {S : Type 0} {g : Ghosts S} where
  -- a call that needs no point, but the account of the line
  pub evaluates_owned : {A X : Type 0} {e : Eval S} (p : Text → Act A) {f : X → A} {r : Result X Code} → Yields fault_of (p (standing_of e).account) f r
      → Evaluates g (λ i. p i.account) f e r e
  evaluates_owned {e = e} p y = record {
    at = λ sure out locks. yielded (eval_here g e out locks) y;
    doubt = Doubts-same _;
    keeps = keeps_itself _;
    depth = refl;
  }

  -- the name of a local variable
  pub named_local : {e : Eval S} {r : Result Text Code} (name : Text) (xs : List Text) (most : Option ℤ)
      → Yields fault_of (name_with name xs most) (λ (t : Text). t) r
      → Evaluates g (λ i. named i.account most (of_local name xs)) (λ (t : Text). t) e r e
  named_local name xs most y = evaluates_yielded {p = name_with name xs most} y
