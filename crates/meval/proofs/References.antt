-- SPDX-License-Identifier: Apache-2.0
-- Nodes that references name, and what the checks let through as a walk.
use Rattle.meval.proofs.EvalWords.{Doubts-same, ◌≡◌, ℕ, zero, suc, ◌<◌, [], ◌∷◌, length, Ok, Err, subst, refl, sym, arith, ◌==◌, false≢true, ◌>>=◌, ◌>>◌, Act}
use Rattle.meval.proofs.EvalWords.{give, unless, ExprsTree, Inside, values, Evaluated, Node, AreOrderSubscripts, are_order_subscripts, order_subscripts_test}
use Rattle.meval.proofs.EvalWords.{of_global, checked, ordering, some_subscript, Yields, did_gives, Ghosts, fault_of, Code, Zsub, Eval, Evaluates, own_global}
use Rattle.meval.proofs.EvalWords.{standing_of, false, List, Text}
use Rattle.mspec.specs.Code as spec
use Rattle.meval.proofs.Calls.{evaluates_failed, evaluates_then, keeps_itself}

-- ---- nodes

-- a node of an account that a text names
abbrev pub node_of : Text → Text → List Text → Node
node_of owner name xs = record { account = owner; name = name; subscripts = xs }

-- what follows the name of the account
abbrev pub owned : Text → ExprsTree → Inside → Text → Act Evaluated
owned name subscripts i owner = values i [] subscripts >>= (λ xs. give (of_global (node_of owner name xs)))

-- and one of the line's account
pub gives_own : {S X : Type 0} {g : Ghosts S} {e : Eval S} (f : X → Evaluated) (name : Text) (xs : List Text) (x : X) → f x ≡ of_global (node_of (standing_of e).account name xs)
    → Evaluates g (λ i. give (of_global (node_of i.account name xs))) f e (Ok x) e
gives_own {e = e} f name xs x is = record {
  at = λ sure out locks. did_gives (of_global (node_of (standing_of e).account name xs)) f x is;
  doubt = Doubts-same _;
  keeps = keeps_itself _;
  depth = refl;
}

-- what follows the subscripts, where the node is then seen as what is evaluated
pub own_failed : {S X : Type 0} {g : Ghosts S} {old new : Eval S} {e : Code} (name : Text) (p : Inside → Act (List Text)) (f : X → List Text) → Evaluates g p f old (Err e) new
    → Evaluates g (λ i. p i >>= (λ xs. give (of_global (node_of i.account name xs)))) (λ (v : Evaluated). v) old (Err e) new
own_failed name p f d = evaluates_failed (λ i xs. give (of_global (node_of i.account name xs))) d

pub own_told : {S X : Type 0} {g : Ghosts S} {old mid : Eval S} {x : X} (name : Text) (p : Inside → Act (List Text)) (f : X → List Text) → Evaluates g p f old (Ok x) mid
    → Evaluates g (λ i. p i >>= (λ xs. give (of_global (node_of i.account name xs)))) (λ (v : Evaluated). v) old (Ok (of_global (own_global mid name (f x)))) mid
own_told {mid = mid} {x = x} name p f d =
    evaluates_then (λ i xs. give (of_global (node_of i.account name xs))) d (gives_own (λ v. v) name (f x) (of_global (own_global mid name (f x))) refl)

-- ---- walks

pub walks : (xs : List Text) → AreOrderSubscripts xs → Yields {E = Code} fault_of (checked ordering xs) (λ (u : Unit {0}). u) (Ok tt)
walks [] are = let some = are.some in absurd (omega (arith, some))
walks (x ∷ xs) are =
    subst (λ b. Yields {E = Code} fault_of (unless spec.Zsub b >> some_subscript (x ∷ xs)) (λ (u : Unit {0}). u) (Ok tt)) (sym (order_subscripts_test (x ∷ xs) are))
    (record { ends = λ s. refl })

pub no_walk : (xs : List Text) → 0 < length xs → are_order_subscripts xs ≡ false → Yields fault_of (checked ordering xs) (λ (u : Unit {0}). u) (Err Zsub)
no_walk [] some is = absurd (omega (arith, some))
no_walk (x ∷ xs) some is = subst (λ b. Yields fault_of (unless spec.Zsub b >> some_subscript (x ∷ xs)) (λ (u : Unit {0}). u) (Err Zsub)) (sym is) (record { ends = λ s. refl })

pub not_empty : (n : ℕ) → false ≡ (n == 0) → 0 < n
not_empty zero e = absurd (false≢true e)
not_empty (suc n) e = omega arith
