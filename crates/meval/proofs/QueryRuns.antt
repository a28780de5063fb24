-- SPDX-License-Identifier: Apache-2.0
-- $QUERY of a variable: its checks, and what it gives.
use Rattle.meval.proofs.EvalWords.{◌≡◌, ◌<◌, [], ◌∷◌, length, None, Option, Result, Ok, Err, refl, sym, ap, subst, arith, slice_get, IsErr, IsErrAnd}
use Rattle.meval.proofs.EvalWords.{◌>>=◌, ◌>>◌}
use Rattle.meval.proofs.EvalWords.{give, ask, unless, ExprsTree, values, Place, of_local, at_local, at_node, checked, resolve, direction_of}
use Rattle.meval.proofs.EvalWords.{Yields, Ghosts, fault_of, Code, Zsub, Eval, Evaluates, standing_of, direction_act, environment_of, Direction, Node}
use Rattle.meval.proofs.EvalWords.{Text}
use Rattle.meval.proofs.EvalWords.{List, false, true, false≢true, are_order_subscripts, order_subscripts_test, Doubts-same}
use Rattle.mspec.specs.Code as spec
use Rattle.mspec.specs.Plan.{Following}
use Rattle.mspec.specs.Globals.{following_at}
use Rattle.mspec.specs.Trees.{AreQuerySubscripts}
use Rattle.mgrammar.specs.NameValues.{global_text}
use Rattle.mmeaning.specs.Shared.{guarded}
use Rattle.mmeaning.specs.Variables.{querying, query_at, found_named}
use Rattle.meval.specs.Kept.{may_read_at}
use Rattle.meval.specs.Queries.{query_from, query_behind}
use Rattle.meval.proofs.Asking.{asks, shared}
use Rattle.meval.proofs.Calls.{evaluates_then, evaluates_stopped, evaluates_gives, evaluates_yielded, keeps_itself}
use Rattle.meval.proofs.LocalVariables.{regrouped, grouped}

-- ---- its checks

pub seeks : (xs : List Text) → AreQuerySubscripts xs → Yields {E = Code} fault_of (checked querying xs) (λ (u : Unit {0}). u) (Ok tt)
seeks [] are = record { ends = λ s. refl }
seeks (x ∷ xs) are =
    subst (λ b. Yields {E = Code} fault_of (unless spec.Zsub b) (λ (u : Unit {0}). u) (Ok tt)) (sym (order_subscripts_test (x ∷ xs) (are (omega arith))))
    (record { ends = λ s. refl })

pub no_search : (xs : List Text) → 0 < length xs → are_order_subscripts xs ≡ false → Yields fault_of (checked querying xs) (λ (u : Unit {0}). u) (Err Zsub)
no_search [] some is = absurd (omega (arith, some))
no_search (x ∷ xs) some is = subst (λ b. Yields fault_of (unless spec.Zsub b) (λ (u : Unit {0}). u) (Err Zsub)) (sym is) (record { ends = λ s. refl })

module _ {S : Type 0} {g : Ghosts S} where
  -- a local variable, once they let it through
  pub search_through : {e : Eval S} (name : Text) (xs : List Text) → Yields {E = Code} fault_of (checked querying xs) (λ (u : Unit {0}). u) (Ok tt)
      → Evaluates g (λ i. resolve querying (of_local name xs)) (λ (p : Place). p) e (Ok (at_local name xs)) e
  search_through name xs passed =
      evaluates_then (λ i _. give (at_local name xs)) (evaluates_yielded passed) (evaluates_gives (at_local name xs) (λ (p : Place). p) _ refl)

  pub search_refused : {old new : Eval S} (more : ExprsTree) (name : Text) (xs : List Text) {r : Result Text Code}
      → Evaluates g (λ i. checked querying xs >>= (λ _. give (at_local name xs) >>= query_from more i)) (λ (t : Text). t) old r new
      → Evaluates g (λ i. query_behind more i (of_local name xs)) (λ (t : Text). t) old r new
  search_refused more name xs {r = r} d = grouped (λ i. checked querying xs) (λ i _. give (at_local name xs)) (λ i p. query_from more i p) d

  -- ---- its direction, and then the node

  module _ (more : ExprsTree) (p : Place) where
    pub queried : {D : Type 0} {way : D → Direction} {old mid new : Eval S} (d : D) {r : Result Text Code}
        → Evaluates g (λ i. direction_act i more) way old (Ok d) mid
        → Evaluates g (λ i. query_at i.account (way d) p) (λ (t : Text). t) mid r new → Evaluates g (λ i. query_from more i p) (λ (t : Text). t) old r new
    queried d told k =
        regrouped (λ i. values i [] more) (λ i xs. direction_of (slice_get xs 0)) (λ i d. query_at i.account d p)
        (evaluates_then (λ i d. query_at i.account d p) told k)

    pub query_stopped : {D : Type 0} {way : D → Direction} {old new : Eval S} {c : Code} {r : Result Text Code}
        → Evaluates g (λ i. direction_act i more) way old (Err c) new → IsErr r × IsErrAnd r (λ x. x ≡ c)
        → Evaluates g (λ i. query_from more i p) (λ (t : Text). t) old r new
    query_stopped told h =
        regrouped (λ i. values i [] more) (λ i xs. direction_of (slice_get xs 0)) (λ i d. query_at i.account d p)
        (evaluates_stopped (λ i d. query_at i.account d p) told h)

  -- ---- where the line's account may not read

  no_following : {e : Eval S} (d : Direction) (n : Node) → may_read_at (standing_of e) (at_node n) ≡ false
      → Evaluates g (λ i. ask (Following d n)) (λ (o : Option (List Text)). o) e (Ok None) e
  no_following {e = e} d n closed = asks (Following d n) (λ o. o) None (keeps_itself _) refl (λ out locks. refl) (Doubts-same _)
      (λ sure locks. let w = shared g e locks in ap (λ b. guarded b None w (following_at w.globals d n, w)) closed)

  pub nothing_follows : {e : Eval S} (d : Direction) (p : Place) (v : Text) → may_read_at (standing_of e) p ≡ false → v ≡ []
      → Evaluates g (λ i. query_at i.account d p) (λ (v : Text). v) e (Ok v) e
  nothing_follows d (at_local name xs) v closed is = absurd (false≢true (sym closed))
  nothing_follows d (at_node n) v closed is =
      evaluates_then (λ i found. found_named (global_text (environment_of i.account n) n.name) found) (no_following d n closed)
      (evaluates_gives [] (λ v. v) v is)
