-- SPDX-License-Identifier: Apache-2.0
-- Places that are kept, of which something is asked where the line's account may not read.
use Rattle.meval.proofs.EvalWords.{Doubts-same, ◌≡◌, ap, sym, refl, false≢true, [], None, Ok, Option, Text, give, ask, Node, Place, at_local, at_node, read_or}
use Rattle.meval.proofs.EvalWords.{next_at, unwrap_or, true, false, Ghosts, Eval, Evaluates, standing_of, IsOpen, Standing, Direction}
use Rattle.std.specs.FinMap.{get}
use Rattle.mspec.specs.Access.{Read}
use Rattle.mspec.specs.Plan.{Value, Neighbour}
use Rattle.mspec.specs.Globals.{order_at}
use Rattle.mmeaning.specs.Shared.{guarded}
use Rattle.meval.specs.Kept.{may_read_at}
use Rattle.meval.proofs.Asking.{asks, shared}
use Rattle.meval.proofs.Calls.{evaluates_then, evaluates_gives, keeps_itself}

pub opened : (b : Standing) (p : Place) → may_read_at b p ≡ true → IsOpen b Read p
opened b (at_local name xs) h = tt
opened b (at_node n) h = h

module _ {S : Type 0} {g : Ghosts S} {e : Eval S} where
  no_text : (n : Node) → may_read_at (standing_of e) (at_node n) ≡ false → Evaluates g (λ i. ask (Value n)) (λ (o : Option Text). o) e (Ok None) e
  no_text n closed = asks (Value n) (λ o. o) None (keeps_itself _) refl (λ out locks. refl) (Doubts-same _)
      (λ sure locks. let w = shared g e locks in ap (λ b. guarded b None w (get w.globals n, w)) closed)

  no_neighbour : (d : Direction) (n : Node) → may_read_at (standing_of e) (at_node n) ≡ false
      → Evaluates g (λ i. ask (Neighbour d n)) (λ (o : Option Text). o) e (Ok None) e
  no_neighbour d n closed = asks (Neighbour d n) (λ o. o) None (keeps_itself _) refl (λ out locks. refl) (Doubts-same _)
      (λ sure locks. let w = shared g e locks in ap (λ b. guarded b None w (order_at w.globals d n, w)) closed)

  -- $GET gives the other text
  pub gets_other : (p : Place) (other v : Text) → may_read_at (standing_of e) p ≡ false → v ≡ other
      → Evaluates g (λ i. read_or other p) (λ (v : Text). v) e (Ok v) e
  gets_other (at_local name xs) other v closed is = absurd (false≢true (sym closed))
  gets_other (at_node n) other v closed is = evaluates_then (λ i found. give (unwrap_or found other)) (no_text n closed) (evaluates_gives other (λ v. v) v is)

  -- $ORDER finds nothing
  pub nothing_next : (d : Direction) (p : Place) (v : Text) → may_read_at (standing_of e) p ≡ false → v ≡ []
      → Evaluates g (λ i. next_at d p) (λ (v : Text). v) e (Ok v) e
  nothing_next d (at_local name xs) v closed is = absurd (false≢true (sym closed))
  nothing_next d (at_node n) v closed is =
      evaluates_then (λ i next. give (unwrap_or next [])) (no_neighbour d n closed) (evaluates_gives [] (λ v. v) v is)
