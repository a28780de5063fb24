-- SPDX-License-Identifier: Apache-2.0
use Rattle.mlocal.proofs.LocalLaws.{◌-◌, [], ◌∷◌, ◌++◌, arith, length, sym, subst, AreFree, IsFree, IsRaised, bare_end, push_top, top_raised}
use Rattle.mlocal.proofs.scopes.Locals.enter_bound.Goals as goal

pub invariant_of-self-2 : goal.invariant_of-self-2
invariant_of-self-2 c =
    let l = c.self.inside in
    let s = c.in_ok-level.level in
    let ys = l.levels.items ++ s ∷ [] in
    let raised = subst (λ ts. IsRaised (IsFree (length ts - 1) ts) (length ts) l.places c.raise_top.new.places) c.as_slice.ensures.value c.raise_top.ensures in
    let pushed = subst (λ ts. IsRaised (IsFree (length ts - 1) ts) (length ts) l.places c.raise_top.new.places) c.in_ok-push.ensures.items raised in
    let free = top_raised l.places c.raise_top.new.places l.levels.items ys (push_top l.levels.items s) c.self.invariant.0 pushed in
    (subst (AreFree c.raise_top.new.places) (sym c.in_ok-push.ensures.items) free, bare_end _ _ (omega arith))
