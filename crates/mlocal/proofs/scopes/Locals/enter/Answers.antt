-- SPDX-License-Identifier: Apache-2.0
use Rattle.mlocal.proofs.LocalLaws.{[], ◌∷◌, ◌++◌, ap, ◌∙◌, both_entered}
use Rattle.mlocal.proofs.scopes.Locals.enter.Goals as goal

pub invariant_of-self-2 : goal.invariant_of-self-2
invariant_of-self-2 c =
    let l = c.self.inside in
    let pushed = c.in_ok-push.ensures.items ∙ ap (λ s. l.levels.items ++ s ∷ []) c.new.ensures in
    both_entered l.places l.scoped l.levels.items _ pushed c.self.invariant
