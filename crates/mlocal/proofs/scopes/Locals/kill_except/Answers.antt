-- SPDX-License-Identifier: Apache-2.0
use Rattle.mlocal.proofs.LocalLaws.{ap, ◌∙◌, bottom_of, stays, emptied, killed_except, kill-all, both_killed}
use Rattle.mlocal.proofs.scopes.Locals.kill_except.Goals as goal

pub returns : goal.returns
returns c =
    kill-all c.args.names.now c.self.inside.levels.items c.spare.new.levels.items (bottom_of c.self.inside.bottom) (bottom_of c.keep_spared.new.self)
    c.spare.ensures
    (ap bottom_of c.keep_spared.ensures ∙ ap (λ above. emptied (stays c.args.names.now above) (bottom_of c.self.inside.bottom)) c.as_slice.ensures.value)
    ∙ ap (killed_except c.args.names.now) c.self.view_is

pub invariant_of-self : goal.invariant_of-self
invariant_of-self c =
    let l = c.self.inside in
    both_killed l.places l.scoped c.args.names.now l.levels.items c.spare.new.levels.items c.spare.ensures c.self.invariant
