-- SPDX-License-Identifier: Apache-2.0
use Rattle.mlocal.proofs.LocalLaws.{◌≡◌, [], ◌∷◌, bottom_of, ◌+◌, ◌-◌, length, ap, ◌∙◌, arith, hide, newed, top-at, IsFree, IsRaised, set, set_top, subst}
use Rattle.mlocal.proofs.LocalLaws.{bare_top, top_raised}
use Rattle.mlocal.proofs.LocalLaws.{OnOk-map}
use Rattle.mlocal.proofs.Levels.{bottom_hidden}
use Rattle.mlocal.proofs.scopes.Locals.new_vars.Goals as goal

pub returns-then-count-eq0-clause-ok : goal.returns-then-count-eq0-clause-ok
returns-then-count-eq0-clause-ok c =
    bottom_hidden c.args.names.now c.self.inside.bottom c.drop_names.new.self c.drop_names.ensures c.self.inside.levels.items (omega arith)
    ∙ ap (newed c.args.names.now) c.self.view_is

pub returns-clause-ok : goal.returns-clause-ok
returns-clause-ok c =
    let at : c.len-count.result - 1 + 1 ≡ length c.self.inside.levels.items = omega arith in
    OnOk-map c.hide-changed.result (λ e. top-at (hide c.args.names.now) c.self.inside.levels.items (bottom_of c.self.inside.bottom ∷ [])
    (c.len-count.result - 1) c.index_mut.result.now c.hide-changed.new.self at
    (e ∙ ap (hide c.args.names.now) c.index_mut.ensures.value)
    ∙ ap (newed c.args.names.now) c.self.view_is) c.hide-changed.ensures.ok

pub invariant_of-self-2 : goal.invariant_of-self-2
invariant_of-self-2 c =
    let l = c.self.inside in
    let xs = l.levels.items in
    let i = c.len-count.result - 1 in
    let w = c.hide-changed.new.self in
    let at : i + 1 ≡ length xs = omega arith in
    let raised = subst (λ ts. IsRaised (IsFree (length ts - 1) ts) (length ts) l.places c.raise_top.new.places) c.as_slice.ensures.value c.raise_top.ensures in
    let free = top_raised l.places c.raise_top.new.places xs (set xs i w) (set_top xs i w at) c.self.invariant.0 raised in
    (free, bare_top c.len-count.result xs i w (omega arith))
