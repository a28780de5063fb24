-- SPDX-License-Identifier: Apache-2.0
use Rattle.mlocal.proofs.LocalLaws.{◌≡◌, [], ◌∷◌, bottom_of, ◌+◌, ◌-◌, length, ap, ◌∙◌, arith, hide_others, newed_except, is_among, retain_keys, top-at}
use Rattle.mlocal.proofs.LocalLaws.{IsFree, IsRaised, set}
use Rattle.mlocal.proofs.LocalLaws.{bare_top, set_top, subst, top_raised, OnOk-map}
use Rattle.mlocal.proofs.Levels.{bottom_others}
use Rattle.mlocal.proofs.scopes.Locals.new_except.Goals as goal

pub returns-then-count-eq0-clause-ok : goal.returns-then-count-eq0-clause-ok
returns-then-count-eq0-clause-ok c =
    bottom_others c.args.names.items c.self.inside.bottom c.keep_names.new.self
    (c.keep_names.ensures ∙ ap (λ l. retain_keys c.self.inside.bottom (is_among l)) c.as_slice.ensures.value)
    c.self.inside.levels.items (omega arith)
    ∙ ap (newed_except c.args.names.items) c.self.view_is

pub returns-clause-ok : goal.returns-clause-ok
returns-clause-ok c =
    let at : c.len-count.result - 1 + 1 ≡ length c.self.inside.levels.items = omega arith in
    OnOk-map c.hide_others-changed.result (λ e. top-at (hide_others c.args.names.items) c.self.inside.levels.items (bottom_of c.self.inside.bottom ∷ [])
    (c.len-count.result - 1) c.index_mut.result.now c.hide_others-changed.new.self at
    (e ∙ ap (hide_others c.args.names.items) c.index_mut.ensures.value)
    ∙ ap (newed_except c.args.names.items) c.self.view_is) c.hide_others-changed.ensures.ok

pub invariant_of-self-2 : goal.invariant_of-self-2
invariant_of-self-2 c =
    let l = c.self.inside in
    let xs = l.levels.items in
    let i = c.len-count.result - 1 in
    let w = c.hide_others-changed.new.self in
    let at : i + 1 ≡ length xs = omega arith in
    let raised = subst (λ ts. IsRaised (IsFree (length ts - 1) ts) (length ts) l.places c.raise_top.new.places) c.as_slice-2.ensures.value
    c.raise_top.ensures in
    let free = top_raised l.places c.raise_top.new.places xs (set xs i w) (set_top xs i w at) c.self.invariant.0 raised in
    (free, bare_top c.len-count.result xs i w (omega arith))
