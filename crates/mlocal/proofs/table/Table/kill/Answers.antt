-- SPDX-License-Identifier: Apache-2.0
use Rattle.mlocal.proofs.LocalLaws.{None, ap, sym, ◌∙◌, kill_at, read, kept, some_left, none_left, OnErr-always}
use Rattle.mlocal.proofs.table.Table.kill.Goals as goal

pub returns-in_default-clause-ok : goal.returns-in_default-clause-ok
returns-in_default-clause-ok c =
    ap (λ o. kill_at c.args.name.now c.args.key.now o c.args.self.now) (read c.self.inside.variables c.args.name.now None (sym c.in_default.ensures.index) _ c.self.view_is)

pub returns-in_err-kill-clause-err : goal.returns-in_err-kill-clause-err
returns-in_err-kill-clause-err c =
    let at = c.in-Some.ensures in
    OnErr-always c.from_residual.result
    (kept c.self.inside.variables c.in-Some.index c.args.name.now c.index_mut-variable.result.now c.kill.new.self at.unique at.index c.index_mut-variable.ensures.value _ c.self.view_is c.in_err-kill.ensures.err)

pub returns-then-is_bare-clause-ok : goal.returns-then-is_bare-clause-ok
returns-then-is_bare-clause-ok c =
    let at = c.in-Some.ensures in
    c.hint_at.ensures ∙ none_left c.self.inside.variables c.in-Some.index c.args.name.now c.index_mut-variable.result.now c.kill.new.self at.unique at.index c.index_mut-variable.ensures.value _ c.self.view_is
    c.args.key.now c.in_ok-kill.ensures.ok (sym c.is_bare.ensures ∙ c.if-is_bare.true) c.swap_remove_index.new.self c.swap_remove_index.result c.swap_remove_index.ensures.entry c.swap_remove_index.ensures.updates

pub returns-else-is_bare-clause-ok : goal.returns-else-is_bare-clause-ok
returns-else-is_bare-clause-ok c =
    let at = c.in-Some.ensures in
    some_left c.self.inside.variables c.in-Some.index c.args.name.now c.index_mut-variable.result.now c.kill.new.self at.unique at.index c.index_mut-variable.ensures.value _ c.self.view_is
    c.args.key.now c.in_ok-kill.ensures.ok (sym c.is_bare.ensures ∙ c.if-is_bare.false)
