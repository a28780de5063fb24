-- SPDX-License-Identifier: Apache-2.0
use Rattle.mlocal.proofs.LocalLaws.{ap, ◌∙◌, insert, put_at, kept, none_read, OnOk-map, OnErr-map}
use Rattle.mlocal.proofs.table.Table.set.Goals as goal

pub returns-in-Some-clause-ok : goal.returns-in-Some-clause-ok
returns-in-Some-clause-ok c =
    let at = c.in-Some.ensures in
    OnOk-map c.set.result
    (put_at c.self.inside.variables c.in-Some.index c.args.name.now c.index_mut.result.now c.set.new.self at.unique at.index c.index_mut.ensures.value _ c.self.view_is c.args.key c.args.value)
    c.set.ensures.ok

pub returns-in-Some-clause-err : goal.returns-in-Some-clause-err
returns-in-Some-clause-err c =
    let at = c.in-Some.ensures in
    OnErr-map c.set.result (kept c.self.inside.variables c.in-Some.index c.args.name.now c.index_mut.result.now c.set.new.self at.unique at.index c.index_mut.ensures.value _ c.self.view_is)
    c.set.ensures.err

pub returns-in_ok-set-in-None-clause-ok : goal.returns-in_ok-set-in-None-clause-ok
returns-in_ok-set-in-None-clause-ok c =
    OnOk-map c.add.result (λ e. e ∙ ap (insert c.args.self.now c.args.name.now)
    (c.in_ok-set-in-None.ensures.ok ∙ ap (λ t. insert t c.args.key c.args.value) (c.new-variable.ensures ∙ none_read c.self.inside.variables c.args.name.now c.in-None.ensures.index _ c.self.view_is)))
    c.add.ensures.ok
