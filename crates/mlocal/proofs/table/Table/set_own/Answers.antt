-- SPDX-License-Identifier: Apache-2.0
use Rattle.mlocal.proofs.LocalLaws.{[], ap, ◌∙◌, insert, put_at, none_read, OnOk-map}
use Rattle.mlocal.proofs.table.Table.set_own.Goals as goal

pub returns-in-Some-clause-ok : goal.returns-in-Some-clause-ok
returns-in-Some-clause-ok c =
    let at = c.in-Some.ensures in
    put_at c.self.inside.variables c.in-Some.index c.args.name.now c.index_mut.result.now c.set_own.new.self at.unique at.index c.index_mut.ensures.value _ c.self.view_is [] c.args.value c.set_own.ensures

pub returns-in-None-clause-ok : goal.returns-in-None-clause-ok
returns-in-None-clause-ok c =
    OnOk-map c.add.result (λ e. e ∙ ap (insert c.args.self.now c.args.name.now)
    (c.set_own-in-None.ensures ∙ ap (λ t. insert t [] c.args.value) (c.new-variable.ensures ∙ none_read c.self.inside.variables c.args.name.now c.in-None.ensures.index _ c.self.view_is)))
    c.add.ensures.ok
