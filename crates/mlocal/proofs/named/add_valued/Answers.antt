-- SPDX-License-Identifier: Apache-2.0
use Rattle.mlocal.proofs.LocalLaws.{[], ap, ◌∙◌, arith, insert}
use Rattle.mlocal.specs.Named.{bound_scope}
use Rattle.mlocal.proofs.NamedTrees.{first_at}
use Rattle.mlocal.proofs.NamedScopes.{bound_again, bound_new}
use Rattle.mlocal.proofs.named.add_valued.Goals as goal

pub returns-then-index-len : goal.returns-then-index-len
returns-then-index-len c = λ links.
    let es = c.args.named.now.items in
    let at = c.index_of-index.ensures ∙ ap (first_at c.args.name) c.as_slice.ensures.value in
    ap (λ l. bound_scope l links) c.in_ok-push.ensures.items
    ∙ bound_again es links c.args.name c.args.value c.index_of-index.result at c.new.result c.index_mut.result.now c.set_own.new.self (omega arith)
    c.index_mut.ensures.value c.new.ensures c.set_own.ensures

pub returns : goal.returns
returns c = λ links.
    let es = c.args.named.now.items in
    let at = c.index_of-index.ensures ∙ ap (first_at c.args.name) c.as_slice.ensures.value in
    ap (λ l. bound_scope l links) c.in_ok-push-2.ensures.items
    ∙ bound_new es links c.args.name c.args.value c.index_of-index.result at c.set_own-2.new.self (omega arith)
    (c.set_own-2.ensures ∙ ap (λ t. insert t [] c.args.value) c.new-variable.ensures)
