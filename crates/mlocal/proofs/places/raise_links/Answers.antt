-- SPDX-License-Identifier: Apache-2.0
use Rattle.mlocal.proofs.LocalLaws.{◌≡◌, ◌+◌, ◌∷◌, Some, ap, ◌∙◌, sym, arith, cond, drop, drop-cons, drop_all, add-one, get_or}
use Rattle.mlocal.proofs.LocalLaws.{lookup, text_eq, one_raised}
use Rattle.mlocal.proofs.places.raise_links.Goals as goal

pub loop-link-preserved : goal.loop-link-preserved
loop-link-preserved c =
    let links = c.args.links.now in
    let i = c.loop-link.link-index in
    let e = c.link-item.result in
    one_raised (λ n. lookup (text_eq n) (drop i links) ≡ lookup (text_eq n) links) (λ n. lookup (text_eq n) (drop (i + 1) links) ≡ lookup (text_eq n) links)
    c.args.place _ _ _ e.0 (omega arith) c.slot_of.ensures.slot c.loop-link.invariant
    (λ n other had. ap (λ b. cond b (Some e.1) (lookup (text_eq n) (drop (i + 1) links))) (sym other)
    ∙ ap (λ x. lookup (text_eq n) (x ∷ drop (i + 1) links)) c.link-item.is
    ∙ ap (λ k. lookup (text_eq n) (get_or links i e ∷ drop k links)) (add-one i)
    ∙ ap (lookup (text_eq n)) (sym (drop-cons links i e c.loop-link-test.true)) ∙ had)

pub returns : goal.returns
returns c = λ n lt.
    let had = c.loop-link.invariant n lt in
    (had.0, sym had.1 ∙ ap (lookup (text_eq n)) (drop_all c.loop-link.link-index c.args.links.now (omega arith)))
