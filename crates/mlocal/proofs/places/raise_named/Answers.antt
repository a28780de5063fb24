-- SPDX-License-Identifier: Apache-2.0
use Rattle.mlocal.proofs.LocalLaws.{◌≡◌, ◌+◌, ◌∷◌, ◌||◌, ap, ◌∙◌, sym, arith, refl, drop, drop-cons, drop_all, add-one, get_or, is_among, keys_of, text_eq}
use Rattle.mlocal.proofs.LocalLaws.{one_raised}
use Rattle.mlocal.proofs.places.raise_named.Goals as goal

pub loop-entry-init : goal.loop-entry-init
loop-entry-init c = λ n lt. (refl, refl)

pub loop-entry-preserved : goal.loop-entry-preserved
loop-entry-preserved c =
    let es = c.args.named.now in
    let i = c.loop-entry.entry-index in
    let e = c.entry-item.result in
    one_raised (λ n. is_among (keys_of (drop i es)) n ≡ is_among (keys_of es) n) (λ n. is_among (keys_of (drop (i + 1) es)) n ≡ is_among (keys_of es) n)
    c.args.place _ _ _ e.0 (omega arith) c.slot_of.ensures.slot c.loop-entry.invariant
    (λ n other had. ap (λ b. b || is_among (keys_of (drop (i + 1) es)) n) (sym other)
    ∙ ap (λ x. text_eq n x.0 || is_among (keys_of (drop (i + 1) es)) n) c.entry-item.is
    ∙ ap (λ k. is_among (keys_of (get_or es i e ∷ drop k es)) n) (add-one i)
    ∙ ap (λ l. is_among (keys_of l) n) (sym (drop-cons es i e c.loop-entry-test.true)) ∙ had)

pub returns : goal.returns
returns c = λ n lt.
    let had = c.loop-entry.invariant n lt in
    (had.0, sym had.1 ∙ ap (λ l. is_among (keys_of l) n) (drop_all c.loop-entry.entry-index c.args.named.now (omega arith)))
