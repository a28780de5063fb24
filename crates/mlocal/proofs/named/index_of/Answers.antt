-- SPDX-License-Identifier: Apache-2.0
use Rattle.mlocal.proofs.LocalLaws.{◌≡◌, ◌+◌, true, false, ap, ◌∙◌, sym, arith, drop}
use Rattle.mlocal.proofs.NamedTrees.{first_at, all_searched, one_searched}
use Rattle.mlocal.proofs.named.index_of.Goals as goal

pub returns-then-eq : goal.returns-then-eq
returns-then-eq c =
    let n = c.args.name.now in
    let es = c.args.named.now in
    let i = c.loop-index.index in
    let one : first_at n (drop i es) ≡ 0 =
    one_searched n es i c.index-named-index.result true (omega arith) (sym c.eq.ensures ∙ c.if-eq.true) in
    let none : i + 0 ≡ i = omega arith in
    sym (c.loop-index.invariant ∙ ap (λ k. i + k) one ∙ none)

pub loop-index-preserved : goal.loop-index-preserved
loop-index-preserved c =
    let n = c.args.name.now in
    let es = c.args.named.now in
    let i = c.loop-index.index in
    let rest = first_at n (drop (i + 1) es) in
    let one : first_at n (drop i es) ≡ 1 + rest =
    one_searched n es i c.index-named-index.result false (omega arith) (sym c.eq.ensures ∙ c.if-eq.false) in
    let more : i + (1 + rest) ≡ (i + 1) + rest = omega arith in
    c.loop-index.invariant ∙ ap (λ k. i + k) one ∙ more

pub returns : goal.returns
returns c =
    let n = c.args.name.now in
    let es = c.args.named.now in
    let i = c.loop-index.index in
    let none : first_at n (drop i es) ≡ 0 = all_searched n es i (omega arith) in
    omega (arith, c.loop-index.invariant, none)
