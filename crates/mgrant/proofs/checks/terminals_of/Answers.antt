-- SPDX-License-Identifier: Apache-2.0
use Rattle.mgrant.proofs.GrantWords.{◌≡◌, inr, false, take, refl, sym, ap, subst, ◌∙◌, arith, take_all, MatchBool-at_true, MatchBool-at_false, are_terminals}
use Rattle.mgrant.proofs.GrantWords.{HasTerminals, claims, claims_at, entries_seen, numbers}
use Rattle.mgrant.proofs.Parts.{claims_more, terminals_fail, terminals_all}
use Rattle.mgrant.proofs.checks.terminals_of.Goals as goal

pub returns-then-not-claim : goal.returns-then-not-claim
returns-then-not-claim c =
    let es = c.args.accounts.now in
    let i = c.loop-place.place in
    let e = c.index-accounts-place.result in
    let seen = claims 0 (entries_seen (take i es)) in
    let told = MatchBool-at_false _ _ c.if-not-claim.true (c.claim.ensures.claimed seen c.loop-place.invariant.0) in
    inr (refl, terminals_fail es i e c.loop-place-test.true (subst (λ ts. are_terminals (numbers (claims_at i ts seen)) ≡ false) (c.deref.ensures.value ∙ ap (λ x. x.terminals.items) c.index-accounts-place.is) told))

pub loop-place-preserved : goal.loop-place-preserved
loop-place-preserved c =
    let es = c.args.accounts.now in
    let i = c.loop-place.place in
    let e = c.index-accounts-place.result in
    let seen = claims 0 (entries_seen (take i es)) in
    let told = MatchBool-at_true _ _ c.if-not-claim.false (c.claim.ensures.claimed seen c.loop-place.invariant.0) in (
      subst (λ cs. HasTerminals cs c.claim.new.terminals.items)
          (ap (λ ts. claims_at i ts seen) (c.deref.ensures.value ∙ ap (λ x. x.terminals.items) c.index-accounts-place.is) ∙ sym (claims_more es i e c.loop-place-test.true)) told,
      c.claim.ensures.len ∙ c.loop-place.invariant.1,
    )

pub returns : goal.returns
returns c =
    let all : take c.loop-place.place c.args.accounts.now ≡ c.args.accounts.now = take_all _ _ (omega arith) in
    let has = subst (λ es. HasTerminals (claims 0 (entries_seen es)) c.loop-place.terminals.items) all c.loop-place.invariant.0 in
    (terminals_all (entries_seen c.args.accounts.now) c.loop-place.terminals.items has, has)
