-- SPDX-License-Identifier: Apache-2.0
use Rattle.mgrant.proofs.GrantWords.{◌≡◌, ◌++◌, [], ◌∷◌, ◌<◌, false, Some, pos, get_or, set, take, length, sym, ap, subst, ◌∙◌, arith, rules, and_left}
use Rattle.mgrant.proofs.GrantWords.{is_within, HasTerminals, IsNumberWithin, claims_at}
use Rattle.mgrant.proofs.Parts.{claim_more, claim_step, claim_fails, claimed_twice, free_there}
use Rattle.mgrant.proofs.checks.claim.Goals as goal

pub returns-in_default-clause-claimed : goal.returns-in_default-clause-claimed
returns-in_default-clause-claimed c = λ seen had.
    let z = get_or c.args.listed.now c.loop-terminal.terminal-index (pos 0) in
    let bad : is_within 1 9999 z ≡ false = search rules in
    claim_fails c.args.place c.args.listed.now seen c.loop-terminal.terminal-index (pos 0) c.loop-terminal-test.true (and_left _ _ bad)

pub returns-then-is_some-clause-claimed : goal.returns-then-is_some-clause-claimed
returns-then-is_some-clause-claimed c = λ seen had.
    let z = get_or c.args.listed.now c.loop-terminal.terminal-index (pos 0) in
    let is : IsNumberWithin 9999 z c.in-Some.number = search rules in
    claim_fails c.args.place c.args.listed.now seen c.loop-terminal.terminal-index (pos 0) c.loop-terminal-test.true
    (claimed_twice (claims_at c.args.place (take c.loop-terminal.terminal-index c.args.listed.now) seen) z c.in-Some.number is c.loop-terminal.terminals.items (c.loop-terminal.invariant.0 seen had) (omega (arith, is.few)) c.index.result.now c.index.ensures (sym c.is_some.ensures ∙ c.if-is_some.true))

pub loop-terminal-preserved : goal.loop-terminal-preserved
loop-terminal-preserved c = (
  λ seen had.
      let z = get_or c.args.listed.now c.loop-terminal.terminal-index (pos 0) in
      let is : IsNumberWithin 9999 z c.in-Some.number = search rules in
      let room : c.in-Some.number < length c.loop-terminal.terminals.items = omega (arith, is.few) in
      let more = claim_more (claims_at c.args.place (take c.loop-terminal.terminal-index c.args.listed.now) seen) c.loop-terminal.terminals.items c.in-Some.number c.args.place (c.loop-terminal.invariant.0 seen had)
      (ap (is_within 1 9999) (sym is.is) ∙ is.good) room (free_there c.loop-terminal.terminals.items c.in-Some.number room c.index.result.now c.index.ensures (sym c.is_some.ensures ∙ c.if-is_some.false)) in
      subst (λ cs. HasTerminals cs (set c.loop-terminal.terminals.items c.in-Some.number (Some c.args.place)))
      (ap (λ t. claims_at c.args.place (take c.loop-terminal.terminal-index c.args.listed.now) seen ++ (t, c.args.place) ∷ []) (sym is.is) ∙ sym (claim_step c.args.place c.args.listed.now seen c.loop-terminal.terminal-index (pos 0) c.loop-terminal-test.true)) more,
  c.loop-terminal.invariant.1,
)
