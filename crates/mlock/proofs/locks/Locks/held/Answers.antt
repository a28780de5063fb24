-- SPDX-License-Identifier: Apache-2.0
use Rattle.mlock.proofs.LockWords.{ap, sym, ◌∙◌, unwrap_or, held, count}
use Rattle.mlock.proofs.Steps.{get_own, get_other, get_none}
use Rattle.mlock.proofs.locks.Locks.held.Goals as goal

pub returns-then-holding-terminal-clause-count : goal.returns-then-holding-terminal-clause-count
returns-then-holding-terminal-clause-count c =
    sym (ap (λ o. unwrap_or o 0) (get_own c.self.inside.holdings c.self.invariant.0.unique c.args.name.now c.args.terminal c.in-Some.holding.now c.in-Some.ensures.value c.if-holding-terminal.true))
    ∙ ap (λ l. count l (held c.args.terminal c.args.name.now)) c.self.view_is

pub returns-else-holding-terminal-clause-count : goal.returns-else-holding-terminal-clause-count
returns-else-holding-terminal-clause-count c =
    sym (ap (λ o. unwrap_or o 0) (get_other c.self.inside.holdings c.self.invariant.0.unique c.args.name.now c.args.terminal c.in-Some.holding.now c.in-Some.ensures.value c.if-holding-terminal.false))
    ∙ ap (λ l. count l (held c.args.terminal c.args.name.now)) c.self.view_is

pub returns-in-None-clause-count : goal.returns-in-None-clause-count
returns-in-None-clause-count c =
    sym (ap (λ o. unwrap_or o 0) (get_none c.self.inside.holdings c.self.invariant.0.unique c.args.name.now c.args.terminal c.in-None.ensures.value))
    ∙ ap (λ l. count l (held c.args.terminal c.args.name.now)) c.self.view_is

pub returns-then-holding-terminal-clause-few : goal.returns-then-holding-terminal-clause-few
returns-then-holding-terminal-clause-few c =
    let h = c.in-Some.holding.now in
    (c.self.invariant.1 (held c.args.terminal c.args.name.now) h.count (get_own c.self.inside.holdings c.self.invariant.0.unique c.args.name.now c.args.terminal h c.in-Some.ensures.value c.if-holding-terminal.true)).1
