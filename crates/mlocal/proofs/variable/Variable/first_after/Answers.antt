-- SPDX-License-Identifier: Apache-2.0
use Rattle.mlocal.proofs.LocalLaws.{Some, sym, ap, ◌∙◌, option_map}
use Rattle.mlocal.proofs.Searches.{first_walk}
use Rattle.mlocal.proofs.variable.Variable.first_after.Goals as goal

pub returns-in_default : goal.returns-in_default
returns-in_default c =
    ap (option_map (λ k. k.now)) (sym c.in_default.is)
    ∙ first_walk c.args.self.now c.self.inside.own c.self.inside.values c.self.view_is c.first_behind.ensures.ordered c.self.invariant c.args.subs.now
    c.in_ok-low.low (c.in_ok-low.ensures.key ∙ c.without_empty.ensures.front) (option_map (λ k. k.now) c.first_behind.result) c.first_behind.ensures.key

pub returns : goal.returns
returns c =
    ap Some c.in_ok-found.ensures ∙ ap (option_map (λ k. k.now)) (sym c.in-Some.is)
    ∙ first_walk c.args.self.now c.self.inside.own c.self.inside.values c.self.view_is c.first_behind.ensures.ordered c.self.invariant c.args.subs.now
    c.in_ok-low.low (c.in_ok-low.ensures.key ∙ c.without_empty.ensures.front) (option_map (λ k. k.now) c.first_behind.result) c.first_behind.ensures.key
