-- SPDX-License-Identifier: Apache-2.0
use Rattle.mlocal.proofs.LocalLaws.{true, refl, [], ap, sym, ◌∙◌, is_some, subscripts_cmp, significant_digits, is_below, has_value, beyond, is_between}
use Rattle.mlocal.proofs.LocalLaws.{below_all, more_behind, any_walk, not_child, some_map, below_is}
use Rattle.mlocal.proofs.variable.Variable.data.Goals as goal

pub last_between-requires-clause-forward : goal.last_between-requires-clause-forward
last_between-requires-clause-forward c =
    ap (λ low. subscripts_cmp significant_digits low c.in_ok-end.end) c.in_ok-key.ensures.key ∙ ap (subscripts_cmp significant_digits c.args.subs.now) c.in_ok-end.ensures.key ∙ more_behind c.args.subs.now beyond []

pub returns-clause-value : goal.returns-clause-value
returns-clause-value c =
    c.is_some.ensures ∙ some_map (λ text. text.now) c.get.result ∙ ap is_some c.get.ensures ∙ ap (has_value c.args.self.now) c.in_ok-key.ensures.key

pub returns-clause-descendants : goal.returns-clause-descendants
returns-clause-descendants c =
    let subs = c.args.subs.now in
    c.is_some-2.ensures ∙ some_map (λ k. k.now) c.last_between.result ∙ ap is_some c.last_between.ensures.key
    ∙ any_walk c.args.self.now c.self.inside.own c.self.inside.values c.self.view_is c.last_between.ensures.ordered c.self.invariant
    (is_between c.in_ok-key.key c.in_ok-end.end) (is_below subs) (sym (below_is subs []) ∙ not_child (λ s. true) subs)
    (λ k is. ap (λ low. is_between low c.in_ok-end.end k) c.in_ok-key.ensures.key ∙ ap (λ high. is_between subs high k) c.in_ok-end.ensures.key
    ∙ below_all (λ s. true) (λ s sub. refl) subs k is ∙ below_is subs k)
