-- SPDX-License-Identifier: Apache-2.0
use Rattle.mlocal.proofs.LocalLaws.{◌<◌, [], Some, length, sym, ap, ◌∙◌, option_map, arith, nat_tests, no_list, subscripts_cmp, significant_digits}
use Rattle.std.specs.FinMap as map
use Rattle.std.specs.Option.{option_or}
use Rattle.mspec.specs.Trees as trees
use Rattle.mspec.specs.Trees.{following}
use Rattle.mkey.proofs.Searches.{none_are}
use Rattle.mlocal.proofs.Searches.{before_all, nothing_before, passed_walk}
use Rattle.mlocal.proofs.variable.Variable.last_before.Goals as goal

pub returns-then-is_empty : goal.returns-then-is_empty
returns-then-is_empty c =
    let none = no_list c.args.subs.now (grind (arith, nat_tests, c.if-is_empty.ensures)) in
    nothing_before c.args.self.now ∙ ap (λ xs. following trees.Backward xs (map.keys c.args.self.now)) (sym none)

pub build-requires : goal.build-requires
build-requires c = none_are

pub last_between-requires-clause-forward : goal.last_between-requires-clause-forward
last_between-requires-clause-forward c =
    let some : 0 < length c.args.subs.now = grind (arith, nat_tests, c.if-is_empty.ensures) in
    ap (λ low. subscripts_cmp significant_digits low c.in_ok-high.high) c.in_ok-low.ensures.key
    ∙ ap (subscripts_cmp significant_digits []) c.in_ok-high.ensures ∙ before_all c.args.subs.now some

pub returns-in_default : goal.returns-in_default
returns-in_default c =
    let some : 0 < length c.args.subs.now = grind (arith, nat_tests, c.if-is_empty.ensures) in
    c.own_subs.ensures
    ∙ ap (λ r. option_or r (option_map (λ x. []) (map.get c.args.self.now []))) (ap (option_map (λ k. k.now)) (sym c.in_default.is))
    ∙ passed_walk c.args.self.now c.self.inside.own c.self.inside.values c.self.view_is c.last_between.ensures.ordered c.self.invariant c.args.subs.now some
    c.in_ok-low.low c.in_ok-high.high c.in_ok-low.ensures.key c.in_ok-high.ensures (option_map (λ k. k.now) c.last_between.result) c.last_between.ensures.key

pub returns : goal.returns
returns c =
    let some : 0 < length c.args.subs.now = grind (arith, nat_tests, c.if-is_empty.ensures) in
    ap Some c.in_ok-found.ensures
    ∙ ap (λ r. option_or r (option_map (λ x. []) (map.get c.args.self.now []))) (ap (option_map (λ k. k.now)) (sym c.in-Some.is))
    ∙ passed_walk c.args.self.now c.self.inside.own c.self.inside.values c.self.view_is c.last_between.ensures.ordered c.self.invariant c.args.subs.now some
    c.in_ok-low.low c.in_ok-high.high c.in_ok-low.ensures.key c.in_ok-high.ensures (option_map (λ k. k.now) c.last_between.result) c.last_between.ensures.key
