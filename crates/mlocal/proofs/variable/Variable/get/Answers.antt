-- SPDX-License-Identifier: Apache-2.0
use Rattle.mlocal.proofs.LocalLaws.{◌≡◌, ◌<◌, [], length, ap, sym, ◌∙◌, arith, nat_tests, map_of, significant_digits, found_is_had, subscripts_cmp_total}
use Rattle.mlocal.proofs.LocalLaws.{others_there, shown, no_list}
use Rattle.std.specs.FinMap.{get}
use Rattle.mlocal.proofs.variable.Variable.get.Goals as goal

pub returns-then-is_empty : goal.returns-then-is_empty
returns-then-is_empty c =
    let none : c.args.key.now ≡ [] = no_list c.args.key.now (grind (arith, nat_tests, c.if-is_empty.ensures)) in
    c.own.ensures ∙ ap (get c.args.self.now) (sym none)

pub returns : goal.returns
returns c =
    let key = c.args.key.now in
    let some : 0 < length key = grind (arith, nat_tests, c.if-is_empty.ensures) in
    shown c.get.result ∙ c.get.ensures.value ∙ found_is_had (subscripts_cmp_total significant_digits) c.self.inside.values key
    ∙ others_there c.self.inside.own (map_of (λ x. x) c.self.inside.values) key some ∙ ap (λ t. get t key) c.self.view_is
