-- SPDX-License-Identifier: Apache-2.0
use Rattle.mlocal.proofs.LocalLaws.{◌≡◌, ◌<◌, [], length, ap, sym, subst, ◌∙◌, arith, All, insert, keys_of, nat_tests, All-keys-insert_entry, map_of}
use Rattle.mlocal.proofs.LocalLaws.{subscripts_cmp, significant_digits, insert-map_of, subscripts_cmp_total, subscripts_cmp_exact, with_own, AreSomeSubs}
use Rattle.mlocal.proofs.LocalLaws.{other_set, no_list}
use Rattle.mlocal.proofs.variable.Variable.set.Goals as goal

pub returns-then-is_empty-clause-ok : goal.returns-then-is_empty-clause-ok
returns-then-is_empty-clause-ok c =
    let none : c.args.key ≡ [] = no_list c.args.key (grind (arith, nat_tests, c.if-is_empty.ensures)) in
    c.set_own.ensures ∙ ap (λ k. insert c.args.self.now k c.args.value) (sym none)

pub returns-clause-ok : goal.returns-clause-ok
returns-clause-ok c =
    let v = c.self.inside in
    let some : 0 < length c.args.key = grind (arith, nat_tests, c.if-is_empty.ensures) in
    ap (with_own v.own) (insert-map_of (subscripts_cmp_total significant_digits) (λ text. text) (subscripts_cmp_exact significant_digits) v.values c.insert.new.self c.args.key c.args.value c.in_ok-insert.ensures.updates)
    ∙ other_set (map_of (λ x. x) v.values) v.own c.args.key c.args.value some
    ∙ ap (λ t. insert t c.args.key c.args.value) c.self.view_is

pub invariant_of-self-2 : goal.invariant_of-self-2
invariant_of-self-2 c =
    let some : 0 < length c.args.key = grind (arith, nat_tests, c.if-is_empty.ensures) in
    subst (λ es. All AreSomeSubs (keys_of es)) (sym c.in_ok-insert.ensures.entries)
    (All-keys-insert_entry (subscripts_cmp significant_digits) c.args.key c.args.value AreSomeSubs c.self.inside.values.entries c.self.invariant (c.requires, some))
