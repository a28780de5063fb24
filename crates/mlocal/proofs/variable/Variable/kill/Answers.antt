-- SPDX-License-Identifier: Apache-2.0
use Rattle.mlocal.proofs.LocalLaws.{◌≡◌, ◌<◌, [], length, map, ap, sym, ◌∙◌, arith, from_entries, nat_tests, map_of, subscripts_cmp, significant_digits}
use Rattle.mlocal.proofs.LocalLaws.{without, beyond, with_own, more_behind, own_killed, other_killed, without_taken, no_list}
use Rattle.mlocal.proofs.variable.Variable.kill.Goals as goal

pub keys_from-requires : goal.keys_from-requires
keys_from-requires c = ap (subscripts_cmp significant_digits c.args.key.now) c.requires ∙ more_behind c.args.key.now beyond []

pub returns-then-is_empty-clause-ok : goal.returns-then-is_empty-clause-ok
returns-then-is_empty-clause-ok c =
    let v = c.self.inside in
    let none : c.args.key.now ≡ [] = no_list c.args.key.now (grind (arith, nat_tests, c.if-is_empty.ensures)) in
    ap (λ es. from_entries {R = subscripts_cmp significant_digits} (map (λ e. (e.0, e.1)) es)) c.clear.ensures.empty
    ∙ own_killed (map_of (λ x. x) v.values) v.own
    ∙ ap (without (with_own v.own (map_of (λ x. x) v.values))) (sym none)
    ∙ ap (λ t. without t c.args.key.now) c.self.view_is

pub returns-clause-ok : goal.returns-clause-ok
returns-clause-ok c =
    let v = c.self.inside in
    let key = c.args.key.now in
    let some : 0 < length key = grind (arith, nat_tests, c.if-is_empty.ensures) in
    let taken = rw (c.deref.ensures.value, c.in_ok-found.ensures, c.requires) at c.remove_all.ensures.taken in
    ap (with_own v.own) (without_taken v.values c.remove_all.new.values key c.self.invariant taken)
    ∙ other_killed (map_of (λ x. x) v.values) v.own key some
    ∙ ap (λ t. without t key) c.self.view_is

pub invariant_of-self-2 : goal.invariant_of-self-2
invariant_of-self-2 c = c.remove_all.ensures.subs c.self.invariant
