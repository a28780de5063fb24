-- SPDX-License-Identifier: Apache-2.0
use Rattle.meval.proofs.EvalLaws.{[], Some, ap, sym, arith, nat_tests, nil_from_length, length, ◌∙◌, ◌≡◌, ◌>>◌, give, unless, set_naked, Node, are_subscripts}
use Rattle.meval.proofs.EvalLaws.{at_node, name_view, place_view, subst, IsAccountName, own_global, evaluates_failed, evaluates_then, evaluates_stopped}
use Rattle.meval.proofs.EvalLaws.{evaluates_gives, evaluates_yielded, no_account, own_let_in}
use Rattle.std.specs.Prelude.{◌<◌}
use Rattle.mspec.specs.Code as spec
use Rattle.mspec.specs.Subscripts.{is_account_name}
use Rattle.mgrant.specs.declared.mode.Mode.TheVariants as mode
use Rattle.meval.proofs.eval.Eval.own_place.Goals as goal

pub returns-then-is_empty-clause-does : goal.returns-then-is_empty-clause-does
returns-then-is_empty-clause-does g c =
    let n : Node = own_global c.args.self.now (name_view c.args.name) c.args.values in
    let zero : length c.name_of-own.result.now ≡ 0 = grind (arith, nat_tests, c.if-is_empty.ensures) in
    let none : n.account ≡ [] = sym c.name_of-own.ensures.name ∙ nil_from_length c.name_of-own.result.now zero in
    evaluates_failed (λ i _. unless spec.Zsub (are_subscripts n.subscripts) >> (set_naked (Some n) >> give (at_node n))) (no_account mode.Read n (ap is_account_name none))

pub returns-in_err-key-clause-does : goal.returns-in_err-key-clause-does
returns-in_err-key-clause-does g c =
    let n : Node = own_global c.args.self.now (name_view c.args.name) c.args.values in
    let some : 0 < length c.name_of-own.result.now = grind (arith, nat_tests, c.if-is_empty.ensures) in
    let account = subst IsAccountName c.name_of-own.ensures.name (c.name_of-own.ensures.named some) in
    let checked = rw c.as_slice.ensures at c.in_err-key.ensures.checked in
    evaluates_then (λ i _. unless spec.Zsub (are_subscripts n.subscripts) >> (set_naked (Some n) >> give (at_node n))) (own_let_in n.name n.subscripts account)
    (evaluates_stopped (λ i _. set_naked (Some n) >> give (at_node n)) (evaluates_yielded checked) c.from_residual.ensures)

pub returns-in_err-refer_own-clause-does : goal.returns-in_err-refer_own-clause-does
returns-in_err-refer_own-clause-does g c =
    let n : Node = own_global c.args.self.now (name_view c.args.name) c.args.values in
    let some : 0 < length c.name_of-own.result.now = grind (arith, nat_tests, c.if-is_empty.ensures) in
    let account = subst IsAccountName c.name_of-own.ensures.name (c.name_of-own.ensures.named some) in
    let checked = rw c.as_slice.ensures at c.in_ok-key.ensures.checked in
    evaluates_then (λ i _. unless spec.Zsub (are_subscripts n.subscripts) >> (set_naked (Some n) >> give (at_node n))) (own_let_in n.name n.subscripts account)
    (evaluates_then (λ i _. set_naked (Some n) >> give (at_node n)) (evaluates_yielded checked)
    (evaluates_stopped (λ i _. give (at_node n)) (rw c.name_of-own.ensures.name at c.in_err-refer_own.ensures) c.from_residual-in_err-refer_own.ensures))

pub returns-clause-does : goal.returns-clause-does
returns-clause-does g c =
    let n : Node = own_global c.args.self.now (name_view c.args.name) c.args.values in
    let some : 0 < length c.name_of-own.result.now = grind (arith, nat_tests, c.if-is_empty.ensures) in
    let account = subst IsAccountName c.name_of-own.ensures.name (c.name_of-own.ensures.named some) in
    let checked = rw c.as_slice.ensures at c.in_ok-key.ensures.checked in
    let key = rw (c.name_of-own.ensures.name, c.as_bytes7.ensures.text, c.as_name.ensures, c.as_slice.ensures) at c.in_ok-key.ensures.key in
    evaluates_then (λ i _. unless spec.Zsub (are_subscripts n.subscripts) >> (set_naked (Some n) >> give (at_node n))) (own_let_in n.name n.subscripts account)
    (evaluates_then (λ i _. set_naked (Some n) >> give (at_node n)) (evaluates_yielded checked)
    (evaluates_then (λ i _. give (at_node n)) (rw c.name_of-own.ensures.name at c.in_ok-refer_own.ensures) (evaluates_gives (at_node n) place_view _ (ap at_node key))))
