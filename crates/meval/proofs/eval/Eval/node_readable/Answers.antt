-- SPDX-License-Identifier: Apache-2.0
use Rattle.meval.proofs.EvalLaws.{Some, refl, ◌≡◌, ◌∙◌, ◌>>◌, List, Text, give, set_naked, Node, at_node, checked, reading, evaluates_then, evaluates_stopped, evaluates_failed}
use Rattle.meval.proofs.EvalLaws.{evaluates_gives, evaluates_wanting, is_free, not_free, node_of}
use Rattle.meval.proofs.EvalWords.{Place}
use Rattle.meval.proofs.Asking.{passes, refused}
use Rattle.mspec.specs.Code as spec
use Rattle.moperator.specs.declared.code.Code.TheVariants as code
use Rattle.meval.specs.Kept.{readable_view}
use Rattle.meval.proofs.eval.Eval.node_readable.Goals as goal

pub returns-in_err-check : goal.returns-in_err-check
returns-in_err-check g c =
    let n : Node = c.args.node in
    evaluates_stopped (λ i _. checked reading n.subscripts >> (set_naked (Some n) >> give (at_node n))) c.in_err-check.ensures.does c.from_residual.ensures

pub returns-in_err-values : goal.returns-in_err-values
returns-in_err-values g c =
    let n : Node = c.args.node in
    evaluates_then (λ i _. checked reading n.subscripts >> (set_naked (Some n) >> give (at_node n))) c.in_ok-check.ensures.does
    (evaluates_wanting _ _ _ c.from_residual-in_err-values.ensures)

pub returns-in_default : goal.returns-in_default
returns-in_default g c =
    let n : Node = c.args.node in
    let full = not_free _ _ c.in_default.is (rw c.in_ok-values.ensures at c.new.ensures.when) in
    evaluates_then (λ i _. checked reading n.subscripts >> (set_naked (Some n) >> give (at_node n))) c.in_ok-check.ensures.does
    (evaluates_failed (λ i _. set_naked (Some n) >> give (at_node n)) (refused (λ (u : Unit {0}). u) spec.Zsub _ code.Zsub full refl))

pub returns-in_err-name : goal.returns-in_err-name
returns-in_err-name g c =
    let n : Node = c.args.node in
    let are = is_free _ _ c.in-Some.is (rw c.in_ok-values.ensures at c.new.ensures.when) in
    evaluates_then (λ i _. checked reading n.subscripts >> (set_naked (Some n) >> give (at_node n))) c.in_ok-check.ensures.does
    (evaluates_then (λ i _. set_naked (Some n) >> give (at_node n)) (passes spec.Zsub _ are) (evaluates_wanting _ _ _ c.from_residual-in_err-name.ensures))

pub returns-in_err-refer : goal.returns-in_err-refer
returns-in_err-refer g c =
    let n : Node = c.args.node in
    let are = is_free _ _ c.in-Some.is (rw c.in_ok-values.ensures at c.new.ensures.when) in
    evaluates_then (λ i _. checked reading n.subscripts >> (set_naked (Some n) >> give (at_node n))) c.in_ok-check.ensures.does
    (evaluates_then (λ i _. set_naked (Some n) >> give (at_node n)) (passes spec.Zsub _ are)
    (evaluates_stopped (λ i _. give (at_node n)) c.in_err-refer.ensures.does c.from_residual-in_err-refer.ensures))

-- a node whose parts are these
same_node : (n : Node) (account name : Text) (xs : List Text) → account ≡ n.account → name ≡ n.name → xs ≡ n.subscripts → ◌≡◌ {A = Place} (at_node (node_of account name xs)) (at_node n)
same_node n account name xs a b c = rw (a, b, c) refl

pub returns : goal.returns
returns g c =
    let n : Node = c.args.node in
    let are = is_free _ _ c.in-Some.is (rw c.in_ok-values.ensures at c.new.ensures.when) in
    let xs = rw c.in_ok-values.ensures at c.in-Some.ensures.subscripts in
    let same = same_node n _ _ _ (c.of_name-account.ensures ∙ c.account.ensures) (c.in_ok-name.ensures ∙ c.name.ensures) xs in
    evaluates_then (λ i _. checked reading n.subscripts >> (set_naked (Some n) >> give (at_node n))) c.in_ok-check.ensures.does
    (evaluates_then (λ i _. set_naked (Some n) >> give (at_node n)) (passes spec.Zsub _ are)
    (evaluates_then (λ i _. give (at_node n)) c.in_ok-refer.ensures.does (evaluates_gives (at_node n) readable_view _ same)))
