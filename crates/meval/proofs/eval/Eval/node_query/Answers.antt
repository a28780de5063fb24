-- SPDX-License-Identifier: Apache-2.0
use Rattle.meval.proofs.EvalLaws.{[], Some, evaluates_then, evaluates_stopped, evaluates_gives, evaluates_owned, evaluates_wanting}
use Rattle.meval.proofs.EvalWords.{environment_of}
use Rattle.mgrammar.specs.NameValues.{global_text}
use Rattle.mmeaning.specs.Variables.{found_named}
use Rattle.meval.proofs.eval.Eval.node_query.Goals as goal

pub returns-in_err-next : goal.returns-in_err-next
returns-in_err-next g c =
    let asked = rw (c.account-account.ensures, c.as_bytes7-name.ensures.text, c.name.ensures, c.subscripts-subscripts.ensures) at c.in_err-next.ensures in
    evaluates_stopped (λ i found. found_named (global_text (environment_of i.account c.args.node.now) c.args.node.now.name) found) asked c.from_residual.ensures

pub returns-in-None : goal.returns-in-None
returns-in-None g c =
    let asked =
    rw (c.account-account.ensures, c.as_bytes7-name.ensures.text, c.name.ensures, c.subscripts-subscripts.ensures, c.in-None.is) at c.in_ok-next.ensures in
    evaluates_then (λ i found. found_named (global_text (environment_of i.account c.args.node.now) c.args.node.now.name) found) asked
    (evaluates_gives [] (λ v. v) _ c.next_value.ensures)

pub returns-in_err-front-in-Some : goal.returns-in_err-front-in-Some
returns-in_err-front-in-Some g c =
    let asked =
    rw (c.account-account.ensures, c.as_bytes7-name.ensures.text, c.name.ensures, c.subscripts-subscripts.ensures, c.in-Some.is) at c.in_ok-next.ensures in
    evaluates_then (λ i found. found_named (global_text (environment_of i.account c.args.node.now) c.args.node.now.name) found) asked
    (evaluates_wanting _ _ _ c.from_residual-in_err-front-in-Some.ensures)

pub returns-in_ok-front-in-Some : goal.returns-in_ok-front-in-Some
returns-in_ok-front-in-Some g c =
    let asked =
    rw (c.account-account.ensures, c.as_bytes7-name.ensures.text, c.name.ensures, c.subscripts-subscripts.ensures, c.in-Some.is) at c.in_ok-next.ensures in
    let named = rw (c.in_ok-front-in-Some.ensures, c.as_slice.ensures) at c.found_name.ensures in
    evaluates_then (λ i found. found_named (global_text (environment_of i.account c.args.node.now) c.args.node.now.name) found) asked
    (evaluates_owned (λ me. found_named (global_text (environment_of me c.args.node.now) c.args.node.now.name) (Some c.in-Some.found)) named)
