-- SPDX-License-Identifier: Apache-2.0
use Rattle.meval.proofs.EvalLaws.{◌∙◌, Option, Text, sym, subst, name_view, walk_view, standing_of, evaluates_refused, evaluates_seen, asks_locals}
use Rattle.meval.proofs.EvalLaws.{residual_is}
use Rattle.meval.proofs.EvalWords.{List}
use Rattle.mspec.specs.Access.{Read}
use Rattle.mspec.specs.Scopes.{next_node}
use Rattle.mspec.specs.Trees.{Forward}
use Rattle.meval.specs.Copies.{IsCopy}
use Rattle.meval.specs.Places.{IsOpen}
use Rattle.meval.proofs.MergeRuns.{are_asked, asked_in_vain}
use Rattle.meval.proofs.eval.Eval.next_after.Goals as goal

pub following-requires : goal.following-requires
following-requires g c = are_asked c.args.at.now c.requires.subscripts

pub returns-in_ok-next-in-Local : goal.returns-in_ok-next-in-Local
returns-in_ok-next-in-Local g c =
    let found = rw c.as_name.ensures at c.in_ok-found-in-Local.ensures in
    rw c.in-Local.is
    (asks_locals (λ l. next_node l Forward (name_view c.in-Local.name) c.args.at.now) (λ next. next) _ (c.in_ok-next-in-Local.ensures ∙ found))

pub node_following-requires-clause-account : goal.node_following-requires-clause-account
node_following-requires-clause-account g c = rw c.account-account.ensures ((subst IsCopy c.in-Node.is c.requires.copy).0)

pub node_following-requires-clause-subscripts : goal.node_following-requires-clause-subscripts
node_following-requires-clause-subscripts g c = are_asked c.args.at.now c.requires.subscripts

pub node_following-requires-clause-allowed : goal.node_following-requires-clause-allowed
node_following-requires-clause-allowed g c =
    rw (c.account-account.ensures, c.as_bytes7-name.ensures.text, c.name.ensures)
    (subst (λ w. IsOpen (standing_of c.args.self.now) Read (walk_view w)) c.in-Node.is c.requires.allowed)

pub returns-in_err-found-in-Node : goal.returns-in_err-found-in-Node
returns-in_err-found-in-Node g c =
    let asked = rw (c.account-account.ensures, c.as_bytes7-name.ensures.text, c.name.ensures) at c.in_err-found-in-Node.ensures in
    rw (c.in-Node.is, residual_is _ _ c.from_residual-in_err-found-in-Node.ensures) (evaluates_refused (λ (o : Option (List Text)). o) asked)

pub returns-in_err-next-in-Node : goal.returns-in_err-next-in-Node
returns-in_err-next-in-Node g c =
    let asked = rw (c.account-account.ensures, c.as_bytes7-name.ensures.text, c.name.ensures) at c.in_ok-found-in-Node.ensures in
    rw c.in-Node.is (asked_in_vain (λ (o : Option (List Text)). o) asked c.from_residual-in_err-next-in-Node.ensures)

pub returns-in_ok-next-in-Node : goal.returns-in_ok-next-in-Node
returns-in_ok-next-in-Node g c =
    let asked = rw (c.account-account.ensures, c.as_bytes7-name.ensures.text, c.name.ensures) at c.in_ok-found-in-Node.ensures in
    rw c.in-Node.is (evaluates_seen _ _ (sym c.in_ok-next-in-Node.ensures) asked)
