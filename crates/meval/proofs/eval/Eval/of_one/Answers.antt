-- SPDX-License-Identifier: Apache-2.0
use Rattle.meval.proofs.EvalLaws.{refl, name_view, evaluates_gives, asks_locals}
use Rattle.meval.proofs.EvalWords.{Bool, false}
use Rattle.mspec.specs.Globals.{is_beside}
use Rattle.mspec.specs.Scopes.{are_one}
use Rattle.meval.proofs.eval.Eval.of_one.Goals as goal

pub returns-in-Local-Local : goal.returns-in-Local-Local
returns-in-Local-Local g c =
    let told = rw (c.as_name-mine.ensures, c.as_name-theirs.ensures) at c.are_one.ensures in
    rw (c.in-Local-Local.is-0, c.in-Local-Local.is-1)
    (asks_locals (λ l. are_one l (name_view c.in-Local-Local.one) (name_view c.in-Local-Local.other)) (λ (b : Bool). b) _ told)

pub returns-in-Node-Node : goal.returns-in-Node-Node
returns-in-Node-Node g c =
    rw (c.in-Node-Node.is-0, c.in-Node-Node.is-1)
    (evaluates_gives (is_beside c.in-Node-Node.one c.in-Node-Node.other) (λ (b : Bool). b) _ c.is_beside.ensures)

pub returns-in-Local-Node : goal.returns-in-Local-Node
returns-in-Local-Node g c = rw (c.in-Local-Node.is-0, c.in-Local-Node.is-1) (evaluates_gives false (λ (b : Bool). b) _ refl)

pub returns-in-Node-Local : goal.returns-in-Node-Local
returns-in-Node-Local g c = rw (c.in-Node-Local.is-0, c.in-Node-Local.is-1) (evaluates_gives false (λ (b : Bool). b) _ refl)
