-- SPDX-License-Identifier: Apache-2.0
use Rattle.mworld.proofs.WorldWords.{refl, rules, sym, ap, level_begun}
use Rattle.mworld.proofs.Runs.{ran_over, not_run}
use Rattle.mworld.proofs.session_run.run_over.Goals as goal

pub returns-in_default-clause-ran : goal.returns-in_default-clause-ran
returns-in_default-clause-ran g c = not_run refl refl refl

pub returns-clause-ran : goal.returns-clause-ran
unfolding level_begun
returns-clause-ran g c =
    let keeps = c.run_text-ending.ensures.does.keeps in
    let session = sym keeps.eval.session in
    let store = sym keeps.eval.store in
    let locks = sym keeps.locks in
    let out = sym keeps.out in
    ran_over c.run_text-ending.ensures.does c.steps_of-steps.ensures c.taken-out.ensures
    (ap (λ locals. record { locals = locals; naked = c.args.session.now.naked; test = c.args.session.now.test; cursor = c.args.session.now.cursor }) c.in-Ok.ensures.ok) (search rules) (search rules) (search rules) (search rules)
