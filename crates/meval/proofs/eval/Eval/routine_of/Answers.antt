-- SPDX-License-Identifier: Apache-2.0
use Rattle.std.specs.Prelude.{List, Some}
use Rattle.mspec.specs.Act.{Text, Act, ask}
use Rattle.mspec.specs.Plan.{Routine}
use Rattle.mtree.specs.declared.tree.SharedRoutine.{SharedRoutine}
use Rattle.meval.proofs.Calls.{evaluates_then, evaluates_stopped}
use Rattle.meval.proofs.eval.Eval.routine_of.Goals as goal

-- once it may be read
abbrev read : SharedRoutine → Act (List Text)
read r = ask (Routine (Some r.account) r.name)

pub returns-in_err-check_routines : goal.returns-in_err-check_routines
returns-in_err-check_routines g c = evaluates_stopped (λ i _. read c.args.routine.now) c.in_err-check_routines.ensures.does c.from_residual.ensures

pub returns : goal.returns
returns g c = evaluates_then (λ i _. read c.args.routine.now) c.in_ok-check_routines.ensures.does c.lines_of.ensures
