-- SPDX-License-Identifier: Apache-2.0
use Rattle.std.proofs.lemmas.Option.{slice_get_read}
use Rattle.meval.proofs.EvalWords.{Option, Text, Yields, fault_of, length, refl, subst, sym, units}
use Rattle.mmeaning.specs.Variables.{added_of}
use Rattle.meval.proofs.counting.added.Goals as goal

pub returns-in-Some : goal.returns-in-Some
returns-in-Some c =
    let found = c.in-Some.ensures.lookup in
    let is = slice_get_read c.args.more.now (length c.args.more.now) 0 c.in-Some.value.now refl found.3.0 found.1 in
    subst (λ (o : Option Text). Yields fault_of (added_of o) units c.number_of.result) (sym is) c.number_of.ensures.number
