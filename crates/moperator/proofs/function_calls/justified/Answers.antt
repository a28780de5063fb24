-- SPDX-License-Identifier: Apache-2.0
use Rattle.moperator.proofs.OperatorWords.{subst, sym, Text, Yields, fault_of}
use Rattle.std.proofs.Common.{Option}
use Rattle.std.proofs.lemmas.Option.{slice_get_past}
use Rattle.moperator.proofs.GivenArguments.{argument_is}
use Rattle.mmeaning.specs.Functions.{justified}
use Rattle.moperator.proofs.function_calls.justified.Goals as goal

pub returns-in-None : goal.returns-in-None
returns-in-None c =
    subst (λ (x : Option Text). Yields fault_of (justified c.args.arguments.now x) (λ (v : Text). v) c.justified_text.result) (sym (slice_get_past c.args.arguments.now 2 c.in-None.ensures.lookup.3)) c.justified_text.ensures

pub returns-in-Some : goal.returns-in-Some
returns-in-Some c =
    let found = c.in-Some.ensures.lookup in
    subst (λ (x : Option Text). Yields fault_of (justified c.args.arguments.now x) (λ (v : Text). v) c.justified_number.result) (sym (argument_is c.args.arguments.now 2 c.in-Some.places.now found.3.0 found.1)) c.justified_number.ensures
