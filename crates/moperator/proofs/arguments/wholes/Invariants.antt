-- SPDX-License-Identifier: Apache-2.0
use Rattle.moperator.proofs.OperatorWords.{[], drop, Result, Vec, Global, Yields, fault_of, Code}
use Rattle.std.proofs.Common.{ℤ}
use Rattle.mmeaning.specs.Functions as meaning
use Rattle.moperator.proofs.arguments.wholes.Given as goal

abbrev pub invariant-loop-argument : goal.invariant-loop-argument
invariant-loop-argument l =
    (r : Result (Vec ℤ Global) Code) → Yields fault_of (meaning.wholes l.wholes.items (drop l.argument-index l.arguments)) (λ (w : Vec ℤ Global). w.items) r
    → Yields fault_of (meaning.wholes [] l.arguments) (λ (w : Vec ℤ Global). w.items) r
