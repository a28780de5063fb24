-- SPDX-License-Identifier: Apache-2.0
use Rattle.std.proofs.Common.{◌≡◌, ◌++◌, drop}
use Rattle.mgrammar.specs.NameValues.{more_subscripts}
use Rattle.moperator.proofs.name_texts.push_more.Given as goal

abbrev pub invariant-loop-value : goal.invariant-loop-value
invariant-loop-value l = l.out ++ more_subscripts (drop l.value-index l.values) ≡ l.fn.out ++ more_subscripts l.values
