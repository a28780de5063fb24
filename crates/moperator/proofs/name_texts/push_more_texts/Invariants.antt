-- SPDX-License-Identifier: Apache-2.0
use Rattle.std.proofs.Common.{◌≡◌, ◌++◌, drop}
use Rattle.mgrammar.specs.NameValues.{more_subscripts}
use Rattle.moperator.proofs.name_texts.push_more_texts.Given as goal

abbrev pub invariant-loop-text : goal.invariant-loop-text
invariant-loop-text l = l.out ++ more_subscripts (drop l.text-index l.texts) ≡ l.fn.out ++ more_subscripts l.texts
