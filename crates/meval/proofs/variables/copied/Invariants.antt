-- SPDX-License-Identifier: Apache-2.0
use Rattle.meval.proofs.EvalWords.{◌≡◌, take}
use Rattle.meval.proofs.variables.copied.Given as goal

abbrev pub invariant-loop-name : goal.invariant-loop-name
invariant-loop-name l = l.copies.items ≡ take l.name-index l.names
