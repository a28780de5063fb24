-- SPDX-License-Identifier: Apache-2.0
use Rattle.mcommand.proofs.CommandWords.{◌≡◌, ◌++◌, map, into_iter_items}
use Rattle.std.proofs.Common.{drop}
use Rattle.mmeaning.specs.Parameters as meaning
use Rattle.mlocal.specs.Bindings.{binding_of, bindings_of}
use Rattle.mcommand.proofs.formals.paired.Given as goal

abbrev pub invariant-loop-name : goal.invariant-loop-name
invariant-loop-name l =
    bindings_of l.formals.items ++ meaning.paired (drop l.name-index l.names) (map binding_of (into_iter_items l.rest))
    ≡ meaning.paired l.names (map binding_of l.fn.bindings.items)
