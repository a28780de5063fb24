-- SPDX-License-Identifier: Apache-2.0
use Rattle.mlocal.proofs.LocalWords.{◌≡◌, length, formals, bindings_of}
use Rattle.mlocal.specs.Named.{bound_scope}
use Rattle.mlocal.proofs.named.bind_all.Given as goal

abbrev pub invariant-loop-name : goal.invariant-loop-name
invariant-loop-name l =
    formals (bindings_of l.bindings.items) (bound_scope l.named.items l.links.items)
    ≡ formals (bindings_of l.initial.bindings.items) (bound_scope l.initial.named.items l.initial.links.items)

abbrev pub decreases-loop-name : goal.decreases-loop-name
decreases-loop-name l = length l.bindings.items
