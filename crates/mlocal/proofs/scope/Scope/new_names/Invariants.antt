-- SPDX-License-Identifier: Apache-2.0
use Rattle.mlocal.proofs.LocalWords.{◌≡◌, ◌++◌, drop, not, has, filter}
use Rattle.mlocal.specs.Named.{without_texts}
use Rattle.mlocal.proofs.scope.Scope.new_names.Given as goal

abbrev pub invariant-loop-name : goal.invariant-loop-name
invariant-loop-name l =
    l.fresh.items ++ without_texts (filter (λ n. not (has l.self n)) (drop l.name-index l.names)) ≡ without_texts (filter (λ n. not (has l.self n)) l.names)
