-- SPDX-License-Identifier: Apache-2.0
use Rattle.mlocal.proofs.LocalWords.{◌≡◌, drop, lookup, text_eq}
use Rattle.mlocal.proofs.scope.Scope.link.Given as goal

abbrev pub invariant-loop-link : goal.invariant-loop-link
invariant-loop-link l = lookup (text_eq l.name) (drop l.link-index l.self.links) ≡ lookup (text_eq l.name) l.self.links
