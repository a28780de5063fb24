-- SPDX-License-Identifier: Apache-2.0
-- The code of a scope, as the pair of its fields.
use Rattle.std.specs.Prelude.{refl, List, Option}
use Rattle.std.specs.Coded.{Coded, code_by, coded×, coded_ℕ, coded_list, coded_option}
use Rattle.std.specs.FinMap.{FinMap, code}
use Rattle.std.specs.Cmp.Lexicographic.{slice_cmp}
use Rattle.std.specs.Ordering.{nat_cmp}
use Rattle.mspec.specs.Node.{Text}
use Rattle.mspec.specs.Trees.{Tree}
use Rattle.mspec.specs.Scopes.{Scope}

abbrev pub tree_code : Coded Tree
tree_code = code (coded_list (coded_list coded_ℕ)) (coded_list coded_ℕ)

abbrev pub scope_code : Coded Scope
scope_code =
    code_by (List Text × (Option (List Text) × (FinMap (slice_cmp nat_cmp) Tree × List (Text × Text))))
    (coded× (coded_list (coded_list coded_ℕ)) (coded× (coded_option (coded_list (coded_list coded_ℕ)))
    (coded× (code (coded_list coded_ℕ) tree_code) (coded_list (coded× (coded_list coded_ℕ) (coded_list coded_ℕ))))))
    (λ s. (s.names, (s.others, (s.trees, s.links)))) (λ p. record { names = p.0; others = p.1.0; trees = p.1.1.0; links = p.1.1.1 }) (λ _. refl)
