-- SPDX-License-Identifier: Apache-2.0
use Rattle.mnum.proofs.NumWords.{◌≡◌, ◌∙◌, ◌<◌, All, ap, sym, subst}
use Rattle.std.specs.Prelude.{reverse}
use Rattle.std.specs.List.{each_same}
use Rattle.mnum.proofs.Reversals.{all_reversed}
use Rattle.mnum.proofs.bytes.Bytes7.reversed.Goals as goal

turned : (c : goal.After-reverse) → c.reverse.new.self.items ≡ reverse c.self.inside.bytes.items
turned c = c.reverse.ensures.items ∙ ap reverse (each_same c.self.inside.bytes.items c.in_ok-bytes.bytes.items c.in_ok-bytes.ensures.cases.0)

pub returns : goal.returns
returns c = turned c ∙ ap reverse c.self.view_is

pub invariant_of-result : goal.invariant_of-result
invariant_of-result c = subst (All (λ byte. byte < 128)) (sym (turned c)) (all_reversed (λ byte. byte < 128) c.self.inside.bytes.items c.self.invariant)
