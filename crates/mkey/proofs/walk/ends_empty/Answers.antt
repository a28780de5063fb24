-- SPDX-License-Identifier: Apache-2.0
use Rattle.mkey.proofs.KeyWords.{length, ◌==◌, sym, ap, ◌∙◌, arith, nat_tests}
use Rattle.mspec.specs.Trees.{ends_empty}
use Rattle.mkey.proofs.Children.{no_list}
use Rattle.mkey.proofs.Searches.{ends_told}
use Rattle.mkey.proofs.walk.ends_empty.Goals as goal

pub returns-then-is_empty : goal.returns-then-is_empty
returns-then-is_empty c = sym (ap ends_empty (no_list c.args.subs.now (grind (arith, nat_tests, c.if-is_empty.ensures))))

pub returns : goal.returns
returns c =
    ends_told c.args.subs.now c.is_empty-2.result (grind (arith, nat_tests, c.if-is_empty.ensures))
    (c.is_empty-2.ensures ∙ ap (λ x. length x == 0) c.last.ensures)
