-- SPDX-License-Identifier: Apache-2.0
use Rattle.mlocal.proofs.LocalLaws.{◌≡◌, ◌++◌, [], arith, ap, sym, ◌∙◌, spared}
use Rattle.std.proofs.lemmas.List.{nil_from_length}
use Rattle.mlocal.proofs.NamedTrees.{fresh_spared, not_among}
use Rattle.mlocal.proofs.named.add_names.Goals as goal

pub returns-then-count-eq0-clause-ok : goal.returns-then-count-eq0-clause-ok
returns-then-count-eq0-clause-ok c =
    let none : c.args.named.now.items ≡ [] = nil_from_length c.args.named.now.items (omega arith) in
    let p = not_among c.args.names.now in
    fresh_spared p c.args.fresh.items c.requires ∙ ap (λ l. spared p (l ++ c.args.fresh.items)) (sym none)
