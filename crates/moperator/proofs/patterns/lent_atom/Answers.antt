-- SPDX-License-Identifier: Apache-2.0
use Rattle.std.proofs.Common.{sym}
use Rattle.std.proofs.lemmas.Bool.{ltb-true}
use Rattle.moperator.proofs.PatternWalk.{lent_first}
use Rattle.moperator.proofs.patterns.lent_atom.Goals as goal

pub returns : goal.returns
returns c =
    lent_first c.args.atoms.now c.args.index c.in_ok-atom.atom.now _ (ltb-true _ _ (sym c.in_ok-atom.ensures.lookup.0)) c.in_ok-atom.ensures.lookup.1 c.number.ensures c.lent_repeated.ensures
