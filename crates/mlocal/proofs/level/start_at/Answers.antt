-- SPDX-License-Identifier: Apache-2.0
use Rattle.mlocal.proofs.LocalLaws.{arith, ap, get_or}
use Rattle.mlocal.proofs.level.start_at.Goals as goal

pub returns-clause-free : goal.returns-clause-free
returns-clause-free c = λ k d le lt.
    let there = ap (λ i. get_or c.args.places.now i 0) c.requires.slot in
    c.requires.free c.args._name.now k d (omega (arith, le, lt, there)) lt
