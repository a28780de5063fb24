-- SPDX-License-Identifier: Apache-2.0
use Rattle.mtext.proofs.TextWords.{Some, None}
use Rattle.mtext.proofs.FoundPlaces.{find_is}
use Rattle.mtext.proofs.functions.find.Goals as goal

pub returns-in-None : goal.returns-in-None
returns-in-None c =
    find_is c.args.text.now c.args.what.now c.args.from c.begin_at-start.result c.within.result None
    c.begin_at-start.ensures.value c.within.ensures c.in-None.ensures

pub returns-in-Some : goal.returns-in-Some
returns-in-Some c =
    find_is c.args.text.now c.args.what.now c.args.from c.begin_at-start.result c.within.result (Some c.in-Some.before)
    c.begin_at-start.ensures.value c.within.ensures c.in-Some.ensures
