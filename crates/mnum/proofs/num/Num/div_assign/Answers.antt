-- SPDX-License-Identifier: Apache-2.0
use Rattle.mnum.proofs.NumWords.{quotient_of, units}
use Rattle.mnum.proofs.num.Num.div_assign.Goals as goal

pub returns : goal.returns
returns c = c.put_quotient.ensures.value (units c.args.other.now) (quotient_of (units c.args.self.now) (units c.args.other.now)) c.div_rounded.ensures
