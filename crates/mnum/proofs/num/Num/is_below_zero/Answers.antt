-- SPDX-License-Identifier: Apache-2.0
use Rattle.mnum.proofs.Places.{sign_is}
use Rattle.mnum.proofs.num.Num.is_below_zero.Goals as goal

pub returns-then-self : goal.returns-then-self
returns-then-self c = sign_is c.args.self.negative c.args.self.digits c.args.self.places c.if-self.true
