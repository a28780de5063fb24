-- SPDX-License-Identifier: Apache-2.0
use Rattle.mlocal.proofs.LocalLaws.{arith}
use Rattle.mlocal.proofs.level.start_of.Goals as goal

pub returns-in-None-clause-free : goal.returns-in-None-clause-free
returns-in-None-clause-free c = λ k d le lt. absurd (omega (arith, le, lt))
