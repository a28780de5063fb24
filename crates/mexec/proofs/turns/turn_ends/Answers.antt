-- SPDX-License-Identifier: Apache-2.0
use Rattle.std.proofs.Common.{refl}
use Rattle.mexec.proofs.turns.turn_ends.Goals as goal

pub returns-in-GoOn : goal.returns-in-GoOn
returns-in-GoOn c = rw c.in-GoOn.is (record { ends = λ s. refl })

pub returns-in-Skips : goal.returns-in-Skips
returns-in-Skips c = rw c.in-Skips.is (record { ends = λ s. refl })

pub returns-in-Quits : goal.returns-in-Quits
returns-in-Quits c = rw c.in-Quits.is (record { ends = λ s. refl })

pub returns-in-Goes : goal.returns-in-Goes
returns-in-Goes c = rw c.in-Goes.is (record { ends = λ s. refl })

pub returns : goal.returns
returns c = rw c.in-Returns.is (record { ends = λ s. refl })
