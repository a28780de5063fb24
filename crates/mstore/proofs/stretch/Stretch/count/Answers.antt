-- SPDX-License-Identifier: Apache-2.0
use Rattle.mstore.proofs.stretch.Stretch.count.Goals as goal

pub returns-then-self-gt0 : goal.returns-then-self-gt0
returns-then-self-gt0 c m agree = c.clear.ensures m
