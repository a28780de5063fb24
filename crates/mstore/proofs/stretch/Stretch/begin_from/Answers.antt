-- SPDX-License-Identifier: Apache-2.0
use Rattle.mstore.proofs.stretch.Stretch.begin_from.Goals as goal

pub returns : goal.returns
returns c m rest = c.clear.ensures m
