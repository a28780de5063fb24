-- SPDX-License-Identifier: Apache-2.0
use Rattle.mstore.proofs.Stretches.{no_rows_in}
use Rattle.mstore.proofs.stretch.Stretch.clear.Goals as goal

pub returns : goal.returns
returns c m = no_rows_in m _ _ _ c.clear-2.ensures.items c.clear-3.ensures.items c.clear.ensures.items
