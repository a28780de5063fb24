-- SPDX-License-Identifier: Apache-2.0
use Rattle.mstore.proofs.Stretches.{no_rows_in}
use Rattle.mstore.proofs.stretch.Stretch.new.Goals as goal

pub returns : goal.returns
returns c m = no_rows_in m _ _ _ c.new-low.ensures.items c.new-high.ensures.items c.new-rows.ensures.items
