-- SPDX-License-Identifier: Apache-2.0
use Rattle.mstore.proofs.stretch.copy_of.Goals as goal

pub returns : goal.returns
returns c = c.in_ok-copy.ensures.items_if_clones_equal (λ x y e. e)
