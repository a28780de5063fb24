-- SPDX-License-Identifier: Apache-2.0
use Rattle.mstore.proofs.stretch.Stretch.settle.Goals as goal

pub returns-then-not-is_done-clause-kept : goal.returns-then-not-is_done-clause-kept
returns-then-not-is_done-clause-kept c m agree = c.clear.ensures m
