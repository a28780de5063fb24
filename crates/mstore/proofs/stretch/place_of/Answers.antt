-- SPDX-License-Identifier: Apache-2.0
use Rattle.mstore.proofs.Words.{rules, IsPartitionPoint-from_clause}
use Rattle.mstore.specs.Stretch.{comes_before}
use Rattle.mstore.proofs.Within.{parted}
use Rattle.mstore.proofs.stretch.place_of.Goals as goal

pub returns-clause-place : goal.returns-clause-place
returns-clause-place c in_order =
    IsPartitionPoint-from_clause (comes_before c.args.bytes.now) c.args.rows.now _ c.partition_point.ensures.partitioned
    (parted c.args.rows.now in_order c.args.bytes.now) (λ a r f called. search rules)
