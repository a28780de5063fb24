-- SPDX-License-Identifier: Apache-2.0
use Rattle.mnodes.proofs.Words.{rules, IsPartitionPoint-from_clause, is_before}
use Rattle.mnodes.proofs.EntryPlaces.{before_some}
use Rattle.mnodes.proofs.plain.place_of.Goals as goal

pub returns-clause-place : goal.returns-clause-place
returns-clause-place c =
    IsPartitionPoint-from_clause (is_before c.args.bytes.now) c.args.entries.now _ c.partition_point.ensures.partitioned
    (before_some c.args.entries.now c.requires c.args.bytes.now) (λ a r f called. search rules)
