-- SPDX-License-Identifier: Apache-2.0
use Rattle.mgrant.proofs.GrantWords.{arith, map, written_by}
use Rattle.mgrant.proofs.EachRead.{all_read}
use Rattle.mgrant.proofs.document.list.Goals as goal

pub returns : goal.returns
returns g c = all_read (written_by g.E.Entry.written) c.args.values.now.items c.loop-value.value-index (map g.E.Entry.seen c.loop-value.all.items) (omega arith) (omega arith) c.loop-value.invariant
