-- SPDX-License-Identifier: Apache-2.0
use Rattle.std.proofs.Common.{arith}
use Rattle.std.proofs.lemmas.Grind.{common_steps}
use Rattle.mtree.proofs.ListTexts.{parameters}
use Rattle.mtree.proofs.write.put_loop.Goals as goal

pub returns : goal.returns
returns c =
    let spelled = rw (parameters c.args.parameters.now.items) at c.put_list.ensures in
    grind (arith, common_steps, spelled)
