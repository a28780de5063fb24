-- SPDX-License-Identifier: Apache-2.0
use Rattle.std.proofs.Common.{◌<◌, length, arith}
use Rattle.std.proofs.lemmas.Bool.Decides.{nat_tests}
use Rattle.mtree.proofs.ListTexts.{some_args}
use Rattle.mtree.proofs.write.put_args.Goals as goal

pub returns : goal.returns
returns c =
    let some : 0 < length c.args.args.now.items = grind (arith, nat_tests, c.if-is_empty.ensures, c.is_empty.ensures, c.if-is_empty.false) in
    some_args c.put_list.result c.args.args.now.items c.args.out.now c.push.new.self c.put_list.new.out some c.in_ok-push.ensures.ok c.put_list.ensures
