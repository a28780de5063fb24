-- SPDX-License-Identifier: Apache-2.0
use Rattle.mkey.proofs.KeyWords.{◌≡◌, key_bytes, AreSubscripts, IsStored, significant_digits, one_node, Node}
use Rattle.mkey.proofs.Keys.{joined}
use Rattle.mkey.proofs.key.NodeKey.build_values.Goals as goal

pub invariant_of-result : goal.invariant_of-result
invariant_of-result c =
    let n : Node = record { account = c.args.account.now; name = c.args.name.now; subscripts = c.args.subs.now } in
    let subs : AreSubscripts c.args.subs.now = c.values_ok.ensures.0 c.if-not-values_ok.false in
    let stored : IsStored n = record { account = c.requires.account; name = c.requires.name; subscripts = subs; ascii = c.values_room.ensures.ascii } in
    let names = c.in_ok-bytes.ensures in
    let is : key_bytes significant_digits n ≡ c.push_values.new.out.items = joined c.args.account.now c.args.name.now c.args.subs.now _ _ names c.in_ok-push_values.ensures in
    ((n, (stored, is)), tt)

pub returns-clause-ok : goal.returns-clause-ok
returns-clause-ok c =
    let n : Node = record { account = c.args.account.now; name = c.args.name.now; subscripts = c.args.subs.now } in
    let subs : AreSubscripts c.args.subs.now = c.values_ok.ensures.0 c.if-not-values_ok.false in
    let stored : IsStored n = record { account = c.requires.account; name = c.requires.name; subscripts = subs; ascii = c.values_room.ensures.ascii } in
    let is : key_bytes significant_digits n ≡ c.push_values.new.out.items = joined c.args.account.now c.args.name.now c.args.subs.now _ _ c.in_ok-bytes.ensures c.in_ok-push_values.ensures in
    let given = c.result-1.given.0 in
    one_node given.0 n c.push_values.new.out.items given.1.0 stored given.1.1 is
