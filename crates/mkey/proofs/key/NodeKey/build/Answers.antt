-- SPDX-License-Identifier: Apache-2.0
use Rattle.mkey.proofs.KeyWords.{◌≡◌, ◌++◌, ◌∙◌, ap, key_bytes, text_bytes, AreSubscripts, IsStored, significant_digits, one_node, Node}
use Rattle.mkey.proofs.Keys.{joined}
use Rattle.mkey.proofs.key.NodeKey.build.Goals as goal

pub invariant_of-result : goal.invariant_of-result
invariant_of-result c =
    let n : Node = record { account = c.args.account.now; name = c.args.name.now; subscripts = c.args.subs.now } in
    let subs : AreSubscripts c.args.subs.now = c.subs_ok.ensures.0 c.if-not-subs_ok.false in
    let stored : IsStored n = record { account = c.requires.account; name = c.requires.name; subscripts = subs; ascii = c.texts_room.ensures.ascii } in
    let names = c.in_ok-bytes.ensures ∙ ap (λ a. text_bytes a ++ text_bytes c.args.name.now) c.as_bytes.ensures.bytes in
    let is : key_bytes significant_digits n ≡ c.push_texts.new.out.items = joined c.args.account.now c.args.name.now c.args.subs.now _ _ names c.in_ok-push_texts.ensures in
    ((n, (stored, is)), tt)

pub returns-clause-ok : goal.returns-clause-ok
unfolding invariant_of-result
returns-clause-ok c =
    let made = (invariant_of-result c.before).0 in
    let given = c.result-1.given.0 in
    one_node given.0 made.0 c.push_texts.new.out.items given.1.0 made.1.0 given.1.1 made.1.1
