-- SPDX-License-Identifier: Apache-2.0
use Rattle.mkey.proofs.KeyWords.{ℕ, ◌≡◌, ◌∙◌, List, sym, ap, subst, take, key_bytes, significant_digits, IsKey, one_node, IsParent, IsLastAt, Node}
use Rattle.mkey.proofs.KeyWalks.{parent_stored}
use Rattle.mkey.proofs.key.NodeKey.into_parent.Goals as goal

-- the bytes in front of the last subscript are the key of the node above
cut : (bytes : List ℕ) (key : IsKey bytes) (whole left : List ℕ) (start : ℕ) → whole ≡ bytes → left ≡ take start bytes → ((n : Node) → key_bytes significant_digits n ≡ whole → IsLastAt n whole start)
    → (above : IsKey left) × IsParent above.0 key.0
cut bytes key whole left start is kept found =
    let last = found key.0 (key.1.1 ∙ sym is) in
    ((last.0, (parent_stored last.0 key.0 last.1 key.1.0, last.2 ∙ ap (take start) is ∙ sym kept)), last.1)

pub invariant_of-result : goal.invariant_of-result
invariant_of-result c =
    let made = cut c.self.inside.bytes.items c.self.inside.of_node c.deref.result.now c.truncate.new.self.items c.in_ok-start.start c.deref.ensures.value c.truncate.ensures.items c.in_ok-start.ensures in
    (made.0, tt)

pub returns : goal.returns
returns c =
    let made = cut c.self.inside.bytes.items c.self.inside.of_node c.deref.result.now c.truncate.new.self.items c.in_ok-start.start c.deref.ensures.value c.truncate.ensures.items c.in_ok-start.ensures in
    let given = c.result-1.given.0 in
    subst (IsParent given.0) c.self.view_is
    (subst (λ above. IsParent above c.self.inside.of_node.0) (one_node made.0.0 given.0 c.truncate.new.self.items made.0.1.0 given.1.0 made.0.1.1 given.1.1) made.1)
