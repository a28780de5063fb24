-- SPDX-License-Identifier: Apache-2.0
use Rattle.mkey.proofs.KeyWords.{◌≡◌, nat_eq, true, length, drop, ap, sym, ◌∙◌, starts_with, is_node_within, key_bytes, significant_digits, none_empty}
use Rattle.mkey.proofs.NodeFronts.{starts_node, within_parts, key_behind, child_within, child_without}
use Rattle.mkey.proofs.SubsKeys.{child_read}
use Rattle.mkey.proofs.key.NodeKey.child_in.Goals as goal

pub returns-then-not-starts_with-clause-child : goal.returns-then-not-starts_with-clause-child
returns-then-not-starts_with-clause-child c m is =
    let n = c.args.self.now in
    let starts = c.starts_with.ensures.value ∙ ap (λ b. starts_with nat_eq b c.as_bytes-key.result.now) (sym is.1) ∙ ap (starts_with nat_eq (key_bytes significant_digits m)) c.as_bytes-key.ensures.bytes in
    let within = starts_node n m (none_empty n c.as_bytes-key.ensures.stored) (none_empty m is.0) _ starts in
    sym (child_without n m (sym within ∙ c.if-not-starts_with.true))

pub returns-clause-child : goal.returns-clause-child
returns-clause-child c m is =
    let n = c.args.self.now in
    let starts = c.starts_with.ensures.value ∙ ap (λ b. starts_with nat_eq b c.as_bytes-key.result.now) (sym is.1) ∙ ap (starts_with nat_eq (key_bytes significant_digits m)) c.as_bytes-key.ensures.bytes in
    let within : is_node_within n m ≡ true = sym (starts_node n m (none_empty n c.as_bytes-key.ensures.stored) (none_empty m is.0) _ starts) ∙ c.if-not-starts_with.false in
    child_read n.subscripts m.subscripts (is.0.subscripts, is.0.ascii) (within_parts n m within).1 c.behind.result.now
    (c.behind.ensures ∙ ap (λ b. drop (length b) c.args.bytes.now) c.as_bytes-key.ensures.bytes
    ∙ ap (drop (length (key_bytes significant_digits n))) (sym is.1) ∙ key_behind n m within)
    _ c.in_ok-child.ensures
    ∙ sym (child_within n m within)
