-- SPDX-License-Identifier: Apache-2.0
use Rattle.mglobal.proofs.GlobalWords.{◌∙◌, nat_eq, starts_with, is_node_within, none_empty, starts_node}
use Rattle.mglobal.proofs.CopyLaws.{either_first, either_second}
use Rattle.mglobal.proofs.copies.touches.Goals as goal

pub returns-then-starts_with : goal.returns-then-starts_with
returns-then-starts_with c =
    let one = c.as_bytes-one.ensures in
    let other = c.as_bytes-other.ensures in
    let begins = starts_node c.args.one.now c.args.other.now (none_empty _ one.stored) (none_empty _ other.stored) c.starts_with.result (c.starts_with.ensures.value ∙ (λ i. starts_with nat_eq (other.bytes i) (one.bytes i))) in
    either_first c.starts_with.result _ (is_node_within c.args.other.now c.args.one.now) begins c.if-starts_with.true

pub returns-else-starts_with : goal.returns-else-starts_with
returns-else-starts_with c =
    let one = c.as_bytes-one.ensures in
    let other = c.as_bytes-other.ensures in
    let begins = starts_node c.args.one.now c.args.other.now (none_empty _ one.stored) (none_empty _ other.stored) c.starts_with.result (c.starts_with.ensures.value ∙ (λ i. starts_with nat_eq (other.bytes i) (one.bytes i))) in
    let back = starts_node c.args.other.now c.args.one.now (none_empty _ other.stored) (none_empty _ one.stored) c.starts_with-else-starts_with.result (c.starts_with-else-starts_with.ensures.value ∙ (λ i. starts_with nat_eq (one.bytes i) (other.bytes i))) in
    either_second c.starts_with.result c.starts_with-else-starts_with.result _ _ begins c.if-starts_with.false back
