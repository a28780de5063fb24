-- SPDX-License-Identifier: Apache-2.0
use Rattle.mkey.proofs.KeyWords.{rules, ◌≡◌, ℕ, Fits, w8, get_or, ◌∙◌, ap, ap₂, sym, slice_cmp, nat_cmp, subscripts_bytes, significant_digits, subscripts_order}
use Rattle.mkey.proofs.KeyWords.{head_number}
use Rattle.mkey.proofs.Heads.{fitting_bytes}
use Rattle.mkey.proofs.SubsKeys.{head_seen, keys_by_head}
use Rattle.mkey.proofs.subs_key.SubsKeyOrd.cmp.Goals as goal

pub returns-then-is_ne : goal.returns-then-is_ne
returns-then-is_ne c =
    let bytes = c.as_bytes-bytes in
    let others = c.as_bytes-others in
    let fit : (i : ℕ) → Fits w8 (get_or bytes.result.now i 0) = search rules in
    let others_fit : (i : ℕ) → Fits w8 (get_or others.result.now i 0) = search rules in
    let own = c.self.inside in
    let other = c.other.inside in
    let head : own.head ≡ head_number 32 bytes.result.now = head_seen own.head own.bytes.items bytes.result.now own.of_subs.0 c.args.self.now own.head_of own.of_subs.1.1 c.self.view_is bytes.ensures.bytes in
    let other_head : other.head ≡ head_number 32 others.result.now = head_seen other.head other.bytes.items others.result.now other.of_subs.0 c.args.other.now other.head_of other.of_subs.1.1 c.other.view_is others.ensures.bytes in
    keys_by_head c.args.self.now c.args.other.now bytes.result.now others.result.now c.order-order.result bytes.ensures.subs others.ensures.subs bytes.ensures.bytes others.ensures.bytes (fitting_bytes _ fit) (fitting_bytes _ others_fit)
    (c.order-order.ensures ∙ ap₂ nat_cmp head other_head)
    (sym c.is_ne.ensures ∙ c.if-is_ne.true)

pub returns : goal.returns
returns c =
    c.compare.ensures ∙ ap (λ b. slice_cmp nat_cmp b c.as_bytes-others.result.now) c.as_bytes-bytes.ensures.bytes
    ∙ ap (slice_cmp nat_cmp (subscripts_bytes significant_digits c.args.self.now)) c.as_bytes-others.ensures.bytes
    ∙ subscripts_order significant_digits c.args.self.now c.args.other.now c.as_bytes-bytes.ensures.subs c.as_bytes-others.ensures.subs
