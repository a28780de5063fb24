-- SPDX-License-Identifier: Apache-2.0
use Rattle.mnodes.proofs.Words.{◌≡◌, true, false, ap, sym, subst, ◌∙◌, option_copied, slice_cmp, key_within}
use Rattle.std.proofs.Common.{nat_cmp, is_lt, is_le}
use Rattle.mnodes.proofs.EntryRanges.{within_yes, without_low, without_high}
use Rattle.mnodes.proofs.SortedEntries.{compared}
use Rattle.mnodes.proofs.plain.key_within.Goals as goal
use Rattle.mnodes.proofs.plain.key_within.Goals.{else-le-via-then-le+else-lt, else-le-via-else-le}

pub returns-in_ok-to_vec-in-Some : goal.returns-in_ok-to_vec-in-Some
returns-in_ok-to_vec-in-Some c =
    let from = subst (λ k. is_le (slice_cmp nat_cmp c.args.low.now k) ≡ true) c.as_bytes-key.ensures.bytes (compared is_le c.args.low.now c.as_bytes-key.result.now _ _ c.le.ensures c.if-le.true) in
    let before = subst (λ k. is_lt (slice_cmp nat_cmp k c.args.high.now) ≡ true) c.as_bytes-key.ensures.bytes (compared is_lt c.as_bytes-key.result.now c.args.high.now _ _ c.lt.ensures c.if-lt.true) in
    within_yes c.args.low.now c.args.high.now c.in-Some.entry.now _ (c.in_ok-to_vec-in-Some.ensures.items_if_clones_equal (λ x y e. e) ∙ c.as_bytes-key.ensures.bytes) from before
    ∙ ap (λ o. key_within c.args.low.now c.args.high.now (option_copied o)) (sym c.in-Some.is)

pub returns-else-le : goal.returns-else-le
returns-else-le c =
    let low = c.args.low.now in
    let high = c.args.high.now in
    elim c.else-le.branch [
      | else-le-via-then-le+else-lt w ↦
          without_high low high c.in-Some.entry.now (subst (λ k. is_lt (slice_cmp nat_cmp k high) ≡ false) c.as_bytes-key.ensures.bytes (compared is_lt c.as_bytes-key.result.now high _ _ w.lt.ensures w.if-lt.false))
      | else-le-via-else-le w ↦
          without_low low high c.in-Some.entry.now (subst (λ k. is_le (slice_cmp nat_cmp low k) ≡ false) c.as_bytes-key.ensures.bytes (compared is_le low c.as_bytes-key.result.now _ _ c.le.ensures w.if-le.false))
    ] ∙ ap (λ o. key_within low high (option_copied o)) (sym c.in-Some.is)
