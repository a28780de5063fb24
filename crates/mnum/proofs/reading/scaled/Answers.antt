-- SPDX-License-Identifier: Apache-2.0
use Rattle.mnum.proofs.NumWords.{◌≡◌, ℕ, ◌+◌, ◌-◌, ◌*◌, ◌^◌, ◌<◌, ◌≤◌, sym, ◌∙◌, ap, inl, inr, arith, ⊎_elim, ten_pos}
use Rattle.mnum.proofs.SignLaws.{exact_floor}
use Rattle.mnum.proofs.Scaled.{scaled_none, scaled_zeros, scaled_small, scaled_places, head_zero, head_floor, head_fine}
use Rattle.mnum.proofs.reading.scaled.Goals as goal

pub returns-then-head-eq0 : goal.returns-then-head-eq0
returns-then-head-eq0 c number a down head up under =
    sym (head_zero c.args.kept c.args.head.digits c.args.head.dropped number a down c.requires.kept_at_most c.if-head-eq0.true head)

pub returns-then-head-gt0 : goal.returns-then-head-gt0
returns-then-head-gt0 c number a down head up under =
    sym (scaled_none c.args.kept c.args.head.digits c.args.head.dropped number c.args.raise c.args.lower a down (record { few = c.requires.few; short = c.requires.short; one_way = c.requires.one_way; head = head; up = up; under = under }) (omega arith) c.if-up-lower.true (⊎_elim (λ (w : 0 < c.args.head.dropped). inl w) (λ (w : (c.args.head.dropped ≤ 0) × (18 < c.args.head.dropped + c.args.raise - c.args.lower)). inr w.1) c.then-head-gt0.either))

pub returns-then-places-gt38 : goal.returns-then-places-gt38
returns-then-places-gt38 c number a down head up under =
    sym (scaled_small c.args.kept c.args.head.digits c.args.head.dropped number c.args.raise c.args.lower a down (record { few = c.requires.few; short = c.requires.short; one_way = c.requires.one_way; head = head; up = up; under = under }) (omega arith) (omega arith))

pub returns-else-more-gt18 : goal.returns-else-more-gt18
returns-else-more-gt18 c number a down head up under =
    let exact : c.args.head.digits * c.power.result * 10 ^ down ≡ number * 10 ^ a * 10 ^ 0 =
    ap (λ x. c.args.head.digits * x * 10 ^ down) c.power.ensures.value ∙ scaled_zeros c.args.head.digits c.args.head.dropped number c.args.raise c.args.lower a down (record { few = c.requires.few; short = c.requires.short; one_way = c.requires.one_way; head = head; up = up; under = under }) c.if-up-lower.true c.if-head-gt0.false c.if-more-gt18.false in
    c.rounded.ensures (number * 10 ^ a) (10 ^ down) (ten_pos down) (exact_floor _ _ _ _ (ten_pos down) exact) (inl exact)

pub returns-else-places-gt38 : goal.returns-else-places-gt38
returns-else-places-gt38 c number a down head up under =
    let places : ℕ = c.args.lower - (c.args.head.dropped + c.args.raise) in
    let e : places + (c.args.head.dropped + a) ≡ down = scaled_places c.args.head.digits c.args.head.dropped number c.args.raise c.args.lower a down (record { few = c.requires.few; short = c.requires.short; one_way = c.requires.one_way; head = head; up = up; under = under }) c.if-up-lower.false c.if-places-gt38.false in
    c.rounded-else-up-lower.ensures (number * 10 ^ a) (10 ^ down) (ten_pos down)
    (head_floor c.args.head.digits c.args.head.dropped number a down places head e)
    (head_fine c.args.kept c.args.head.digits c.args.head.dropped number a down places c.requires.kept_at_most head e)
