-- SPDX-License-Identifier: Apache-2.0
use Rattle.mnum.proofs.NumWords.{◌≡◌, ℕ, ◌*◌, ◌+◌, ◌^◌, ◌-◌, inl, ten_pos}
use Rattle.mnum.proofs.Outcomes.{same_number}
use Rattle.mnum.proofs.SignLaws.{with_sign, signed_mul, product_units, exact_floor}
use Rattle.mnum.proofs.num.Num.mul_rounded.Goals as goal

pub returns : goal.returns
returns c =
    let a : ℕ = c.args.self.digits * 10 ^ (18 - c.args.self.places) in
    let b : ℕ = c.args.other.digits * 10 ^ (18 - c.args.other.places) in
    let exact : c.args.self.digits * c.args.other.digits * 10 ^ 36 ≡ a * b * 10 ^ (c.args.self.places + c.args.other.places) =
    product_units c.args.self.digits c.args.other.digits c.args.self.places c.args.other.places c.args.self.places_at_most c.args.other.places_at_most in
    same_number _ _ c.numbered.result
    (with_sign 18 (a * b) (10 ^ 36) _ _ _ (ten_pos 36)
    (c.rounded.ensures (a * b) (10 ^ 36) (ten_pos 36) (exact_floor _ _ _ _ (ten_pos 36) exact) (inl exact))
    (signed_mul _ _ a b))
    c.numbered.ensures
