-- SPDX-License-Identifier: Apache-2.0
use Rattle.mnum.proofs.NumWords.{◌≡◌, ℕ, ◌*◌, ◌+◌, ◌^◌, ◌-◌, Some, sym, lit≤, ten_pos}
use Rattle.mnum.proofs.Rounds.{exact_some}
use Rattle.mnum.proofs.SignLaws.{with_sign, signed_mul, product_units}
use Rattle.mnum.proofs.num.Num.mul_assign.Goals as goal

pub returns-then-places-le18 : goal.returns-then-places-le18
returns-then-places-le18 c =
    let m : ℕ = c.args.self.now.digits in
    let n : ℕ = c.args.other.now.digits in
    let a : ℕ = m * 10 ^ (18 - c.args.self.now.places) in
    let b : ℕ = n * 10 ^ (18 - c.args.other.now.places) in
    let places : ℕ = c.args.self.now.places + c.args.other.now.places in
    let exact : m * n * 10 ^ 36 ≡ a * b * 10 ^ places = product_units m n c.args.self.now.places c.args.other.now.places c.args.self.now.places_at_most c.args.other.now.places_at_most in
    with_sign 18 (a * b) (10 ^ 36) _ (Some (m * n * 10 ^ (18 - places))) _ (ten_pos 36)
    (sym (exact_some 18 places (m * n) (a * b) (10 ^ 36) (lit≤ tt) c.if-places-le18.true (ten_pos 36) c.if-product.true exact))
    (signed_mul _ _ a b)
