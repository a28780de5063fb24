-- SPDX-License-Identifier: Apache-2.0
use Rattle.mnum.proofs.NumWords.{◌≡◌, ◌≢◌, ◌⊎◌, inl, inr, ◌%◌, ◌≤◌, ◌∙◌, ap, rules, arith, unsigned_abs, to_z-of_z, SFits}
use mir.Syntax.{w128}
use Rattle.mnum.proofs.UnitDigits.{stripped, not_number}
use Rattle.mnum.proofs.num.Num.from_units.Goals as goal
use Rattle.mnum.proofs.num.Num.from_units.Goals.{then-loop-digits-test+then-places-gt0+else-digits-eq0, then-loop-digits-test+else-places-gt0}
use Rattle.mnum.proofs.num.Num.from_units.Goals.{else-loop-digits-test}

pub loop-digits-preserved : goal.loop-digits-preserved
loop-digits-preserved c = record {
  value = stripped c.loop-digits.digits c.loop-digits.places c.unsigned_abs-size.result c.if-places-gt0.true c.loop-digits.invariant.places c.if-digits-eq0.true c.loop-digits.invariant.value;
  places = omega (arith, c.loop-digits.invariant.places);
}

pub returns-then-digits-ge-UNIT : goal.returns-then-digits-ge-UNIT
returns-then-digits-ge-UNIT c =
    let fits : SFits w128 c.args.count = search rules in
    let is : c.unsigned_abs-size.result ≡ unsigned_abs c.args.count = c.unsigned_abs-size.ensures.value ∙ ap unsigned_abs (to_z-of_z w128 c.args.count fits) in
    let stuck : (c.loop-digits.digits % 10 ≢ 0) ⊎ (c.loop-digits.places ≤ 0) =
    elim c.loop-digits-test.branch [
      | then-loop-digits-test+then-places-gt0+else-digits-eq0 w ↦ inl w.if-digits-eq0.false
      | then-loop-digits-test+else-places-gt0 w ↦ inr w.if-places-gt0.false
      | else-loop-digits-test w ↦ absurd (omega (arith, w.loop-digits-test.false, c.if-digits-ge-UNIT.true))
    ] in
    not_number c.args.count c.loop-digits.digits c.loop-digits.places c.unsigned_abs-size.result c.loop-digits.invariant.value is c.if-digits-ge-UNIT.true stuck
