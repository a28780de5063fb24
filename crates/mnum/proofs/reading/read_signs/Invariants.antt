-- SPDX-License-Identifier: Apache-2.0
use Rattle.mnum.proofs.NumWords.{◌≡◌, ℕ, ◌<◌, true, drop, get_or, cond, not, is_sign, is_negated}
use Rattle.mnum.proofs.reading.read_signs.Given as goal

abbrev pub invariant-loop-i : goal.invariant-loop-i
invariant-loop-i l = record {
  signs : (k : ℕ) → k < l.i → is_sign (get_or l.text k 0) ≡ true;
  value : is_negated l.text ≡ cond l.negated (not (is_negated (drop l.i l.text))) (is_negated (drop l.i l.text));
}
