-- SPDX-License-Identifier: Apache-2.0
use Rattle.mnum.proofs.PowerTable.{table_row}
use Rattle.mnum.proofs.NumWords.{ten_pos, subst, sym, ℕ, ◌<◌}
use Rattle.mnum.proofs.powers.power.Goals as goal

pub returns : goal.returns
returns c = record {
  value = table_row c.args.k c.requires;
  some = subst (λ (x : ℕ). 0 < x) (sym (table_row c.args.k c.requires)) (ten_pos c.args.k);
}
