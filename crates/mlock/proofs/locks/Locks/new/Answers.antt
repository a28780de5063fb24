-- SPDX-License-Identifier: Apache-2.0
use Rattle.mlock.proofs.LockWords.{ap, sym, subst, ◌∙◌, unwrap_or, lookup, locks_in, AreCounts, name_eq, no_names, tally_of, too_large}
use Rattle.mlock.proofs.Views.{counts_empty}

pub invariant_of-result : Rattle.mlock.proofs.locks.Locks.new.Goals.invariant_of-result
invariant_of-result c = (
  record {
    unique = c.new.ensures.unique;
    small = ap too_large c.new.ensures.empty;
    tied = λ n. ap (λ es. unwrap_or (lookup (name_eq n) es) no_names) c.new-2.ensures.empty ∙ sym (ap (λ es. tally_of es n) c.new.ensures.empty);
  },
  subst AreCounts (sym (ap locks_in c.new.ensures.empty)) counts_empty,
)
