-- SPDX-License-Identifier: Apache-2.0
-- What the code of LOCK needs of the operations on locks: a name that the checks let through may be taken.
use Rattle.mmeaning.proofs.MeaningWords.{◌≡◌, true, List, refl, LockName, taken, Take, Standing, ops_of, list_all, Shared, may_lock, took}

-- names that may all be taken are
pub take_open : (b : Standing) (ns : List LockName) (w : Shared) → list_all (may_lock b.settings b.account) ns ≡ true → ops_of b (Take ns) w ≡ took w (taken w.locks b.terminal ns)
take_open b ns w open_to = rw open_to refl
