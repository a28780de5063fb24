-- SPDX-License-Identifier: Apache-2.0
use Rattle.mgrant.proofs.Allowances.{interned_new}

pub returns-in_ok-with-in-None : Rattle.mgrant.proofs.grants.interned.Goals.returns-in_ok-with-in-None
returns-in_ok-with-in-None c = rw (c.in_ok-with-in-None.ensures, c.len-place.ensures) (interned_new c.args.globals c.args.name.items)
