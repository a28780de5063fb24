-- SPDX-License-Identifier: Apache-2.0
use Rattle.mstore.proofs.Words.{subst, sym}
use Rattle.mstore.specs.Putting.{PutsBy}
use Rattle.mstore.proofs.statements.store_value.Goals as goal

pub returns : goal.returns
returns g c = record {
  puts =
      subst (λ b. PutsBy g.S.Store c.args.conn.now c.put_value-put.new.conn c.args.key.now c.args.value.now b b)
      (sym c.noted.ensures.done) c.put_value-put.ensures.puts;
  full = λ beneath was unlimited refused. c.put_value-put.ensures.full beneath was unlimited (c.noted.ensures.refused refused);
}
