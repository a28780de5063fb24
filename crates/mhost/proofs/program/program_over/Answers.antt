-- SPDX-License-Identifier: Apache-2.0
use Rattle.mhost.proofs.HostWords.{inr}
use Rattle.mhost.proofs.program.program_over.Goals as goal

pub returns : goal.returns
returns g c = inr (record {
  finishes = record {
    asked = c.in-Ok.job;
    outcome = c.carry_out-outcome.result;
    taken = c.in-Ok.ensures.taken;
    of_words = c.in-Ok.ensures.ok;
    carried = c.carry_out-outcome.ensures.carries;
    status_is = c.finish.ensures.status;
  };
  between = c.carry_out-outcome.new.errors;
  quiet = c.carry_out-outcome.ensures.quiet;
  reported = c.finish.ensures.reports;
})
