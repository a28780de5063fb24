-- SPDX-License-Identifier: Apache-2.0
use Rattle.mcache.proofs.CacheWords.{ap, subst, Contains}
use Rattle.mcache.proofs.EntryLists.{left, forgotten}
use Rattle.mcache.proofs.entries.forget.Goals as goal

pub returns-clause-kept : goal.returns-clause-kept
returns-clause-kept c = left c.args.key.now c.args.entries.now.entries c.pop.new.self.entries (ap (λ m. m.entries) c.pop.ensures.entries)

pub returns-clause-gone : goal.returns-clause-gone
returns-clause-gone c e at = forgotten c.args.key.now c.args.entries.now.entries c.len.ensures.valid.0 e (subst (λ l. Contains l e) (ap (λ m. m.entries) c.pop.ensures.entries) at)
