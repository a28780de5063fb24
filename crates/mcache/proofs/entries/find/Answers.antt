-- SPDX-License-Identifier: Apache-2.0
use Rattle.mcache.proofs.CacheWords.{ap}
use Rattle.mcache.proofs.EntryLists.{found, looked}
use Rattle.mcache.proofs.entries.find.Goals as goal

pub returns-in-Some-clause-found : goal.returns-in-Some-clause-found
returns-in-Some-clause-found c = found c.args.entries.now.entries c.args.key.now c.in-Some.text.now c.copy.result c.ok.result c.in-Some.ensures.value c.copy.ensures c.ok.ensures.value

pub returns-in-Some-clause-kept : goal.returns-in-Some-clause-kept
returns-in-Some-clause-kept c = looked c.args.entries.now.entries c.args.key.now c.get.follows.lender-at-none.entries (ap (λ m. m.entries) c.get.follows.holds-at-none)

pub returns-in-None-clause-kept : goal.returns-in-None-clause-kept
returns-in-None-clause-kept c = looked c.args.entries.now.entries c.args.key.now c.get.follows.lender-at-none.entries (ap (λ m. m.entries) c.get.follows.holds-at-none)
