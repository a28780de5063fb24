-- SPDX-License-Identifier: Apache-2.0
use Rattle.mcache.proofs.Shelves.{found, looked_within, looked_count}
use Rattle.mcache.proofs.CacheWords.{ap}
use Rattle.mcache.proofs.tree_cache.find.Goals as goal

pub returns-in-Some-get-clause-found : goal.returns-in-Some-get-clause-found
returns-in-Some-get-clause-found g c = found c.args.tree_cache.now.entries c.args.text.now c.in-Some-get.tree.now c.clone.result c.ok.result c.in-Some-get.ensures.value c.clone.ensures.cases c.ok.ensures.value

pub returns-in-Some-get-clause-within : goal.returns-in-Some-get-clause-within
returns-in-Some-get-clause-within g c = looked_within c.args.tree_cache.now.entries _ c.get.follows.lender-at-none.entries (ap (λ m. m.entries) c.get.follows.holds-at-none)

pub returns-in-Some-get-clause-count : goal.returns-in-Some-get-clause-count
returns-in-Some-get-clause-count g c = looked_count c.args.tree_cache.now.entries _ c.get.follows.lender-at-none.entries (ap (λ m. m.entries) c.get.follows.holds-at-none)

pub returns-in-None-clause-within : goal.returns-in-None-clause-within
returns-in-None-clause-within g c = looked_within c.args.tree_cache.now.entries _ c.get.follows.lender-at-none.entries (ap (λ m. m.entries) c.get.follows.holds-at-none)

pub returns-in-None-clause-count : goal.returns-in-None-clause-count
returns-in-None-clause-count g c = looked_count c.args.tree_cache.now.entries _ c.get.follows.lender-at-none.entries (ap (λ m. m.entries) c.get.follows.holds-at-none)
