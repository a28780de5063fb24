-- SPDX-License-Identifier: Apache-2.0
use Rattle.mislands.proofs.IslandWords.{ap, ◌∙◌, named, names_of, lines_of, AreIslands}
use Rattle.mislands.proofs.Once.{each_in_one}
use Rattle.mislands.proofs.listing.listing.Goals as goal

pub returns-clause-ok : goal.returns-clause-ok
returns-clause-ok c =
    let settings = c.in_ok-settings.settings in
    let islands = named settings c.in_ok-islands.islands.items in
    let listed : AreIslands settings (names_of settings) islands = c.in_ok-islands.ensures in
    record {
      settings = settings;
      read = c.in_ok-settings.ensures.ok;
      islands = islands;
      listed = listed;
      once = each_in_one settings islands listed;
      is = c.in_ok-lines.ensures ∙ ap (λ all. lines_of (named settings all)) c.deref-2.ensures.value;
    }
