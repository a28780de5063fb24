-- SPDX-License-Identifier: Apache-2.0
use Rattle.mislands.proofs.IslandWords.{◌≡◌, Some, option_map, sym, ap, ◌∙◌, none-some, same_Some, Members, table_view, Text, Settings, written_names, texts_in}
use Rattle.mislands.proofs.IslandWords.{names_of}
use Rattle.toml.specs.Parse.{parse_document}
use Rattle.mgrant.specs.Reading.{IsRead}
use Rattle.mislands.proofs.NamesRead.{names_written}
use Rattle.mislands.proofs.names.names_of.Goals as goal

-- the names in a table that the document reads as
table_names : (document : Text) (table : Members) → parse_document document ≡ Some table → (settings : Settings) → IsRead document settings → written_names table ≡ Some (names_of settings)
table_names document table is settings (doc, reads, w, said, good, same) =
    let one : doc ≡ table = same_Some doc table (sym reads.1 ∙ is) in
    ap written_names (sym one) ∙ names_written doc w said ∙ ap (λ s. Some (names_of s)) (sym same)

pub returns-in-Some-clause-names : goal.returns-in-Some-clause-names
returns-in-Some-clause-names c = λ settings read.
    let found = table_names c.args.document.now (table_view c.in-Ok.table) c.in-Ok.ensures.ok.1 settings read in
    same_Some (texts_in c.in-Some.names) (names_of settings) (ap (option_map texts_in) (sym c.in-Some.is) ∙ c.in_ok-names.ensures ∙ found)

pub returns-clause-names : goal.returns-clause-names
returns-clause-names c = λ settings read.
    let found = table_names c.args.document.now (table_view c.in-Ok.table) c.in-Ok.ensures.ok.1 settings read in
    absurd (none-some (names_of settings) (ap (option_map texts_in) (sym c.in-None.is) ∙ c.in_ok-names.ensures ∙ found))
