-- SPDX-License-Identifier: Apache-2.0
-- The names of the accounts of a document of settings.
use Rattle.std.specs.Prelude.{ℕ, List, [], codes, Option, Some, None, option_and_then, Vec}
use Rattle.std.specs.declared.alloc.Global.{Global}
use Rattle.toml.specs.Data.{Data, Members, get_member, as_array, as_table}
use Rattle.mspec.specs.Node.{Text}
use Rattle.mgrant.specs.Document.{each_read, text_at}
use Rattle.mgrant.specs.Words.{Bytes, texts_of}

-- accounts by their places
abbrev pub Island : Type 0
Island = Vec ℕ Global

abbrev pub texts_in : Vec Bytes Global → List Text
texts_in texts = texts_of texts.items

-- the name in a table
abbrev pub written_name : Data → Option Text
written_name d = option_and_then (text_at (codes "name")) (as_table d)

-- the names in a list of tables, which may be absent
abbrev pub names_at : Option Data → Option (List Text)
names_at None = Some []
names_at (Some d) = option_and_then (each_read written_name) (as_array d)

abbrev pub written_names : Members → Option (List Text)
written_names doc = names_at (get_member (codes "account") doc)
