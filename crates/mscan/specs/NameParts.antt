-- SPDX-License-Identifier: Apache-2.0
-- The parts of a name, as the grammar has them.
use Rattle.mgrammar.specs.NameValues as grammar
use Rattle.mscan.specs.declared.name_values.NameValue.{NameValue}

abbrev pub name_view : NameValue → grammar.NameValue
name_view v = record { environment = v.environment; name = v.name; subscripts = v.subscripts.items }
