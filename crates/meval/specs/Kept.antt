-- SPDX-License-Identifier: Apache-2.0
-- Places that are kept while more is evaluated, as the definitions have them.
use Rattle.std.specs.Prelude.{Bool, true}
use Rattle.mspec.specs.Access.{Read, may}
use Rattle.mmeaning.specs.Calls.{Standing}
use Rattle.mmeaning.specs.Variables as variables
use Rattle.meval.specs.declared.kept.Readable.{Readable}
use Rattle.meval.specs.declared.kept.Readable.TheVariants as readable

abbrev pub readable_view : Readable → variables.Place
readable_view (readable.Local name subscripts) = variables.at_local name subscripts
readable_view (readable.Node account name subscripts) = variables.at_node (record { account = account; name = name; subscripts = subscripts })

-- whether the line's account may read there
abbrev pub may_read_at : Standing → variables.Place → Bool
may_read_at b (variables.at_local name xs) = true
may_read_at b (variables.at_node n) = may b.settings b.account n.account n.name Read
