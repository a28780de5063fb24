-- SPDX-License-Identifier: Apache-2.0
-- A session of the program as one of the definitions.
use Rattle.mspec.specs.Cursor as spec
use Rattle.mmeaning.specs.Transition as transition
use Rattle.meval.specs.declared.cursor.Cursor.{Cursor}
use Rattle.meval.specs.declared.session.Session.{Session}

abbrev pub cursor_of : Cursor → spec.Cursor
cursor_of c = record { column = c.column; row = c.row }

abbrev pub session_of : Session → transition.Session
session_of s = record { locals = s.locals; naked = s.naked; test = s.test; cursor = cursor_of s.cursor }
