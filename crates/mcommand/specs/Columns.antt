-- SPDX-License-Identifier: Apache-2.0
-- What WRITE does for a column that a text can reach.
use Rattle.std.specs.Prelude.{ℤ}
use Rattle.mspec.specs.Act.{Act, ◌>>=◌, write, cursor_is}
use Rattle.mspec.specs.Cursor.{spaces_to}

abbrev pub spacing : ℤ → Act (Unit {0})
spacing n = do
  c ← cursor_is
  write (spaces_to n c.column)
