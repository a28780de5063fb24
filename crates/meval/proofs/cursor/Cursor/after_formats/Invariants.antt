-- SPDX-License-Identifier: Apache-2.0
use Rattle.std.proofs.Common.{◌≡◌, drop}
use Rattle.mspec.specs.Cursor.{after_formats}
use Rattle.meval.specs.Sessions.{cursor_of}
use Rattle.meval.proofs.cursor.Cursor.after_formats.Given as goal

abbrev pub invariant-loop-format : goal.invariant-loop-format
invariant-loop-format l = after_formats (drop l.format-index l.formats) (cursor_of l.cursor) ≡ after_formats l.formats (cursor_of l.fn.self)
