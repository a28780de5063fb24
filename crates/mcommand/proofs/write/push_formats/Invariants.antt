-- SPDX-License-Identifier: Apache-2.0
use Rattle.std.proofs.Common.{◌≡◌, ◌++◌, drop, map}
use Rattle.mspec.specs.Cursor.{format_byte}
use Rattle.mcommand.proofs.write.push_formats.Given as goal

abbrev pub invariant-loop-format : goal.invariant-loop-format
invariant-loop-format l = l.out.items ++ map format_byte (drop l.format-index l.formats) ≡ l.initial.out.items ++ map format_byte l.formats
