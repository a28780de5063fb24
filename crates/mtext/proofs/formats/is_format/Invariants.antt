-- SPDX-License-Identifier: Apache-2.0
use Rattle.mtext.proofs.TextWords.{◌≡◌, drop}
use Rattle.std.specs.List.{list_all}
use Rattle.mspec.specs.NumberFormats.{is_format_letter}
use Rattle.mtext.proofs.formats.is_format.Given as goal

abbrev pub invariant-loop-c : goal.invariant-loop-c
invariant-loop-c l = list_all is_format_letter (drop l.c-index l.format) ≡ list_all is_format_letter l.format
