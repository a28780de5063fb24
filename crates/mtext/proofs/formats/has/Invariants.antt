-- SPDX-License-Identifier: Apache-2.0
use Rattle.mtext.proofs.TextWords.{◌≡◌, drop}
use Rattle.mspec.specs.NumberFormats.{has_letter}
use Rattle.mtext.proofs.formats.has.Given as goal

abbrev pub invariant-loop-c : goal.invariant-loop-c
invariant-loop-c l = has_letter l.one l.other (drop l.c-index l.format) ≡ has_letter l.one l.other l.format
