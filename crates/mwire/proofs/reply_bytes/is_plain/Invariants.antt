-- SPDX-License-Identifier: Apache-2.0
use Rattle.mwire.proofs.WireWords.{◌≡◌, take, list_all, is_escaped}
use Rattle.std.specs.Prelude.{not}
use Rattle.mwire.proofs.reply_bytes.is_plain.Given as goal

abbrev pub invariant-loop-c : goal.invariant-loop-c
invariant-loop-c l = l.plain ≡ list_all (λ c. not (is_escaped c)) (take l.c-index l.block)
