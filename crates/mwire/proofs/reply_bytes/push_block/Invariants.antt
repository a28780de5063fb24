-- SPDX-License-Identifier: Apache-2.0
use Rattle.mwire.proofs.WireWords.{◌≡◌, ◌++◌, take, shown}

abbrev pub invariant-loop-c : Rattle.mwire.proofs.reply_bytes.push_block.Given.invariant-loop-c
invariant-loop-c l = l.out.items ≡ l.initial.out.items ++ shown (take l.c-index l.block)
