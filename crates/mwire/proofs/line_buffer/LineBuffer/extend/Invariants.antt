-- SPDX-License-Identifier: Apache-2.0
use Rattle.mwire.proofs.WireWords.{◌≡◌, ◌++◌, take}
use Rattle.mwire.proofs.line_buffer.LineBuffer.extend.Given as goal

abbrev pub invariant-loop-byte : goal.invariant-loop-byte
invariant-loop-byte l = l.self-inside.bytes.items ≡ l.initial.self-inside.bytes.items ++ take l.byte-index l.bytes
