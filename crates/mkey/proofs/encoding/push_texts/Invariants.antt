-- SPDX-License-Identifier: Apache-2.0
use Rattle.mkey.proofs.KeyWords.{◌≡◌, ◌++◌, drop, subscripts_bytes, significant_digits}
use Rattle.mkey.proofs.encoding.push_texts.Given as goal

abbrev pub invariant-loop-text : goal.invariant-loop-text
invariant-loop-text l = l.out.items ++ subscripts_bytes significant_digits (drop l.text-index l.subs) ≡ l.initial.out.items ++ subscripts_bytes significant_digits l.subs
