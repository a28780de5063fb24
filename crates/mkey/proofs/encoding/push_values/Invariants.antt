-- SPDX-License-Identifier: Apache-2.0
use Rattle.mkey.proofs.KeyWords.{◌≡◌, ◌++◌, drop, subscripts_bytes, significant_digits}
use Rattle.mkey.proofs.encoding.push_values.Given as goal

abbrev pub invariant-loop-value : goal.invariant-loop-value
invariant-loop-value l = l.out.items ++ subscripts_bytes significant_digits (drop l.value-index l.subs) ≡ l.initial.out.items ++ subscripts_bytes significant_digits l.subs
