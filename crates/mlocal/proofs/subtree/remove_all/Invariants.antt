-- SPDX-License-Identifier: Apache-2.0
use Rattle.mlocal.proofs.LocalWords.{◌≡◌, cond, take, All, List, None, keys, Text, subscripts_cmp, significant_digits, AreSomeSubs, is_one_of}
use Rattle.std.specs.BTreeMap.{get}
use Rattle.mlocal.proofs.subtree.remove_all.Given as goal

abbrev pub invariant-loop-key : goal.invariant-loop-key
invariant-loop-key l = record {
  taken : (q : List Text) → get (subscripts_cmp significant_digits) l.values q ≡ cond (is_one_of (take l.key-index l.found) q) None (get (subscripts_cmp significant_digits) l.fn.values q);
  subs : All AreSomeSubs (keys l.fn.values) → All AreSomeSubs (keys l.values);
}
