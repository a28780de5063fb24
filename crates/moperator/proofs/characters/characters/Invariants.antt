-- SPDX-License-Identifier: Apache-2.0
use Rattle.moperator.proofs.OperatorWords.{◌≡◌, ◌++◌, drop, list_any, flat_map, is_over_ascii, character_of}
use Rattle.moperator.proofs.characters.characters.Given as goal

abbrev pub invariant-loop-code : goal.invariant-loop-code
invariant-loop-code l = record {
  ascii : list_any is_over_ascii l.codes ≡ list_any is_over_ascii (drop l.code-index l.codes);
  made : l.text ++ flat_map character_of (drop l.code-index l.codes) ≡ flat_map character_of l.codes;
}
