-- SPDX-License-Identifier: Apache-2.0
use Rattle.mnum.proofs.NumWords.{◌-◌, ◌<◌, sym, subst, length, drop, arith, length-drop, take_all, nat_tests, IsName}
use Rattle.mnum.proofs.NameTexts.{name_told}
use Rattle.mnum.proofs.name.is_name.Goals as goal

pub returns-then-starts_name : goal.returns-then-starts_name
returns-then-starts_name c =
    let characters = c.as_bytes-characters.result.now in
    let rest = drop 1 characters in
    let some : 0 < length characters = grind (arith, nat_tests, c.if-is_empty.ensures) in
    let whole = take_all (length characters - 1) rest (omega (arith, length-drop 1 characters)) in
    let told = name_told characters _ some c.if-characters-gt-MAX_NAME.false (sym c.if-starts_name.ensures) whole in (
      λ is. subst IsName c.as_bytes-characters.ensures.bytes (told.0 (c.continue_name.ensures.0 is)),
      λ name. c.continue_name.ensures.1 (told.1 (subst IsName (sym c.as_bytes-characters.ensures.bytes) name)),
    )
