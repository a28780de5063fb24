-- SPDX-License-Identifier: Apache-2.0
use Rattle.mtext.proofs.TextWords.{◌-◌, ◌≤◌, ap, arith, subst, length, made, pos, unwrap_or, from_place, Answers}
use Rattle.std.proofs.lemmas.Bool.{leb-true}
use Rattle.mspec.specs.TextFunctions.{to_place}
use Rattle.mtext.proofs.PieceSetting.{characters_past}
use Rattle.mtext.proofs.making.set_extract.Goals as goal

pub returns-then-before-length : goal.returns-then-before-length
returns-then-before-length c =
    let s = c.args.text.now in
    let first = from_place (unwrap_or c.args.from (pos 1)) in
    let last = to_place (unwrap_or c.args.to (unwrap_or c.args.from (pos 1))) in
    let same = ap length c.as_bytes-characters.ensures.bytes in
    let past : length s ≤ first - 1 = omega (arith, c.if-before-length.true, same, c.range-before.ensures.before) in
    let ranged : first ≤ last = leb-true first last c.requires in
    let order : first - 1 ≤ last = omega (arith, ranged) in
    let padded = rw (c.as_bytes-characters.ensures.bytes, c.as_bytes.ensures.bytes, c.range-before.ensures.before) at c.padded.ensures in
    subst (λ t. Answers (made t) c.padded.result) (characters_past s c.args.value.now (first - 1) last past order) padded
