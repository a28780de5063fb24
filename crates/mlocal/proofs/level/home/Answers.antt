-- SPDX-License-Identifier: Apache-2.0
use Rattle.std.proofs.lemmas.List.{get_or_default}
use Rattle.mlocal.proofs.LocalLaws.{◌≡◌, ◌+◌, ◌-◌, ◌<◌, false, Some, ap, sym, subst, ◌∙◌, arith, length, drop, get_or, unwrap_or, option_map, has, linked}
use Rattle.mlocal.proofs.LocalLaws.{known_below, one-down, free_from, free_to}
use Rattle.mlocal.proofs.level.home.Goals as goal

pub loop-place-init : goal.loop-place-init
loop-place-init c =
    let start = c.start_of-place.ensures in
    (start.within, free_from c.args.name.now c.args.levels.now _ start.within start.free)

pub loop-place-preserved-in-Some : goal.loop-place-preserved-in-Some
loop-place-preserved-in-Some c =
    let xs = c.args.levels.now in
    let n = c.args.name.now in
    let q = c.loop-place.place - 1 in
    let known = c.known_as-known.result.now in
    let one = c.index-levels-place.result in
    let two = c.index-levels-place-in-loop-place.result in
    let lt : q < length xs = omega (arith, c.loop-place.invariant.0) in
    let at : c.loop-place.place ≡ q + 1 = omega arith in
    let up : known_below (drop (q + 1) xs) n ≡ Some known =
    subst (λ i. known_below (drop i xs) n ≡ Some known) at (c.loop-place.invariant.1 ∙ ap Some (sym c.known_as-known.ensures)) in
    let lacks : has (get_or xs q one) known ≡ false = ap (λ s. has s known) (sym c.index-levels-place.is) ∙ sym c.has.ensures ∙ c.if-has.false in
    let same = get_or_default xs q one two lt ∙ sym c.index-levels-place-in-loop-place.is in
    let to : linked (get_or xs q one) known ≡ c.in-Some.below.now =
    ap (λ s. linked s known) same ∙ ap (λ o. unwrap_or o known) (sym c.link.ensures)
    ∙ ap (λ o. unwrap_or (option_map (λ x. x.now) o) known) c.in-Some.is in
    let down = one-down n known xs q one lt up lacks ∙ ap Some to in (
      omega (arith, c.min-place.ensures, c.start_of.ensures.within),
      free_to n c.in-Some.below.now xs q c.start_of.result c.min-place.result (omega (arith, lt)) down c.start_of.ensures.free c.min-place.ensures,
    )
