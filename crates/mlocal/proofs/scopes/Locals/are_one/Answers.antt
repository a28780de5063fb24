-- SPDX-License-Identifier: Apache-2.0
use Rattle.mlocal.proofs.LocalLaws.{ap, sym, refl, ◌∙◌, bottom_of, found-at}
use Rattle.mspec.specs.Scopes.{are_one}
use Rattle.mlocal.proofs.OneHome.{are_one_by, one_place, other_place}
use Rattle.mlocal.proofs.scopes.Locals.are_one.Goals as goal

pub returns-then-is_one_place : goal.returns-then-is_one_place
returns-then-is_one_place c =
    let m = c.args.one.now in
    let n = c.args.other.now in
    let l = c.self.inside in
    let first = c.home-first.result in
    let second = c.home-second.result in
    let of_m = found-at m _ _ c.as_slice-levels.result.now l.levels.items first.0 first.0 c.home-first.ensures c.as_slice-levels.ensures.value refl refl in
    let of_n = found-at n _ _ c.as_slice-levels.result.now l.levels.items second.0 second.0 c.home-second.ensures c.as_slice-levels.ensures.value refl refl in
    let whole = are_one_by l.levels.items (bottom_of l.bottom) m n _ _ first.0 second.0 refl of_m of_n ∙ ap (λ s. are_one s m n) c.self.view_is in
    let same = rw (c.known_as-mine.ensures, c.known_as-theirs.ensures) at c.eq.ensures in
    same ∙ one_place _ _ _ whole (sym c.is_one_place.ensures ∙ c.if-is_one_place.true)

pub returns-else-is_one_place : goal.returns-else-is_one_place
returns-else-is_one_place c =
    let m = c.args.one.now in
    let n = c.args.other.now in
    let l = c.self.inside in
    let first = c.home-first.result in
    let second = c.home-second.result in
    let of_m = found-at m _ _ c.as_slice-levels.result.now l.levels.items first.0 first.0 c.home-first.ensures c.as_slice-levels.ensures.value refl refl in
    let of_n = found-at n _ _ c.as_slice-levels.result.now l.levels.items second.0 second.0 c.home-second.ensures c.as_slice-levels.ensures.value refl refl in
    let whole = are_one_by l.levels.items (bottom_of l.bottom) m n _ _ first.0 second.0 refl of_m of_n ∙ ap (λ s. are_one s m n) c.self.view_is in
    c.if-is_one_place.false ∙ other_place _ _ _ whole (sym c.is_one_place.ensures ∙ c.if-is_one_place.false)
