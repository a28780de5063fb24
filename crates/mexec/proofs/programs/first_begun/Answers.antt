-- SPDX-License-Identifier: Apache-2.0
use Rattle.mexec.proofs.ExecLaws.{◌≡◌, ◌∙◌, [], suc, Option, Some, Result, refl, at_wanting, subst, context, position_of, Ghosts, Code, Parts, DoesAt}
use Rattle.mmeaning.specs.LineMeaning.{Position}
use Rattle.mmeaning.specs.Programs as programs
use Rattle.mprogram.specs.Views.{whole_view}
use Rattle.mprogram.specs.Wholes.{WholeTree, steps_of, ending_of}
use Rattle.mexec.specs.Places.{place_position}
use Rattle.mexec.specs.Programs.{pause_of}
use Rattle.mexec.specs.declared.programs.Pause.{Pause}
use Rattle.mexec.proofs.programs.first_begun.Goals as goal

-- what is begun of something is begun of what equals it
begun_of : {S : Type 0} {g : Ghosts S} (p : Position) (v w : WholeTree) {old new : Parts S} {r : Result Pause Code} → v ≡ w
    → DoesAt g (λ a n. programs.begun (context a (suc n) p) p.depth (steps_of v) (ending_of v) []) (pause_of v) old r new
    → DoesAt g (λ a n. programs.begun (context a (suc n) p) p.depth (steps_of w) (ending_of w) []) (pause_of w) old r new
begun_of {g = g} p v w {old = old} {new = new} {r = r} same does =
    subst (λ (t : WholeTree). DoesAt g (λ a n. programs.begun (context a (suc n) p) p.depth (steps_of t) (ending_of t) []) (pause_of t) old r new) same does

pub returns-in_default : goal.returns-in_default
returns-in_default g c = λ w there. at_wanting _ _ _ (refl, refl)

pub returns : goal.returns
returns g c = λ w there.
    let whole = rw c.in-Some.is at c.whole.ensures in
    let same : whole_view c.in-Some.whole ≡ w = let both : ◌≡◌ {A = Option WholeTree} (Some (whole_view c.in-Some.whole)) (Some w) = whole ∙ there in cc in
    let does = rw (c.new.ensures.items, c.position-position.ensures) at c.begun.ensures in
    begun_of (position_of (place_position c.args.place)) (whole_view c.in-Some.whole) w same does
