-- SPDX-License-Identifier: Apache-2.0
use Rattle.mexec.proofs.ExecLaws.{suc, ◌≡◌, List, [], ◌∷◌, Some, None, slice_get, unwrap_or, map, ap, sym, refl, ◌∙◌, context, keyword_tree, arg_tree}
use Rattle.mexec.proofs.ExecLaws.{parameter_tree, position_of, stops, at_loop, at_gives, at_as, one_more, gives_stop, begun_stops, begun_ahead, bare_ahead, other_started, arith}
use Rattle.mtree.specs.declared.tree.Arg.TheVariants as arg
use Rattle.mexec.specs.Fronts.{word_started}
use Rattle.mexec.proofs.front.effect.Goals as goal

-- the first of a list
first_none : {A : Type 0} (xs : List A) → slice_get xs 0 ≡ None → xs ≡ []
first_none [] e = refl
first_none (x ∷ xs) e = cc

first_some : {A : Type 0} (xs : List A) (x : A) → slice_get xs 0 ≡ Some x → (rest : List A) × (xs ≡ x ∷ rest)
first_some [] x e = cc
first_some (y ∷ xs) x e = (xs, ap (λ o. unwrap_or o x ∷ xs) e)

pub returns-in-None-clause-stops : goal.returns-in-None-clause-stops
returns-in-None-clause-stops g c =
    let first = rw c.in-None.is at c.first.ensures.value in
    rw (first_none c.args.args.now (sym first)) c.bare.ensures.turns

pub returns-in-None-clause-does : goal.returns-in-None-clause-does
returns-in-None-clause-does g c =
    let first = rw c.in-None.is at c.first.ensures.value in
    rw (first_none c.args.args.now (sym first))
    (one_more (λ a n. word_started (context a n (position_of c.args.position.now)) (keyword_tree c.args.keyword)) (c.bare.ensures.does (position_of c.args.position.now)))

pub returns-in-Loop-clause-stops : goal.returns-in-Loop-clause-stops
returns-in-Loop-clause-stops g c =
    let first = rw c.in-Some.is at c.first.ensures.value in
    let some = first_some c.args.args.now (arg.Loop c.in-Loop.index c.in-Loop.parameters) (sym first ∙ ap Some c.in-Loop.is) in
    rw some.1 (ap (λ ps. (c.in-Loop.index, ps)) (sym c.as_slice.ensures.value), refl)

pub returns-in-Loop-clause-does : goal.returns-in-Loop-clause-does
returns-in-Loop-clause-does g c =
    let first = rw c.in-Some.is at c.first.ensures.value in
    let some = first_some c.args.args.now (arg.Loop c.in-Loop.index c.in-Loop.parameters) (sym first ∙ ap Some c.in-Loop.is) in
    rw some.1 (at_gives (stops (at_loop c.in-Loop.index (map parameter_tree c.in-Loop.parameters.items))) _ _ (ap (λ ps. stops (at_loop c.in-Loop.index (map parameter_tree ps))) c.as_slice.ensures.value))

pub returns-in_default-clause-stops : goal.returns-in_default-clause-stops
returns-in_default-clause-stops g c = rw c.stopped.ensures (begun_stops c.args.args.now c.arguments_begun.result c.arguments_begun.ensures.enters)

pub returns-in_default-clause-does : goal.returns-in_default-clause-does
returns-in_default-clause-does g c =
    let first = rw c.in-Some.is at c.first.ensures.value in
    let some = first_some c.args.args.now c.in-Some.first.now (sym first) in
    let does = rw some.1 at c.arguments_begun.ensures.does in
    rw (c.stopped.ensures, some.1)
    (at_as (λ a n. other_started (context a (suc n) (position_of c.args.position.now)) (keyword_tree c.args.keyword) c.in-Some.first.now (map arg_tree some.0) c.in_default.not-Loop)
    (gives_stop (c.in-Some.first.now ∷ some.0) c.arguments_begun.result does))

pub returns-in-None-clause-ahead : goal.returns-in-None-clause-ahead
returns-in-None-clause-ahead g c =
    let does = c.bare.ensures.does (position_of c.args.position.now) in
    bare_ahead _ _ c.bare.result does.keeps.eval.fewer c.bare.ensures.ahead

pub returns-in-Loop-clause-ahead : goal.returns-in-Loop-clause-ahead
returns-in-Loop-clause-ahead g c = omega arith

pub returns-in_default-clause-ahead : goal.returns-in_default-clause-ahead
returns-in_default-clause-ahead g c = rw c.stopped.ensures (begun_ahead _ _ c.arguments_begun.result c.arguments_begun.ensures.ahead)
