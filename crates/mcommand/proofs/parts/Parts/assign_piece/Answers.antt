-- SPDX-License-Identifier: Apache-2.0
use Rattle.mcommand.proofs.CommandLaws.{◌≡◌, Ok, Err, ◌∙◌, subst, Text, ◌>>=◌, set_piece_of, Answers, place_view, does_then, does_stopped, does_evaluated}
use Rattle.mcommand.proofs.CommandLaws.{does_yielded, with_piece, made_put, made_read_failed, made_wanting, made_assigned, made_refused}
use Rattle.mmeaning.specs.Functions.{text_at, whole_at}
use Rattle.mcommand.proofs.parts.Parts.assign_piece.Goals as goal

pub returns-in_err-left : goal.returns-in_err-left
returns-in_err-left g c =
    does_stopped (λ i p. whole_at 1 c.args.values.now >>= λ n. made_put (with_piece c.args.value.now c.args.values.now n) p)
    (does_evaluated c.in_err-left.ensures.does) c.from_residual.ensures

pub returns-in_err-place : goal.returns-in_err-place
returns-in_err-place g c =
    does_then (λ i p. whole_at 1 c.args.values.now >>= λ n. made_put (with_piece c.args.value.now c.args.values.now n) p) (does_evaluated c.in_ok-left.ensures.does)
    (does_stopped (λ i n. made_put (with_piece c.args.value.now c.args.values.now n) (place_view c.in_ok-left.left)) (does_yielded c.in_err-place.ensures.whole) c.from_residual-in_err-place.ensures)

pub returns-in_err-old : goal.returns-in_err-old
returns-in_err-old g c =
    does_then (λ i p. whole_at 1 c.args.values.now >>= λ n. made_put (with_piece c.args.value.now c.args.values.now n) p) (does_evaluated c.in_ok-left.ensures.does)
    (does_then (λ i n. made_put (with_piece c.args.value.now c.args.values.now n) (place_view c.in_ok-left.left)) (does_yielded c.in_ok-place.ensures.whole)
    (made_read_failed (with_piece c.args.value.now c.args.values.now c.in_ok-place.place) (place_view c.in_ok-left.left) (does_evaluated c.in_err-old.ensures) c.from_residual-in_err-old.ensures))

pub returns-in_err-delimiter : goal.returns-in_err-delimiter
returns-in_err-delimiter g c =
    does_then (λ i p. whole_at 1 c.args.values.now >>= λ n. made_put (with_piece c.args.value.now c.args.values.now n) p) (does_evaluated c.in_ok-left.ensures.does)
    (does_then (λ i n. made_put (with_piece c.args.value.now c.args.values.now n) (place_view c.in_ok-left.left)) (does_yielded c.in_ok-place.ensures.whole)
    (made_wanting (with_piece c.args.value.now c.args.values.now c.in_ok-place.place) (place_view c.in_ok-left.left) c.in_ok-old.old (does_evaluated c.in_ok-old.ensures) c.from_residual-in_err-delimiter.ensures))

pub returns-in_err-shown : goal.returns-in_err-shown
returns-in_err-shown g c =
    does_then (λ i p. whole_at 1 c.args.values.now >>= λ n. made_put (with_piece c.args.value.now c.args.values.now n) p) (does_evaluated c.in_ok-left.ensures.does)
    (does_then (λ i n. made_put (with_piece c.args.value.now c.args.values.now n) (place_view c.in_ok-left.left)) (does_yielded c.in_ok-place.ensures.whole)
    (made_wanting (with_piece c.args.value.now c.args.values.now c.in_ok-place.place) (place_view c.in_ok-left.left) c.in_ok-old.old (does_evaluated c.in_ok-old.ensures) c.from_residual-in_err-shown.ensures))

pub returns-in_err-new : goal.returns-in_err-new
returns-in_err-new g c =
    let delimiter : c.as_text.result.now ≡ text_at 0 c.args.values.now = c.as_text.ensures ∙ c.in_ok-delimiter.ensures in
    let shown : c.as_text-2.result.now ≡ c.args.value.now = c.as_text-2.ensures ∙ c.in_ok-shown.ensures in
    let of_delimiter = subst (λ (d : Text). Answers (set_piece_of c.in_ok-old.old d c.in_ok-place.place c.as_text-2.result.now) (Err c.in_err-new.field-0.0)) delimiter c.in_err-new.ensures in
    let refused = subst (λ (t : Text). Answers (set_piece_of c.in_ok-old.old (text_at 0 c.args.values.now) c.in_ok-place.place t) (Err c.in_err-new.field-0.0)) shown of_delimiter in
    does_then (λ i p. whole_at 1 c.args.values.now >>= λ n. made_put (with_piece c.args.value.now c.args.values.now n) p) (does_evaluated c.in_ok-left.ensures.does)
    (does_then (λ i n. made_put (with_piece c.args.value.now c.args.values.now n) (place_view c.in_ok-left.left)) (does_yielded c.in_ok-place.ensures.whole)
    (made_refused (with_piece c.args.value.now c.args.values.now c.in_ok-place.place) (place_view c.in_ok-left.left) c.in_ok-old.old (does_evaluated c.in_ok-old.ensures) _ _ refused c.from_residual-in_err-new.ensures))

pub returns : goal.returns
returns g c =
    let made = rw (c.as_text.ensures, c.in_ok-delimiter.ensures, c.as_text-2.ensures, c.in_ok-shown.ensures) at c.in_ok-new.ensures in
    let does = rw c.of_text.ensures at c.put.ensures in
    does_then (λ i p. whole_at 1 c.args.values.now >>= λ n. made_put (with_piece c.args.value.now c.args.values.now n) p) (does_evaluated c.in_ok-left.ensures.does)
    (does_then (λ i n. made_put (with_piece c.args.value.now c.args.values.now n) (place_view c.in_ok-left.left)) (does_yielded c.in_ok-place.ensures.whole)
    (made_assigned (with_piece c.args.value.now c.args.values.now c.in_ok-place.place) (place_view c.in_ok-left.left) c.in_ok-old.old (does_evaluated c.in_ok-old.ensures) c.in_ok-new.new _ _ made (does_evaluated does)))
