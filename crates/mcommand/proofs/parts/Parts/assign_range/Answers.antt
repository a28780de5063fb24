-- SPDX-License-Identifier: Apache-2.0
use Rattle.mcommand.proofs.CommandLaws.{◌≡◌, Ok, Err, subst, Text, Answers, option_map, sym, refl, ◌∙◌, place_view, does_then, does_true, does_false}
use Rattle.mcommand.proofs.CommandLaws.{does_stopped, does_evaluated, does_gives, with_range, made_put, made_read_failed, made_wanting, made_assigned}
use Rattle.mcommand.proofs.CommandLaws.{made_refused}
use Rattle.mspec.specs.TextFunctions.{set_range_of}
use Rattle.mcommand.proofs.parts.Parts.assign_range.Goals as goal

pub returns-then-not-has_places : goal.returns-then-not-has_places
returns-then-not-has_places g c = does_false _ _ _ (sym c.has_places.ensures ∙ c.if-not-has_places.true) (does_gives tt (λ (u : Unit {0}). u) tt refl)

pub returns-in_err-left : goal.returns-in_err-left
returns-in_err-left g c =
    does_true _ _ _ (sym c.has_places.ensures ∙ c.if-not-has_places.false)
    (does_stopped (λ i. made_put (with_range c.args.value.now (option_map (λ d. d.now) c.args.delimiter) c.args.from c.args.to)) (does_evaluated c.in_err-left.ensures.does) c.from_residual.ensures)

pub returns-in_err-old : goal.returns-in_err-old
returns-in_err-old g c =
    does_true _ _ _ (sym c.has_places.ensures ∙ c.if-not-has_places.false) (does_then (λ i. made_put (with_range c.args.value.now (option_map (λ d. d.now) c.args.delimiter) c.args.from c.args.to)) (does_evaluated c.in_ok-left.ensures.does)
    (made_read_failed (with_range c.args.value.now (option_map (λ d. d.now) c.args.delimiter) c.args.from c.args.to) (place_view c.in_ok-left.left) (does_evaluated c.in_err-old.ensures) c.from_residual-in_err-old.ensures))

pub returns-in_err-shown : goal.returns-in_err-shown
returns-in_err-shown g c =
    does_true _ _ _ (sym c.has_places.ensures ∙ c.if-not-has_places.false) (does_then (λ i. made_put (with_range c.args.value.now (option_map (λ d. d.now) c.args.delimiter) c.args.from c.args.to)) (does_evaluated c.in_ok-left.ensures.does)
    (made_wanting (with_range c.args.value.now (option_map (λ d. d.now) c.args.delimiter) c.args.from c.args.to) (place_view c.in_ok-left.left) c.in_ok-old.old (does_evaluated c.in_ok-old.ensures) c.from_residual-in_err-shown.ensures))

pub returns-in_err-new : goal.returns-in_err-new
returns-in_err-new g c =
    let shown : c.as_text.result.now ≡ c.args.value.now = c.as_text.ensures ∙ c.in_ok-shown.ensures in
    let refused =
    subst (λ (t : Text). Answers (set_range_of c.in_ok-old.old (option_map (λ d. d.now) c.args.delimiter) c.args.from c.args.to t) (Err c.in_err-new.field-0.0)) shown c.in_err-new.ensures in
    does_true _ _ _ (sym c.has_places.ensures ∙ c.if-not-has_places.false) (does_then (λ i. made_put (with_range c.args.value.now (option_map (λ d. d.now) c.args.delimiter) c.args.from c.args.to)) (does_evaluated c.in_ok-left.ensures.does)
    (made_refused (with_range c.args.value.now (option_map (λ d. d.now) c.args.delimiter) c.args.from c.args.to) (place_view c.in_ok-left.left) c.in_ok-old.old (does_evaluated c.in_ok-old.ensures) _ _ refused c.from_residual-in_err-new.ensures))

pub returns : goal.returns
returns g c =
    let made = rw (c.as_text.ensures, c.in_ok-shown.ensures) at c.in_ok-new.ensures in
    let does = rw c.of_text.ensures at c.put.ensures in
    does_true _ _ _ (sym c.has_places.ensures ∙ c.if-not-has_places.false) (does_then (λ i. made_put (with_range c.args.value.now (option_map (λ d. d.now) c.args.delimiter) c.args.from c.args.to)) (does_evaluated c.in_ok-left.ensures.does)
    (made_assigned (with_range c.args.value.now (option_map (λ d. d.now) c.args.delimiter) c.args.from c.args.to) (place_view c.in_ok-left.left) c.in_ok-old.old (does_evaluated c.in_ok-old.ensures) c.in_ok-new.new _ _ made (does_evaluated does)))
