-- SPDX-License-Identifier: Apache-2.0
use Rattle.std.proofs.Common.{ℕ}
use Rattle.mcommand.proofs.CommandLaws.{[], ◌∷◌, ap, refl, sym, ◌∙◌, write, does_then, does_stopped, does_wanting, does_write, does_yielded}
use Rattle.mmeaning.specs.LineMeaning.{coded_character}
use Rattle.moperator.proofs.Numbers.{whole_fits}
use Rattle.mcommand.proofs.Characters.{no_character, a_character}
use Rattle.mcommand.proofs.parts.Parts.character_written.Goals as goal

pub returns-in_err-code : goal.returns-in_err-code
returns-in_err-code g c = does_stopped _ (does_yielded c.in_err-code.ensures.whole) c.from_residual.ensures

pub returns-in_default : goal.returns-in_default
returns-in_default g c =
    does_then _ (does_yielded c.in_ok-code.ensures.whole) (no_character (coded_character c.in_ok-code.code) (sym (ap coded_character (whole_fits c.in_ok-code.code c.in_ok-code.ensures.below)) ∙ sym c.coded_character.ensures ∙ c.in_default.is))

pub returns-in_err-push : goal.returns-in_err-push
returns-in_err-push g c = does_then _ (does_yielded c.in_ok-code.ensures.whole) (does_wanting _ _ _ c.from_residual-in_err-push.ensures refl refl refl refl)

pub returns : goal.returns
returns g c =
    does_then _ (does_yielded c.in_ok-code.ensures.whole)
    (a_character (coded_character c.in_ok-code.code) c.in-Some.character (sym (ap coded_character (whole_fits c.in_ok-code.code c.in_ok-code.ensures.below)) ∙ sym c.coded_character.ensures ∙ c.in-Some.is) (does_write _ _ _ _ c.in_ok-push.ensures.items refl refl refl refl c.wrote.ensures))
