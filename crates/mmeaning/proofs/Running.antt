-- SPDX-License-Identifier: Apache-2.0
-- The words of examples, one name for what they unfold, and one for the rules by which `simp` runs lines.
pub use Rattle.std.proofs.Common.{◌≡◌, List, [], ◌∷◌, Some, None, true, false, refl}
pub use Rattle.std.specs.Prelude.{codes}
pub use Rattle.std.specs.FinMap.{empty, gets}
pub use Rattle.mspec.specs.Globals.{Globals}
pub use Rattle.mspec.specs.Act.{Text}
pub use Rattle.mmeaning.specs.Transition.{new_session}
pub use Rattle.mmeaning.specs.History.{opening}
pub use Rattle.mmeaning.proofs.ExampleAccount.{account, with_steps, done, failed}
pub use Rattle.mmeaning.proofs.LineRuns.{AreAnswered, Answered, AreAnsweredEach, Each, serving, at_column, holding_after, holding, at_first, at_last, at_case}
pub use Rattle.mmeaning.proofs.LineRuns.{no_more}
pub use Rattle.mmeaning.proofs.RoutineRuns.{lines_in, asked, serving_in, holding_in, With, WithSteps, WithEach, WithEachIn, Anywhere, computed_operations}
use Rattle.mmeaning.proofs.MeaningWords.{◌*◌, rules, ◌^◌, no_locals, level_begun, level_bound, value_of, assigned_to, canonical_value, size_text, computed_maps}
use Rattle.mmeaning.proofs.MeaningWords.{computed_numbers, computes, reads_in, Bool}
use Rattle.mspec.specs.Pieces.{pieces_of}
use Rattle.mspec.specs.TextFunctions.{first_place, with_piece}
use Rattle.mmeaning.proofs.RoutineRuns.{computed_levels}

-- its own line names them
unfoldable pub runs : Bool
unfolding reads_in assigned_to canonical_value first_place level_begun level_bound no_locals pieces_of value_of with_piece
runs = true

pub ruleset running = (computed_levels, gets, computed_maps, computed_numbers)

-- texts of numbers that few examples have
pub record Numbers : Type 0 where
  pub of_tenth : size_text (10 ^ 17) ≡ codes ".1"
  pub of_1_point_9 : size_text (19 * 10 ^ 17) ≡ codes "1.9"
  pub of_2_point_9 : size_text (29 * 10 ^ 17) ≡ codes "2.9"
  pub of_501 : size_text (501 * 10 ^ 18) ≡ codes "501"
  pub of_largest : size_text (999999999999999999 * 10 ^ 18) ≡ codes "999999999999999999"

pub numbers : Numbers
unfolding computes
numbers = search rules
