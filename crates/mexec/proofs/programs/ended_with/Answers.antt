-- SPDX-License-Identifier: Apache-2.0
use Rattle.mexec.proofs.ExecLaws.{refl, ap, give, write, at_as, at_any, at_then, at_stopped, at_yielded, at_gives, at_wanting}
use Rattle.mmeaning.specs.LineMeaning.{Returns, spaced_to, character_written, where_true}
use Rattle.mexec.proofs.ExecLaws.{◌≡◌, Act, Text, form_of, keyword_tree}
use Rattle.mmeaning.specs.Programs.{Pause, over, executes, lists}
use Rattle.mprogram.specs.Views.{ending_view}
use Rattle.mprogram.specs.declared.op.Ending.{Ending}
use Rattle.mprogram.specs.declared.op.Ending.TheVariants as ending
use Rattle.mexec.specs.Programs.{ends_with, pause_of}
use Rattle.mexec.specs.declared.programs.Pause.TheVariants as pause
use Rattle.mexec.specs.declared.completion.Completion.TheVariants as completion
use Rattle.mexec.proofs.ProgramRuns.{goes_over, holds_over, waits_over, tested_is}
use Rattle.mexec.proofs.programs.ended_with.Goals as goal

pub returns-in-Show : goal.returns-in-Show
returns-in-Show g c = λ w. rw (c.in-Show.is, c.paused.ensures, c.went_on.ensures) (goes_over w (write c.args.value) c.write_value.result c.write_value.ensures)

pub returns-in-Tab : goal.returns-in-Tab
returns-in-Tab g c =
    λ w. rw (c.in-Tab.is, c.paused-in-Tab.ensures, c.went_on-in-Tab.ensures) (goes_over w (spaced_to c.args.value) c.spaced_to.result c.spaced_to.ensures)

pub returns-in-Character : goal.returns-in-Character
returns-in-Character g c = λ w.
    rw (c.in-Character.is, c.paused-in-Character.ensures, c.went_on-in-Character.ensures) (goes_over w (character_written c.args.value) c.character_written.result c.character_written.ensures)

pub returns-in_err-is_true-in-Test : goal.returns-in_err-is_true-in-Test
returns-in_err-is_true-in-Test g c = λ w.
    rw c.in-Test.is (at_as (λ a n. tested_is c.args.value) (at_stopped (λ a n b. give (over (where_true b))) (at_any c.in_err-is_true-in-Test.ensures) c.from_residual.ensures))

pub returns-in-Test : goal.returns-in-Test
returns-in-Test g c = λ w.
    rw c.in-Test.is (at_as (λ a n. tested_is c.args.value) (at_then (λ a n b. give (over (where_true b))) (at_any c.in_ok-is_true-in-Test.ensures) (holds_over w c.where_true.result _ c.where_true.ensures)))

pub returns-in_err-is_true-in-Hold : goal.returns-in_err-is_true-in-Hold
returns-in_err-is_true-in-Hold g c = λ w.
    rw c.in-Hold.is (at_stopped (λ a n b. give (over (where_true b))) (at_yielded c.in_err-is_true-in-Hold.ensures.truth) c.from_residual-in_err-is_true-in-Hold.ensures)

pub returns-in-Hold : goal.returns-in-Hold
returns-in-Hold g c = λ w.
    rw c.in-Hold.is (at_then (λ a n b. give (over (where_true b))) (at_yielded c.in_ok-is_true-in-Hold.ensures.truth) (holds_over w c.where_true-in-Hold.result _ c.where_true-in-Hold.ensures))

pub returns-in-Wait : goal.returns-in-Wait
returns-in-Wait g c = λ w. rw (c.in-Wait.is, c.paused-in-Wait.ensures, c.went_on-in-Wait.ensures) (waits_over w c.args.value c.hang.result c.hang.ensures)

pub returns-in_err-value-in-Return : goal.returns-in_err-value-in-Return
returns-in_err-value-in-Return g c = λ w. rw c.in-Return.is (at_wanting _ _ _ c.from_residual-in_err-value-in-Return.ensures)

pub returns-in-Return : goal.returns-in-Return
returns-in-Return g c = λ w.
    rw c.in-Return.is (at_gives (over (Returns c.args.value)) (pause_of w) (pause.Over (completion.Returns c.in_ok-value-in-Return.value)) (ap (λ v. over (Returns v)) c.in_ok-value-in-Return.ensures.ok))

pub returns-in-Run : goal.returns-in-Run
returns-in-Run g c = λ w. rw c.in-Run.is (at_gives (executes c.args.value) (pause_of w) (pause.Executes c.args.value) refl)

pub returns-in-Indirect : goal.returns-in-Indirect
returns-in-Indirect g c = λ w. rw c.in-Indirect.is (at_gives (lists (form_of (keyword_tree c.in-Indirect.keyword)) c.args.value) (pause_of w) (pause.Lists c.in-Indirect.keyword c.args.value) refl)

-- what does nothing with a value
other_ending : (k : Ending) (v : Text) → (k ≡ ending.Show → ⊥) → (k ≡ ending.Tab → ⊥) → (k ≡ ending.Character → ⊥) → (k ≡ ending.Test → ⊥)
    → (k ≡ ending.Hold → ⊥) → (k ≡ ending.Wait → ⊥) → (k ≡ ending.Return → ⊥) → ((word : _) → k ≡ ending.Indirect word → ⊥)
    → ◌≡◌ {A = Act Pause} (ends_with (ending_view k) v) (give (executes v))
other_ending ending.Show v show tab character test hold wait returns indirect = absurd (show refl)
other_ending ending.Tab v show tab character test hold wait returns indirect = absurd (tab refl)
other_ending ending.Character v show tab character test hold wait returns indirect = absurd (character refl)
other_ending ending.Test v show tab character test hold wait returns indirect = absurd (test refl)
other_ending ending.Hold v show tab character test hold wait returns indirect = absurd (hold refl)
other_ending ending.Wait v show tab character test hold wait returns indirect = absurd (wait refl)
other_ending ending.Return v show tab character test hold wait returns indirect = absurd (returns refl)
other_ending (ending.Indirect word) v show tab character test hold wait returns indirect = absurd (indirect word refl)
other_ending k v show tab character test hold wait returns indirect = refl

pub returns : goal.returns
returns g c = λ w.
    at_as (λ a n. other_ending c.args.ending c.args.value c.in_default.not-Show c.in_default.not-Tab c.in_default.not-Character c.in_default.not-Test c.in_default.not-Hold c.in_default.not-Wait c.in_default.not-Return c.in_default.not-Indirect)
    (at_gives (executes c.args.value) (pause_of w) (pause.Executes c.args.value) refl)
