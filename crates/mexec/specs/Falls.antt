-- SPDX-License-Identifier: Apache-2.0
-- Why the loop over frames ends. It is kept apart from Frames, because what a scratch keeps names Frames.
use Rattle.std.specs.Prelude.{ℕ, ◌≤◌, ◌+◌, ◌*◌, List, [], ◌∷◌, Result, Bool, true, false, IfOk}
use Rattle.mcommand.specs.declared.parts.Parts.{Parts}
use Rattle.mexec.specs.declared.frames.Frame.{Frame}
use Rattle.mexec.specs.declared.frames.Frame.TheVariants as frame
use Rattle.mexec.specs.declared.scratch.Scratch.{Scratch}

-- what a frame counts: a program may end with a text, which puts two frames and spends no step
abbrev pub weight : Frame → ℕ
weight (frame.Program s) = 3
weight f = 1

-- whether a frame is of a kind that few lines need
abbrev pub is_rare : Frame → Bool
is_rare (frame.Continuation r) = false
is_rare (frame.ForLoop t) = false
is_rare (frame.Level p c) = false
is_rare f = true

abbrev pub size : List Frame → ℕ
size [] = 0
size (f ∷ fs) = weight f + size fs

-- what each call that may put frames lets fall if it succeeds: it takes a frame off, or spends a step
abbrev pub Falls : {S X E : Type 0} → Parts S → Scratch → Result X E → Parts S → Scratch → Type 0
Falls old scratch result new scratch' = IfOk result (λ _. 6 * new.eval.steps + size scratch'.frames.items ≤ 6 * old.eval.steps + size scratch.frames.items)

-- the same with one frame fewer
abbrev pub FallsFurther : {S X E : Type 0} → Parts S → Scratch → Result X E → Parts S → Scratch → Type 0
FallsFurther old scratch result new scratch' =
    IfOk result (λ _. 6 * new.eval.steps + size scratch'.frames.items + 1 ≤ 6 * old.eval.steps + size scratch.frames.items)

-- with a step spent and two frames put: there is room for four more
abbrev pub FallsByEntry : {S X E : Type 0} → Parts S → Scratch → Result X E → Parts S → Scratch → Type 0
FallsByEntry old scratch result new scratch' =
    IfOk result (λ _. 6 * new.eval.steps + size scratch'.frames.items + 4 ≤ 6 * old.eval.steps + size scratch.frames.items)

-- with some frames more
abbrev pub FallsBy : {S X E : Type 0} → (more : ℕ) → Parts S → Scratch → Result X E → Parts S → Scratch → Type 0
FallsBy more old scratch result new scratch' =
    IfOk result (λ _. 6 * new.eval.steps + size scratch'.frames.items ≤ 6 * old.eval.steps + size scratch.frames.items + more)

-- with two frames more: of a program that ends with a text
abbrev pub FallsByTwo : {S X E : Type 0} → Parts S → Scratch → Result X E → Parts S → Scratch → Type 0
FallsByTwo old scratch result new scratch' =
    IfOk result (λ _. 6 * new.eval.steps + size scratch'.frames.items ≤ 6 * old.eval.steps + size scratch.frames.items + 2)
