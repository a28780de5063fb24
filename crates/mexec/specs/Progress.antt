-- SPDX-License-Identifier: Apache-2.0
-- How far something is done: to its end, with its completion, or up to where it stops.
use Rattle.std.specs.Prelude.{List, Result, Ok, Err}
use Rattle.mspec.specs.Act.{Act, give}
use Rattle.mmeaning.specs.LineMeaning as meaning
use Rattle.mmeaning.specs.LineMeaning.{Go_on}
use Rattle.moperator.specs.declared.code.Code.{Code}
use Rattle.mexec.specs.declared.completion.Completion.{Completion}
use Rattle.mexec.specs.declared.completion.Progress as the_progress
use Rattle.mexec.specs.declared.completion.Progress.TheVariants as progress
use Rattle.mexec.specs.Frames.{completion_of}

pub data Progress (T : Type 0) : Type 0 where
  over : meaning.Completion → Progress T
  stops : T → Progress T

-- what comes after: what is next, if it gave Go_on, and otherwise nothing but what it left
abbrev pub behind : {T A : Type 0} → Progress T → List A → Act (Progress T × List A) → Act (Progress T × List A)
behind (over Go_on) more next = next
behind p more next = give (p, more)

-- the same for the program
abbrev pub progress_of : {T U : Type 0} → (T → U) → the_progress.Progress T → Progress U
progress_of view (progress.Over s) = over (completion_of s)
progress_of view (progress.Stops t) = stops (view t)

-- what holds where it stops
abbrev pub IfStops : {T : Type 0} → the_progress.Progress T → (T → Type 0) → Type 0
IfStops (progress.Over s) P = Unit {0}
IfStops (progress.Stops t) P = P t

-- a completion as such
abbrev pub ends : {T : Type 0} → Result Completion Code → Result (the_progress.Progress T) Code
ends (Ok s) = Ok (progress.Over s)
ends (Err c) = Err c
