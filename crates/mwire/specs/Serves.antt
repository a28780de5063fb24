-- SPDX-License-Identifier: Apache-2.0
-- What `serve` and `read_events` do with the bytes of a reader and of a writer.
use Rattle.std.specs.Prelude.{◌≡◌, ◌≢◌, ◌⊎◌, List, [], ◌∷◌, ◌++◌, MatchResult, Result, Ok, Err, Option}
use Rattle.std.specs.Io.KnownBytes.{Appends, Consumes, IsAtEnd}
use Rattle.std.specs.Str.Lines.{lines}
use mathlib.Core.Logic.{inl, inr}
use Rattle.mspec.specs.Act.{Text}
use Rattle.mmeaning.specs.Transition.{Settings, Event, Reply}
use Rattle.mnodes.specs.declared.store.NodeStore.{Ghosts}
use Rattle.mworld.specs.Promises.{KeepsPromise}
use Rattle.mworld.specs.View.{Seen}
use Rattle.mwire.specs.Steps.{AreSteps}
use Rattle.mwire.specs.Wire.{WireLine, Ignored, TooLong, Unreadable, Runs, classify, finished_lines, events_of}
use Rattle.mwire.specs.Answers.{LinesAnswered, WireLineAnswered, AnswersCutShort}
use Rattle.mwire.specs.declared.fault.WireFault.{WireFault}
use Rattle.mwire.specs.declared.fault.WireFault.TheVariants.{Read, Write, Memory}

-- the answer of a finished line is cut off, or, if the reader is at its end, that of any line
abbrev pub ServeCutShort : {S : Type 0} → Ghosts S → Settings → Seen → Option Text → Text → Text → Seen → Type 0
ServeCutShort g settings world left read sent after =
    AnswersCutShort g settings world (finished_lines read) sent after ⊎ (IsAtEnd left × AnswersCutShort g settings world (lines read) sent after)

-- how far the bytes read are answered after a fault: after a fault of a read, exactly the finished lines are; after another
-- fault, the answer of one line is cut off
abbrev pub EndsBy : {S : Type 0} → Ghosts S → Settings → Seen → Option Text → Text → Text → Seen → WireFault → Type 0
EndsBy g settings world left read sent after Read = LinesAnswered g settings world (finished_lines read) sent after
EndsBy g settings world left read sent after Write = ServeCutShort g settings world left read sent after
EndsBy g settings world left read sent after Memory = ServeCutShort g settings world left read sent after

-- ---- which lines were run, with their replies

-- the line whose answer is cut off, if it was run
abbrev pub last_ran : {S : Type 0} (g : Ghosts S) (settings : Settings) (world : Seen) (wire_line : WireLine) (bytes : Text) (after : Seen)
    → WireLineAnswered g settings world wire_line bytes after → List (Event × Reply)
last_ran g settings world Ignored bytes after answered = []
last_ran g settings world TooLong bytes after answered = []
last_ran g settings world Unreadable bytes after answered = []
last_ran g settings world (Runs e) bytes after answered = (e, answered.reply) ∷ []

abbrev pub ran_short : {S : Type 0} (g : Ghosts S) (settings : Settings) (world : Seen) (all : List Text) (sent : Text) (after : Seen)
    → AnswersCutShort g settings world all sent after → List (Event × Reply)
ran_short g settings world all sent after short =
    short.answered.trace ++ last_ran g settings short.between (classify short.last) short.answer after short.last_answered.by_wire_line

abbrev pub ran_cut : {S : Type 0} (g : Ghosts S) (settings : Settings) (world : Seen) (left : Option Text) (read sent : Text) (after : Seen)
    → ServeCutShort g settings world left read sent after → List (Event × Reply)
ran_cut g settings world left read sent after (inl short) = ran_short g settings world (finished_lines read) sent after short
ran_cut g settings world left read sent after (inr short) = ran_short g settings world (lines read) sent after short.1

abbrev pub ran_until : {S : Type 0} (g : Ghosts S) (settings : Settings) (world : Seen) (left : Option Text) (read sent : Text) (after : Seen) (fault : WireFault)
    → EndsBy g settings world left read sent after fault → List (Event × Reply)
ran_until g settings world left read sent after Read ends = ends.trace
ran_until g settings world left read sent after Write ends = ran_cut g settings world left read sent after ends
ran_until g settings world left read sent after Memory ends = ran_cut g settings world left read sent after ends

-- how `serve` ended: at the stream's end all its lines are answered
abbrev pub Outcome : {S : Type 0} → Ghosts S → Settings → Seen → Option Text → Text → Text → Seen → Result (Unit {0}) WireFault → Type 0
Outcome g settings world left read sent after result =
    MatchResult result (λ _. IsAtEnd left × LinesAnswered g settings world (lines read) sent after) (EndsBy g settings world left read sent after)

abbrev pub lines_run : {S : Type 0} (g : Ghosts S) (settings : Settings) (world : Seen) (left : Option Text) (read sent : Text) (after : Seen) (result : Result (Unit {0}) WireFault)
    → Outcome g settings world left read sent after result → List (Event × Reply)
lines_run g settings world left read sent after (Ok done) outcome = outcome.1.trace
lines_run g settings world left read sent after (Err fault) outcome = ran_until g settings world left read sent after fault outcome

-- The bytes `read` were read, and `sent` were sent, if the reader tells what it has left and the writer what it holds. At the
-- stream's end all its lines are answered. If there is no doubt of the store then, the replies of the lines that were run keep the
-- promise, whatever ended the stream.
pub record Serves {S : Type 0} (g : Ghosts S) (settings : Settings) (world after : Seen) (left left' held held' : Option Text) (result : Result (Unit {0}) WireFault) : Type 0 where
  pub read : Text
  pub consumed : Consumes left left' read
  pub sent : Text
  pub appended : Appends held held' sent
  pub outcome : Outcome g settings world left' read sent after result
  pub steps : AreSteps g settings world (lines_run g settings world left' read sent after result outcome) after
  pub promise : after.doubt ≡ 0 → KeepsPromise settings world.world (lines_run g settings world left' read sent after result outcome)

-- the bytes `read` were read, and at the stream's end the events are those of its lines
pub record ReadsEvents {V : Type 0} (events : V → List Event) (left left' : Option Text) (result : Result V WireFault) : Type 0 where
  pub read : Text
  pub consumed : Consumes left left' read
  pub outcome : MatchResult result (λ v. IsAtEnd left' × (events v ≡ events_of (lines read))) (λ fault. fault ≢ Write)
