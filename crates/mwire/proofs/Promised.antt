-- SPDX-License-Identifier: Apache-2.0
-- The lines that were run are a history, so their replies keep the promise.
use Rattle.mwire.proofs.WireWords.{◌≡◌, List, [], ◌∷◌, Option, Result, Ok, Err, inl, inr, refl, Text, Settings, Seen, Ghosts, AreSteps, WireLine, Ignored}
use Rattle.mwire.proofs.WireWords.{TooLong, Unreadable, Runs, classify, finished_lines, lines, WireLineAnswered, AnswersCutShort, ServeCutShort, EndsBy, Serves}
use Rattle.mwire.proofs.WireWords.{WireFault, Read, Write, Memory, Visit, AreServed}
use Rattle.std.specs.Io.KnownBytes.{Appends, Consumes}
use Rattle.mworld.specs.Promises.{KeepsPromise}
use Rattle.mwire.proofs.StepsTaken.{steps_none, steps_one, steps_on}
use Rattle.mworld.proofs.Promised.{promised}
use Rattle.mwire.specs.Serves.{Outcome, last_ran, ran_short, ran_cut, ran_until, lines_run}
use Rattle.mwire.specs.Connections.{lines_of_each}

module _ {S : Type 0} (g : Ghosts S) (settings : Settings) where
  last_steps : (world : Seen) (wire_line : WireLine) (bytes : Text) (after : Seen) (answered : WireLineAnswered g settings world wire_line bytes after)
      → AreSteps g settings world (last_ran g settings world wire_line bytes after answered) after
  last_steps world Ignored bytes after answered = steps_none answered.1
  last_steps world TooLong bytes after answered = steps_none answered.1
  last_steps world Unreadable bytes after answered = steps_none answered.1
  last_steps world (Runs e) bytes after answered = steps_one e answered.reply answered.transition answered.doubt answered.sufficed

  short_steps : (world : Seen) (all : List Text) (sent : Text) (after : Seen) (short : AnswersCutShort g settings world all sent after)
      → AreSteps g settings world (ran_short g settings world all sent after short) after
  short_steps world all sent after short =
      steps_on short.answered.trace (last_ran g settings short.between (classify short.last) short.answer after short.last_answered.by_wire_line) short.answered.steps
      (last_steps short.between (classify short.last) short.answer after short.last_answered.by_wire_line)

  cut_steps : (world : Seen) (left : Option Text) (read sent : Text) (after : Seen) (cut : ServeCutShort g settings world left read sent after)
      → AreSteps g settings world (ran_cut g settings world left read sent after cut) after
  cut_steps world left read sent after (inl short) = short_steps world (finished_lines read) sent after short
  cut_steps world left read sent after (inr short) = short_steps world (lines read) sent after short.1

  until_steps : (world : Seen) (left : Option Text) (read sent : Text) (after : Seen) (fault : WireFault) (ends : EndsBy g settings world left read sent after fault)
      → AreSteps g settings world (ran_until g settings world left read sent after fault ends) after
  until_steps world left read sent after Read ends = ends.steps
  until_steps world left read sent after Write ends = cut_steps world left read sent after ends
  until_steps world left read sent after Memory ends = cut_steps world left read sent after ends

  run_steps : (world : Seen) (left : Option Text) (read sent : Text) (after : Seen) (result : Result (Unit {0}) WireFault) (outcome : Outcome g settings world left read sent after result)
      → AreSteps g settings world (lines_run g settings world left read sent after result outcome) after
  run_steps world left read sent after (Ok done) outcome = outcome.1.steps
  run_steps world left read sent after (Err fault) outcome = until_steps world left read sent after fault outcome

  pub each_steps : (visits : List Visit) (world after : Seen) (served : AreServed g settings visits world after)
      → AreSteps g settings world (lines_of_each g settings visits world after served) after
  each_steps [] world after served = steps_none served
  each_steps (v ∷ more) world after served =
      steps_on (lines_run g settings world v.left' served.1.read served.1.sent served.0 v.result served.1.outcome) (lines_of_each g settings more served.0 after served.2) served.1.steps
      (each_steps more served.0 after served.2)

module _ {S : Type 0} (g : Ghosts S) (settings : Settings) (world after : Seen) where
  -- a stream that was served
  pub serves : (left left' held held' : Option Text) (result : Result (Unit {0}) WireFault) (read sent : Text) → Consumes left left' read → Appends held held' sent
      → Outcome g settings world left' read sent after result → Serves g settings world after left left' held held' result
  serves left left' held held' result read sent consumed appended outcome =
      let steps = run_steps g settings world left' read sent after result outcome in
      record {
        read = read;
        consumed = consumed;
        sent = sent;
        appended = appended;
        outcome = outcome;
        steps = steps;
        promise = λ sure. promised settings world.world after.world (lines_run g settings world left' read sent after result outcome) (steps.history sure);
      }

  -- and connections
  pub each_promised : (visits : List Visit) (served : AreServed g settings visits world after) → after.doubt ≡ 0 → KeepsPromise settings world.world (lines_of_each g settings visits world after served)
  each_promised visits served sure =
      let steps = each_steps g settings visits world after served in
      promised settings world.world after.world (lines_of_each g settings visits world after served) (steps.history sure)
