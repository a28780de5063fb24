-- SPDX-License-Identifier: Apache-2.0
-- How far a stream has been taken, and answered.
use Rattle.std.specs.Prelude.{◌≡◌, ◌==◌, Bool, true, false, List, [], ◌∷◌, ◌++◌, take, map, MatchResult, Result, Option}
use Rattle.std.specs.List.{All, flat_map}
use Rattle.std.specs.Io.KnownBytes.{Appends, Consumes}
use Rattle.std.specs.Str.Lines.{strip_carriage_return}
use Rattle.mspec.specs.Act.{Text}
use Rattle.mmeaning.specs.Transition.{Settings, Event}
use Rattle.mnodes.specs.declared.store.NodeStore.{Ghosts}
use Rattle.mworld.specs.View.{Seen}
use Rattle.mwire.specs.Wire.{finished_lines, events_of}
use Rattle.mwire.specs.Answers.{LineAnswered, AnswersCutShort}

-- no line feed is among the bytes
abbrev pub IsOpen : Text → Type 0
IsOpen bytes = All (λ b. (b == 10) ≡ false) bytes

abbrev pub AreOpen : List Text → Type 0
AreOpen [] = Unit {0}
AreOpen (x ∷ xs) = IsOpen x × AreOpen xs

-- The bytes are the finished texts, each followed by a line feed, and then a rest without one. A front of the rest is kept: the
-- first 262 bytes of a line, 260, a carriage return and one more, decide what becomes of it.
pub record IsCut (bytes : Text) (finished : List Text) (kept : Text) : Type 0 where
  pub rest : Text
  pub whole : bytes ≡ flat_map (λ x. x ++ 10 ∷ []) finished ++ rest
  pub each : AreOpen finished
  pub open_rest : IsOpen rest
  pub kept_is : kept ≡ take 262 rest

-- the lines are answered, one after another
abbrev pub EachAnswered : {S : Type 0} → Ghosts S → Settings → Seen → List Text → Text → Seen → Type 0
EachAnswered g settings world [] bytes after = (bytes ≡ []) × (after ≡ world)
EachAnswered g settings world (line ∷ more) bytes after = (answer : Text) × (between : Seen) × (rest : Text)
    × LineAnswered g settings world line answer between × EachAnswered g settings between more rest after × (bytes ≡ answer ++ rest)

-- the finished lines of the bytes so far are answered
pub record Stands {S : Type 0} (g : Ghosts S) (settings : Settings) (first : Seen) (bytes : Text) (now : Seen) (kept sent : Text) : Type 0 where
  pub finished : List Text
  pub cut : IsCut bytes finished kept
  pub answered : EachAnswered g settings first (map strip_carriage_return finished) sent now

-- what taking more bytes does, wherever the stream stands
pub record TakesOn {S E : Type 0} (g : Ghosts S) (settings : Settings) (old : Seen) (kept bytes : Text) (new : Seen) (kept' : Text) (before after : Option Text) (result : Result (Unit {0}) E) : Type 0 where
  pub sent : Text
  pub appended : Appends before after sent
  pub outcome : (first : Seen) (past text : Text) → Stands g settings first past old kept text
      → MatchResult result (λ _. Stands g settings first (past ++ bytes) new kept' (text ++ sent))
      (λ _. (more : Text) → AnswersCutShort g settings first (finished_lines ((past ++ bytes) ++ more)) (text ++ sent) new)

-- all of the bytes but this rest were sent
pub record SentUpTo (bytes rest : Text) (before after : Option Text) : Type 0 where
  pub part : Text
  pub of_bytes : bytes ≡ part ++ rest
  pub appended : Appends before after part

-- a front of the bytes was sent, the whole if `whole` is true
pub record FrontSent (bytes : Text) (before after : Option Text) (whole : Bool) : Type 0 where
  pub part : Text
  pub unsent : Text
  pub of_bytes : bytes ≡ part ++ unsent
  pub all_sent : whole ≡ true → unsent ≡ []
  pub appended : Appends before after part

-- a line was answered, and a front of its answer was sent
pub record LineSent {S : Type 0} (g : Ghosts S) (settings : Settings) (old : Seen) (line : Text) (new : Seen) (before after : Option Text) (whole : Bool) : Type 0 where
  pub answer : Text
  pub answered : LineAnswered g settings old line answer new
  pub sent : FrontSent answer before after whole

-- so far these bytes were read and those sent, and the finished lines of those read are answered
pub record HasServed {S : Type 0} (g : Ghosts S) (settings : Settings) (first now : Seen) (left left' held held' : Option Text) (kept : Text) : Type 0 where
  pub read : Text
  pub sent : Text
  pub consumed : Consumes left left' read
  pub appended : Appends held held' sent
  pub stands : Stands g settings first read now kept sent

-- the events are those of the finished lines of the bytes so far
pub record Gathered (bytes kept : Text) (events : List Event) : Type 0 where
  pub finished : List Text
  pub cut : IsCut bytes finished kept
  pub events_are : events ≡ events_of (map strip_carriage_return finished)

-- so far these bytes were read, and the events of their finished lines are gathered
pub record HasGathered (left left' : Option Text) (kept : Text) (events : List Event) : Type 0 where
  pub read : Text
  pub consumed : Consumes left left' read
  pub gathered : Gathered read kept events
