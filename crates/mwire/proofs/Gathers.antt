-- SPDX-License-Identifier: Apache-2.0
-- The events of the lines of a stream, gathered as its bytes come.
use Rattle.mwire.proofs.WireWords.{◌≡◌, ◌++◌, List, [], ◌∷◌, refl, ◌∙◌, ap, subst, Option, append_assoc, take, arith, Consumes-nil, Consumes-trans, Consumes}
use Rattle.mwire.proofs.WireWords.{lines, lines_of_parts, strip_carriage_return, map-append, Text, Event, WireLine, classify, before_events, events_of}
use Rattle.mwire.proofs.WireWords.{Gathered, HasGathered, IsOpen, map}
use Rattle.mwire.proofs.Cuts.{length-strip, classify-kept, IsCut-nil, IsCut-open, IsCut-line, lines-cut}

before_events-append : (wire_line : WireLine) (xs ys : List Event) → before_events wire_line (xs ++ ys) ≡ before_events wire_line xs ++ ys
before_events-append wire_line xs ys = grind arith

events_of-append : (ls ms : List Text) → events_of (ls ++ ms) ≡ events_of ls ++ events_of ms
events_of-append [] ms = refl
events_of-append (l ∷ ls) ms = ap (before_events (classify l)) (events_of-append ls ms) ∙ before_events-append (classify l) (events_of ls) (events_of ms)

-- where the stream begins
pub Gathered-start : Gathered [] [] []
Gathered-start = record { finished = []; cut = IsCut-nil; events_are = refl }

-- bytes without a line feed
pub Gathered-open : (past kept kept' bytes : Text) (events : List Event) → IsOpen bytes → kept' ≡ take 262 (kept ++ bytes)
    → Gathered past kept events → Gathered (past ++ bytes) kept' events
Gathered-open past kept kept' bytes events no_feed k s = record { finished = s.finished; cut = IsCut-open past s.finished kept kept' bytes s.cut no_feed k; events_are = s.events_are }

-- a line feed
Gathered-line : (past kept kept' line : Text) (events events' : List Event) → kept' ≡ [] → line ≡ strip_carriage_return kept
    → events' ≡ events ++ events_of (line ∷ []) → Gathered past kept events → Gathered (past ++ 10 ∷ []) kept' events'
Gathered-line past kept kept' line events events' ek el added s =
    let rest = s.cut.rest in
    let wire_line : classify line ≡ classify (strip_carriage_return rest) =
    ap classify el ∙ (ap (λ l. classify (strip_carriage_return l)) s.cut.kept_is ∙ classify-kept strip_carriage_return length-strip 262 rest (omega arith)) in
    let events_are : events' ≡ events_of (map strip_carriage_return (s.finished ++ rest ∷ [])) = rw (added, s.events_are, wire_line) (simp (map-append, events_of-append)) in
    let cut = IsCut-line past s.finished kept s.cut in
    rw ek (record { finished = s.finished ++ rest ∷ []; cut = cut; events_are = events_are })

-- the end of a line, and its line feed
pub Gathered-finished : (past kept whole kept' bytes line : Text) (events events' : List Event) → IsOpen bytes → whole ≡ take 262 (kept ++ bytes) → kept' ≡ []
    → line ≡ strip_carriage_return whole → events' ≡ events ++ events_of (line ∷ []) → Gathered past kept events → Gathered (past ++ (bytes ++ 10 ∷ [])) kept' events'
Gathered-finished past kept whole kept' bytes line events events' no_feed ew ek el added s =
    let P : Text → Type 0 = λ bytes. Gathered bytes kept' events' in
    subst P (append_assoc past bytes (10 ∷ [])) (Gathered-line (past ++ bytes) whole kept' line events events' ek el added (Gathered-open past kept whole bytes events no_feed ew s))

last_events : (rest : Text) → events_of (rest ∷ []) ≡ events_of (lines_of_parts (rest ∷ []))
last_events rest = grind arith

-- the stream's end
pub Gathered-end : (bytes kept : Text) (events events' : List Event) → events' ≡ events ++ events_of (kept ∷ []) → Gathered bytes kept events → events' ≡ events_of (lines bytes)
Gathered-end bytes kept events events' added s =
    let rest = s.cut.rest in
    let wire_line : classify kept ≡ classify rest = ap classify s.cut.kept_is ∙ classify-kept (λ l. l) (λ l. omega arith) 262 rest (omega arith) in
    rw (added, s.events_are, wire_line, lines-cut bytes s.finished kept s.cut, events_of-append) (ap (λ es. events_of (map strip_carriage_return s.finished) ++ es) (last_events rest))

-- ---- how far `read_events` has come, and how it ends

pub HasGathered-start : (left : Option Text) → HasGathered left left [] []
HasGathered-start left = record { read = []; consumed = Consumes-nil left; gathered = Gathered-start }

pub HasGathered-more : (left left' left'' : Option Text) (kept kept' piece : Text) (events events' : List Event) → HasGathered left left' kept events → Consumes left' left'' piece
    → ((past : Text) → Gathered past kept events → Gathered (past ++ piece) kept' events') → HasGathered left left'' kept' events'
HasGathered-more left left' left'' kept kept' piece events events' h c more = record {
  read = h.read ++ piece;
  consumed = Consumes-trans left left' left'' h.read piece h.consumed c;
  gathered = more h.read h.gathered;
}
