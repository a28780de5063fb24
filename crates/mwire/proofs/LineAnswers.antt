-- SPDX-License-Identifier: Apache-2.0
-- How lines are answered, one after another.
use Rattle.mwire.proofs.WireWords.{not, IsTrue, is_failure, Doubts, arith, LineSent, Option, Bool, ◌≡◌, ◌≢◌, ◌++◌, List, [], ◌∷◌, refl, sym, ◌∙◌, ap, subst}
use Rattle.mwire.proofs.WireWords.{append_assoc, append-nil, Text, Settings, Seen, Event, Reply, Transition, Ghosts, Zstore, Ended, Fault, reply_of, WireLine}
use Rattle.mwire.proofs.WireWords.{Ignored, TooLong, Unreadable, Runs, classify, before_events, events_of, too_long_text, unreadable_text, reply_text}
use Rattle.mwire.proofs.WireWords.{line_text, replies_behind, answer_text, LinesAnswered, RunAnswered, WireLineAnswered, LineAnswered, EachAnswered}
use Rattle.mwire.proofs.WireWords.{AnswersCutShort, map}
use Rattle.mworld.specs.declared.reply.Reply.{Reply as CodeReply}
use Rattle.mexec.specs.Runs.{ending_of, is_kept_by}
use Rattle.mexec.specs.declared.text.Ended.TheVariants.{Done, Halt}
use Rattle.mwire.proofs.StepsTaken.{steps_none, steps_one, steps_on}
use Rattle.mworld.proofs.StoreFaults.{store_sufficed}

pub LineAnswered-at : {S : Type 0} (g : Ghosts S) (settings : Settings) (old : Seen) (line answer : Text) (new : Seen) (wire_line : WireLine)
    → classify line ≡ wire_line → WireLineAnswered g settings old wire_line answer new → LineAnswered g settings old line answer new
LineAnswered-at g settings old line answer new wire_line e h = grind arith

-- memory and the store sufficed for a line whose reply is no failure
kept_is : (ending : Ended) → is_kept_by ending ≡ not (is_failure (ending_of ending))
kept_is Done = refl
kept_is Halt = refl
kept_is (Fault c) = refl

-- a line that was run, and its reply
pub replied : {S : Type 0} {g : Ghosts S} {settings : Settings} {old new : Seen} {e : Event} (answer : Text) (reply : CodeReply)
    → answer ≡ reply_text e.terminal (reply_of reply) → (new.doubt ≡ 0 → Transition settings e (reply_of reply) old.world new.world) → Doubts g.sound old.doubt new.doubt old.has_room new.has_room (is_kept_by reply.ending) → (g.steady → IsTrue new.has_room → ◌≢◌ {A = Ended} reply.ending (Fault Zstore))
    → RunAnswered g settings old e answer new
replied {g = g} {old = old} {new = new} answer reply shown transition doubt sufficed = record { reply = reply_of reply; text = shown; transition = transition; doubt = subst (Doubts g.sound old.doubt new.doubt old.has_room new.has_room) (kept_is reply.ending) doubt; sufficed = λ steady room. store_sufficed reply.ending (sufficed steady room) }

-- lines of one wire_line are answered alike
pub LineAnswered-same : {S : Type 0} (g : Ghosts S) (settings : Settings) (old : Seen) (line line' answer : Text) (new : Seen)
    → classify line ≡ classify line' → LineAnswered g settings old line answer new → LineAnswered g settings old line' answer new
LineAnswered-same g settings old line line' answer new e h = LineAnswered-at g settings old line' answer new (classify line) (sym e) h.by_wire_line

-- a further line
pub EachAnswered-more : {S : Type 0} (g : Ghosts S) (settings : Settings) (old : Seen) (lines : List Text) (text : Text) (mid : Seen) (line answer : Text) (new : Seen)
    → EachAnswered g settings old lines text mid → LineAnswered g settings mid line answer new → EachAnswered g settings old (lines ++ line ∷ []) (text ++ answer) new
EachAnswered-more g settings old [] text mid line answer new h t =
    let P : Seen → Type 0 = λ m. LineAnswered g settings m line answer new in
    (answer, new, [], subst P h.1 t, (refl, refl), rw h.0 (sym (append-nil answer)))
EachAnswered-more g settings old (l ∷ ls) text mid line answer new h t =
    (h.0, h.1, h.2 ++ answer, h.3, EachAnswered-more g settings h.1 ls h.2 mid line answer new h.4 t, ap (λ x. x ++ answer) h.5 ∙ append_assoc h.0 h.2 answer)

-- the history of lines that are answered

abbrev both_texts : List Text → WireLine → List Reply → Text
both_texts more wire_line replies = line_text wire_line replies ++ answer_text more (replies_behind wire_line replies)

-- after a line that is not run
LinesAnswered-unrun : {S : Type 0} (g : Ghosts S) (settings : Settings) (old : Seen) (line : Text) (more : List Text) (wire_line : WireLine) (answer : Text) (mid : Seen) (rest : Text) (new : Seen)
    → classify line ≡ wire_line → (a : LinesAnswered g settings mid more rest new) → mid ≡ old → events_of more ≡ before_events wire_line (events_of more)
    → answer ++ rest ≡ both_texts more wire_line (map (λ x. x.1) a.trace) → LinesAnswered g settings old (line ∷ more) (answer ++ rest) new
LinesAnswered-unrun g settings old line more wire_line answer mid rest new e a same none texts = grind arith

LinesAnswered-line : {S : Type 0} (g : Ghosts S) (settings : Settings) (old : Seen) (line : Text) (more : List Text) (wire_line : WireLine) (answer : Text) (mid : Seen) (rest : Text) (new : Seen)
    → classify line ≡ wire_line → WireLineAnswered g settings old wire_line answer mid → LinesAnswered g settings mid more rest new → LinesAnswered g settings old (line ∷ more) (answer ++ rest) new
LinesAnswered-line g settings old line more Ignored answer mid rest new e h a =
    LinesAnswered-unrun g settings old line more Ignored answer mid rest new e a h.1 refl (ap (λ t. t ++ rest) h.0 ∙ a.text)
LinesAnswered-line g settings old line more TooLong answer mid rest new e h a =
    LinesAnswered-unrun g settings old line more TooLong answer mid rest new e a h.1 refl (ap (λ t. t ++ rest) h.0 ∙ ap (λ t. too_long_text ++ t) a.text)
LinesAnswered-line g settings old line more Unreadable answer mid rest new e h a =
    LinesAnswered-unrun g settings old line more Unreadable answer mid rest new e a h.1 refl (ap (λ t. t ++ rest) h.0 ∙ ap (λ t. unreadable_text ++ t) a.text)
LinesAnswered-line g settings old line more (Runs event) answer mid rest new e h a = record {
  trace = (event, h.reply) ∷ a.trace;
  events = ap (λ es. event ∷ es) a.events ∙ ap (λ f. before_events f (events_of more)) (sym e);
  text =
      ap (λ t. t ++ rest) h.text
      ∙ (ap (λ t. reply_text event.terminal h.reply ++ t) a.text ∙ ap (λ f. both_texts more f (h.reply ∷ map (λ x. x.1) a.trace)) (sym e));
  steps = steps_on ((event, h.reply) ∷ []) a.trace (steps_one event h.reply h.transition h.doubt h.sufficed) a.steps;
}

pub LinesAnswered-each : {S : Type 0} (g : Ghosts S) (settings : Settings) (old : Seen) (lines : List Text) (text : Text) (new : Seen) → EachAnswered g settings old lines text new → LinesAnswered g settings old lines text new
LinesAnswered-each g settings old [] text new h = record { trace = []; events = refl; text = h.0; steps = steps_none h.1 }
LinesAnswered-each g settings old (line ∷ more) text new h =
    let P : Text → Type 0 = λ t. LinesAnswered g settings old (line ∷ more) t new in
    subst P (sym h.5) (LinesAnswered-line g settings old line more (classify line) h.0 h.1 h.2 new refl h.3.by_wire_line (LinesAnswered-each g settings h.1 more h.2 new h.4))

-- a last line was answered, and a front of its answer was sent
pub AnswersCutShort-at : {S : Type 0} (g : Ghosts S) (settings : Settings) (old : Seen) (done : List Text) (last : Text) (others all : List Text) (whole : Text) (between new : Seen) (before after : Option Text) (b : Bool)
    → all ≡ done ++ last ∷ others → EachAnswered g settings old done whole between → (p : LineSent g settings between last new before after b) → AnswersCutShort g settings old all (whole ++ p.sent.part) new
AnswersCutShort-at g settings old done last others all whole between new before after b of_all each p = record {
  done = done;
  last = last;
  others = others;
  of_all = of_all;
  whole = whole;
  between = between;
  answered = LinesAnswered-each g settings old done whole between each;
  answer = p.answer;
  last_answered = p.answered;
  part = p.sent.part;
  unsent = p.sent.unsent;
  of_answer = p.sent.of_bytes;
  sent = refl;
}
