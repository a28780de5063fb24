-- SPDX-License-Identifier: Apache-2.0
-- How the lines of a stream are answered as its bytes come.
use Rattle.mwire.proofs.WireWords.{◌≡◌, ◌++◌, List, [], ◌∷◌, refl, sym, ◌∙◌, ap, subst, Bool, true, Ok, Err, Result, Option, append_assoc, append-nil, ◌==◌}
use Rattle.mwire.proofs.WireWords.{length, take, is_ok, nat_tests, arith, Appends-nil, Appends-trans, strip_carriage_return, map-append, Text, Settings, Seen}
use Rattle.mwire.proofs.WireWords.{Ghosts, classify, finished_lines, LineAnswered, AnswersCutShort, EachAnswered, Stands, TakesOn, LineSent, IsOpen, map}
use Rattle.mwire.proofs.Cuts.{classify-kept, IsCut-nil, IsCut-open, IsCut-line, finished_lines-cut_more, length-strip}
use Rattle.mwire.proofs.LineAnswers.{LineAnswered-same, EachAnswered-more, AnswersCutShort-at}
use Rattle.mwire.proofs.Sends.{FrontSent-whole}

-- where the stream begins
pub Stands-start : {S : Type 0} (g : Ghosts S) (settings : Settings) (first : Seen) → Stands g settings first [] first [] []
Stands-start g settings first = record { finished = []; cut = IsCut-nil; answered = (refl, refl) }

-- what answers the front that is kept of a line answers the line
LineAnswered-kept : {S : Type 0} (g : Ghosts S) (settings : Settings) (old : Seen) (kept rest answer : Text) (new : Seen)
    → kept ≡ take 262 rest → LineAnswered g settings old (strip_carriage_return kept) answer new → LineAnswered g settings old (strip_carriage_return rest) answer new
LineAnswered-kept g settings old kept rest answer new e t =
    LineAnswered-same g settings old _ _ answer new (ap (λ l. classify (strip_carriage_return l)) e ∙ classify-kept strip_carriage_return length-strip 262 rest (omega arith)) t

-- a line's end, whose answer was sent
pub Stands-line : {S : Type 0} (g : Ghosts S) (settings : Settings) (first : Seen) (past : Text) (old : Seen) (kept text : Text) (new : Seen) (answer : Text)
    → Stands g settings first past old kept text → LineAnswered g settings old (strip_carriage_return kept) answer new → Stands g settings first (past ++ 10 ∷ []) new [] (text ++ answer)
Stands-line g settings first past old kept text new answer s t = record {
  finished = s.finished ++ s.cut.rest ∷ [];
  cut = IsCut-line past s.finished kept s.cut;
  answered =
      let rest = s.cut.rest in
      let more = EachAnswered-more g settings first (map strip_carriage_return s.finished) text old (strip_carriage_return rest) answer new s.answered (LineAnswered-kept g settings old kept rest answer new s.cut.kept_is t) in
      let P : List Text → Type 0 = λ ls. EachAnswered g settings first ls (text ++ answer) new in
      subst P (sym (map-append strip_carriage_return s.finished (rest ∷ []))) more;
}

-- a line's end, of whose answer a front was sent
AnswersCutShort-line : {S : Type 0} (g : Ghosts S) (settings : Settings) (first : Seen) (past : Text) (old : Seen) (kept line text : Text) (new : Seen) (before after : Option Text) (b : Bool)
    → Stands g settings first past old kept text → line ≡ strip_carriage_return kept → (p : LineSent g settings old line new before after b)
    → (more : Text) → AnswersCutShort g settings first (finished_lines ((past ++ 10 ∷ []) ++ more)) (text ++ p.sent.part) new
AnswersCutShort-line g settings first past old kept line text new before after b s is p more =
    let answered = LineAnswered-kept g settings old kept s.cut.rest p.answer new s.cut.kept_is (subst (λ (l : Text). LineAnswered g settings old l p.answer new) is p.answered) in
    AnswersCutShort-at g settings first (map strip_carriage_return s.finished) (strip_carriage_return s.cut.rest) (finished_lines more) _ text old new before after b
    (finished_lines-cut_more past s.finished kept more s.cut) s.answered (record { answer = p.answer; answered = answered; sent = p.sent })

-- a line feed
TakesOn-line : {S E : Type 0} (g : Ghosts S) (settings : Settings) (old : Seen) (kept line : Text) (new : Seen) (kept' : Text) (before after : Option Text) (result : Result (Unit {0}) E)
    → kept' ≡ [] → line ≡ strip_carriage_return kept → LineSent g settings old line new before after (is_ok result)
    → TakesOn g settings old kept (10 ∷ []) new kept' before after result
TakesOn-line g settings old kept line new kept' before after (Ok u) ek el p = record {
  sent = p.sent.part;
  appended = p.sent.appended;
  outcome = λ first past text s.
      let stands = Stands-line g settings first past old kept text new p.answer s (subst (λ (l : Text). LineAnswered g settings old l p.answer new) el p.answered) in
      rw (ek, ← (FrontSent-whole p.sent)) stands;
}
TakesOn-line g settings old kept line new kept' before after (Err e) ek el p = record {
  sent = p.sent.part;
  appended = p.sent.appended;
  outcome = λ first past text s more. AnswersCutShort-line g settings first past old kept line text new before after _ s el p more;
}

-- bytes without a line feed
pub TakesOn-open : {S E : Type 0} (g : Ghosts S) (settings : Settings) (old : Seen) (kept bytes kept' : Text) (before : Option Text) (u : Unit {0})
    → IsOpen bytes → kept' ≡ take 262 (kept ++ bytes)
    → TakesOn {E = E} g settings old kept bytes old kept' before before (Ok u)
TakesOn-open g settings old kept bytes kept' before u no_feed k = record {
  sent = [];
  appended = Appends-nil before;
  outcome = λ first past text s.
      let stands : Stands g settings first (past ++ bytes) old kept' text =
      record { finished = s.finished; cut = IsCut-open past s.finished kept kept' bytes s.cut no_feed k; answered = s.answered } in
      rw append-nil stands;
}

pub TakesOn-nil : {S E : Type 0} (g : Ghosts S) (settings : Settings) (old : Seen) (kept : Text) (before : Option Text) (u : Unit {0})
    → TakesOn {E = E} g settings old kept [] old kept before before (Ok u)
TakesOn-nil g settings old kept before u = record {
  sent = [];
  appended = Appends-nil before;
  outcome = λ first past text s. simp append-nil s;
}

-- what is taken, and then more
pub TakesOn-then : {S E : Type 0} (g : Ghosts S) (settings : Settings) (a : Seen) (ka xs : Text) (b : Seen) (kb : Text) (wa wb : Option Text) (u : Unit {0}) (ys : Text) (c : Seen) (kc : Text) (wc : Option Text) (result : Result (Unit {0}) E)
    → TakesOn {E = E} g settings a ka xs b kb wa wb (Ok u) → TakesOn g settings b kb ys c kc wb wc result → TakesOn g settings a ka (xs ++ ys) c kc wa wc result
TakesOn-then g settings a ka xs b kb wa wb u ys c kc wc (Ok v) p q = record {
  sent = p.sent ++ q.sent;
  appended = Appends-trans wa wb wc p.sent q.sent p.appended q.appended;
  outcome = λ first past text s.
      rw (← append_assoc past xs ys, ← append_assoc text p.sent q.sent) (q.outcome first (past ++ xs) (text ++ p.sent) (p.outcome first past text s));
}
TakesOn-then g settings a ka xs b kb wa wb u ys c kc wc (Err e) p q = record {
  sent = p.sent ++ q.sent;
  appended = Appends-trans wa wb wc p.sent q.sent p.appended q.appended;
  outcome = λ first past text s more.
      rw (← append_assoc past xs ys, ← append_assoc text p.sent q.sent) (q.outcome first (past ++ xs) (text ++ p.sent) (p.outcome first past text s) more);
}

-- by settings that stayed the same
pub TakesOn-under : {S E : Type 0} {g : Ghosts S} {settings settings' : Settings} {old new : Seen} {kept bytes kept' : Text} {before after : Option Text} {result : Result (Unit {0}) E}
    → settings' ≡ settings → TakesOn g settings' old kept bytes new kept' before after result → TakesOn g settings old kept bytes new kept' before after result
TakesOn-under {g = g} {old = old} {new = new} {kept = kept} {bytes = bytes} {kept' = kept'} {before = before} {after = after} {result = result} same p =
    subst (λ (s : Settings). TakesOn g s old kept bytes new kept' before after result) same p

-- what is taken up to where it stops, whatever comes after that
pub TakesOn-stop : {S E : Type 0} (g : Ghosts S) (settings : Settings) (a : Seen) (ka xs ys : Text) (c : Seen) (kc : Text) (wa wc : Option Text) (e e' : E)
    → TakesOn {E = E} g settings a ka xs c kc wa wc (Err e) → TakesOn {E = E} g settings a ka (xs ++ ys) c kc wa wc (Err e')
TakesOn-stop g settings a ka xs ys c kc wa wc e e' p = record {
  sent = p.sent;
  appended = p.appended;
  outcome = λ first past text s more.
      let bytes : (past ++ xs) ++ (ys ++ more) ≡ (past ++ (xs ++ ys)) ++ more = simp append_assoc in
      subst (λ (l : Text). AnswersCutShort g settings first (finished_lines l) (text ++ p.sent) c) bytes (p.outcome first past text s (ys ++ more));
}

-- the end of a line, its line feed, and its answer, which another line that becomes the same has too
pub TakesOn-finished : {S E : Type 0} (g : Ghosts S) (settings : Settings) (old : Seen) (kept bytes line : Text) (new : Seen) (kept' : Text) (before after : Option Text) (result : Result (Unit {0}) E)
    → IsOpen bytes → kept' ≡ [] → classify line ≡ classify (strip_carriage_return (take 262 (kept ++ bytes))) → LineSent g settings old line new before after (is_ok result)
    → TakesOn g settings old kept (bytes ++ 10 ∷ []) new kept' before after result
TakesOn-finished g settings old kept bytes line new kept' before after result no_feed ek same p =
    let whole = take 262 (kept ++ bytes) in
    let sent : LineSent g settings old (strip_carriage_return whole) new before after (is_ok result) =
    record { answer = p.answer; answered = LineAnswered-same g settings old line (strip_carriage_return whole) p.answer new same p.answered; sent = p.sent } in
    TakesOn-then g settings old kept bytes old whole before before tt (10 ∷ []) new kept' after result
    (TakesOn-open g settings old kept bytes whole before tt no_feed refl)
    (TakesOn-line g settings old whole (strip_carriage_return whole) new kept' before after result ek refl sent)

-- a line that comes whole becomes what its kept front does
pub classify-whole : (kept bytes : Text) → kept ≡ [] → classify (strip_carriage_return bytes) ≡ classify (strip_carriage_return (take 262 (kept ++ bytes)))
classify-whole kept bytes e = rw e (sym (classify-kept strip_carriage_return length-strip 262 bytes (omega arith)))

pub nothing_kept : (kept : Text) (b : Bool) → b ≡ (length kept == 0) → b ≡ true → kept ≡ []
nothing_kept [] b e h = refl
nothing_kept (c ∷ cs) b e h = absurd (grind (arith, nat_tests, e, h))

-- a piece, of which a line more is taken
pub taken_more : (piece taken rest end after : Text) → piece ≡ taken ++ rest → rest ≡ end ++ 10 ∷ after → piece ≡ (taken ++ (end ++ 10 ∷ [])) ++ after
taken_more piece taken rest end after whole cut = whole ∙ (ap (λ t. taken ++ t) cut ∙ simp append_assoc)

pub LineSent-under : {S : Type 0} {g : Ghosts S} {settings settings' : Settings} {old : Seen} {line : Text} {new : Seen} {before after : Option Text} {whole : Bool} → settings ≡ settings'
    → LineSent g settings old line new before after whole → LineSent g settings' old line new before after whole
LineSent-under {g = g} {old = old} {line = line} {new = new} {before = before} {after = after} {whole = whole} same p = subst (λ s. LineSent g s old line new before after whole) same p
