-- SPDX-License-Identifier: Apache-2.0
-- How far `serve` comes, and how it ends.
use Rattle.mwire.proofs.WireWords.{Bool, false, ◌≡◌, ◌≢◌, ◌++◌, List, [], ◌∷◌, ℕ, refl, sym, ◌∙◌, ap, subst, Ok, Err, Result, Option, append-nil, take, IfErr}
use Rattle.mwire.proofs.WireWords.{is_ok, inl, inr, arith, Appends-nil, Appends-trans, Consumes-nil, Consumes-trans, lines_of_parts, strip_carriage_return}
use Rattle.mwire.proofs.WireWords.{Keeps, Consumes, IsAtEnd, Text, Settings, Seen, Ghosts, classify, LinesAnswered, LineAnswered, AnswersCutShort, EachAnswered}
use Rattle.mwire.proofs.WireWords.{TakesOn, LineSent, HasServed, Outcome, ServeCutShort, EndsBy, Serves, WireFault, Read, map}
use Rattle.mwire.proofs.Cuts.{classify-kept, lines-cut, finished_lines-cut, last_part}
use Rattle.mwire.proofs.LineAnswers.{LineAnswered-same, EachAnswered-more, LinesAnswered-each, AnswersCutShort-at}
use Rattle.mwire.proofs.Progresses.{Stands-start}
use Rattle.mwire.proofs.Promised.{serves}
use Rattle.mwire.proofs.Sends.{FrontSent-whole}

LineAnswered-kept_end : {S : Type 0} (g : Ghosts S) (settings : Settings) (old : Seen) (kept rest answer : Text) (new : Seen)
    → kept ≡ take 262 rest → LineAnswered g settings old kept answer new → LineAnswered g settings old rest answer new
LineAnswered-kept_end g settings old kept rest answer new e t =
    LineAnswered-same g settings old kept rest answer new (ap classify e ∙ classify-kept (λ l. l) (λ l. omega arith) 262 rest (omega arith)) t

-- ---- how far `serve` has come

pub HasServed-start : {S : Type 0} (g : Ghosts S) (settings : Settings) (first : Seen) (left held : Option Text) → HasServed g settings first first left left held held []
HasServed-start g settings first left held = record { read = []; sent = []; consumed = Consumes-nil left; appended = Appends-nil held; stands = Stands-start g settings first }

-- a read that failed
pub HasServed-kept : {S : Type 0} (g : Ghosts S) (settings : Settings) (first now : Seen) (left left' left'' held held' : Option Text) (kept : Text)
    → HasServed g settings first now left left' held held' kept → Keeps left' left'' → HasServed g settings first now left left'' held held' kept
HasServed-kept g settings first now left left' left'' held held' kept h k = grind arith

-- a piece that was taken whole
pub HasServed-more : {S E : Type 0} (g : Ghosts S) (settings : Settings) (first now new : Seen) (left left' left'' held held' held'' : Option Text) (kept kept' piece : Text) (u : Unit {0})
    → HasServed g settings first now left left' held held' kept → Consumes left' left'' piece → TakesOn {E = E} g settings now kept piece new kept' held' held'' (Ok u)
    → HasServed g settings first new left left'' held held'' kept'
HasServed-more g settings first now new left left' left'' held held' held'' kept kept' piece u h c p = record {
  read = h.read ++ piece;
  sent = h.sent ++ p.sent;
  consumed = Consumes-trans left left' left'' h.read piece h.consumed c;
  appended = Appends-trans held held' held'' h.sent p.sent h.appended p.appended;
  stands = p.outcome first h.read h.sent h.stands;
}

-- ---- how it ends

-- no more is read
pub Serves-read : {S : Type 0} (g : Ghosts S) (settings : Settings) (first now : Seen) (left left' held held' : Option Text) (kept : Text)
    → HasServed g settings first now left left' held held' kept → Serves g settings first now left left' held held' (Err Read)
Serves-read g settings first now left left' held held' kept h =
    let s = h.stands in
    let P : List Text → Type 0 = λ ls. LinesAnswered g settings first ls h.sent now in
    serves g settings first now left left' held held' (Err Read) h.read h.sent h.consumed h.appended
    (subst P (sym (finished_lines-cut h.read s.finished kept s.cut)) (LinesAnswered-each g settings first (map strip_carriage_return s.finished) h.sent now s.answered))

EachAnswered-end : {S : Type 0} (g : Ghosts S) (settings : Settings) (first : Seen) (done : List Text) (rest : Text) (now : Seen) (text : Text) (new : Seen) (answer : Text)
    → EachAnswered g settings first done text now → LineAnswered g settings now rest answer new → EachAnswered g settings first (done ++ lines_of_parts (rest ∷ [])) (text ++ answer) new
EachAnswered-end g settings first done [] now text new answer h t =
    let P : Text → Seen → Type 0 = λ x m. EachAnswered g settings first done x m in
    rw (append-nil, t.by_wire_line.0, append-nil) (subst (P text) (sym t.by_wire_line.1) h)
EachAnswered-end g settings first done (x ∷ xs) now text new answer h t = rw (last_part x xs) (EachAnswered-more g settings first done text now (x ∷ xs) answer new h t)

AnswersCutShort-end : {S : Type 0} (g : Ghosts S) (settings : Settings) (first : Seen) (done : List Text) (rest : Text) (now : Seen) (text : Text) (new : Seen) (before after : Option Text) (b : Bool)
    → (rest ≡ [] → ⊥) → EachAnswered g settings first done text now → (p : LineSent g settings now rest new before after b) → AnswersCutShort g settings first (done ++ lines_of_parts (rest ∷ [])) (text ++ p.sent.part) new
AnswersCutShort-end g settings first done [] now text new before after b ne h p = absurd (ne refl)
AnswersCutShort-end g settings first done (x ∷ xs) now text new before after b ne h p =
    AnswersCutShort-at g settings first done (x ∷ xs) [] _ text now new before after b (ap (λ ls. done ++ ls) (last_part x xs)) h p

EndsBy-break : {S : Type 0} (g : Ghosts S) (settings : Settings) (old : Seen) (left : Option Text) (read sent : Text) (new : Seen) (e : WireFault)
    → e ≢ Read → ServeCutShort g settings old left read sent new → EndsBy g settings old left read sent new e
EndsBy-break g settings old left read sent new e h f = grind arith

-- a read of no bytes
pub Consumes-none : (a b c : Option Text) (bs buf : Text) (n : ℕ) → n ≡ 0 → Consumes a b bs → Consumes b c (take n buf) → Consumes a c bs
Consumes-none a b c bs buf n e p q =
    let P : Text → Type 0 = λ l. Consumes a c l in
    let none : bs ++ take n buf ≡ bs = rw (e, append-nil) refl in
    subst P none (Consumes-trans a b c bs (take n buf) p q)

-- the stream is at its end, and the unfinished last line is answered, if there is one
serves_end : (X : WireFault → Type 0) {S : Type 0} (g : Ghosts S) (settings : Settings) (first now new : Seen) (left left' held held' held'' : Option Text) (kept : Text) (result : Result (Unit {0}) WireFault)
    → HasServed g settings first now left left' held held' kept → IsAtEnd left'
    → LineSent g settings now kept new held' held'' (is_ok result) → (kept ≡ [] → result ≡ Ok tt) → IfErr result (λ e. (e ≢ Read) × X e)
    → Serves g settings first new left left' held held'' result
serves_end X g settings first now new left left' held held' held'' kept result h z p idle f =
    serves g settings first new left left' held held'' result h.read (h.sent ++ p.sent.part) h.consumed
    (Appends-trans held held' held'' h.sent p.sent.part h.appended p.sent.appended) (ended result p idle f)
  where
    ended : (r : Result (Unit {0}) WireFault) (q : LineSent g settings now kept new held' held'' (is_ok r)) → (kept ≡ [] → r ≡ Ok tt) → IfErr r (λ e. (e ≢ Read) × X e)
        → Outcome g settings first left' h.read (h.sent ++ q.sent.part) new r
    ended (Ok u) q idle f =
        let s = h.stands in
        let taken = LineAnswered-kept_end g settings now kept s.cut.rest q.answer new s.cut.kept_is q.answered in
        let each = EachAnswered-end g settings first (map strip_carriage_return s.finished) s.cut.rest now h.sent new q.answer s.answered taken in
        (z, rw (lines-cut h.read s.finished kept s.cut, ← (FrontSent-whole q.sent)) (LinesAnswered-each g settings first _ _ new each))
    ended (Err e) q idle f =
        let s = h.stands in
        let taken = LineAnswered-kept_end g settings now kept s.cut.rest q.answer new s.cut.kept_is q.answered in
        let some : s.cut.rest ≡ [] → ⊥ = λ empty. let bad = idle (s.cut.kept_is ∙ ap (take 262) empty) in cc in
        let breaks = AnswersCutShort-end g settings first (map strip_carriage_return s.finished) s.cut.rest now h.sent new held' held'' false some s.answered (record { answer = q.answer; answered = taken; sent = q.sent }) in
        EndsBy-break g settings first left' h.read (h.sent ++ q.sent.part) new e f.0 (inr (z, rw (lines-cut h.read s.finished kept s.cut) breaks))

pub Serves-end : (X : WireFault → Type 0) {S : Type 0} (g : Ghosts S) (settings : Settings) (first now new : Seen) (left left' left'' held held' held'' : Option Text) (kept line buf : Text) (n : ℕ) (result : Result (Unit {0}) WireFault)
    → HasServed g settings first now left left' held held' kept → n ≡ 0 → Consumes left' left'' (take n buf) → IsAtEnd left'' → line ≡ kept
    → LineSent g settings now line new held' held'' (is_ok result) → (line ≡ [] → result ≡ Ok tt) → IfErr result (λ e. (e ≢ Read) × X e)
    → Serves g settings first new left left'' held held'' result
Serves-end X g settings first now new left left' left'' held held' held'' kept line buf n result h none c z same p idle f =
    let P : Text → Type 0 = λ l. HasServed g settings first now left left'' held held' l in
    let at_end : HasServed g settings first now left left'' held held' kept = record { read = h.read; sent = h.sent; consumed = Consumes-none left left' left'' h.read buf n none h.consumed c; appended = h.appended; stands = h.stands } in
    serves_end X g settings first now new left left'' held held' held'' line result (subst P (sym same) at_end) z p idle f

-- a line of a piece broke
pub Serves-piece : {S : Type 0} (g : Ghosts S) (settings : Settings) (first now new : Seen) (left left' left'' held held' held'' : Option Text) (kept kept' piece : Text) (e : WireFault)
    → HasServed g settings first now left left' held held' kept → Consumes left' left'' piece → TakesOn g settings now kept piece new kept' held' held'' (Err e) → e ≢ Read
    → Serves g settings first new left left'' held held'' (Err e)
Serves-piece g settings first now new left left' left'' held held' held'' kept kept' piece e h c p f =
    serves g settings first new left left'' held held'' (Err e) (h.read ++ piece) (h.sent ++ p.sent) (Consumes-trans left left' left'' h.read piece h.consumed c)
    (Appends-trans held held' held'' h.sent p.sent h.appended p.appended)
    (EndsBy-break g settings first left'' (h.read ++ piece) (h.sent ++ p.sent) new e f (inl (simp append-nil at (p.outcome first h.read h.sent h.stands []))))
