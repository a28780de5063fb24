-- SPDX-License-Identifier: Apache-2.0
-- Events have a stream.
use Rattle.mwire.proofs.WireWords.{◌≡◌, ℕ, suc, ◌+◌, ◌^◌, ◌<◌, ◌≤◌, Bool, true, false, List, [], ◌∷◌, ◌++◌, length, get_or, slice_index, map, ◌-◌, ◌==◌}
use Rattle.mwire.proofs.WireWords.{append-nil, length-append, refl, sym, ap, ◌∙◌, arith, if◌then◌else◌, list_all, before_first, after_first, position_or_len}
use Rattle.mwire.proofs.WireWords.{flat_map, decimal, strip_carriage_return, length-take-le, get_or-append-add, All-head, All-tail, All-nil, All-push}
use Rattle.mwire.proofs.WireWords.{All-append, nat_tests, Text, is_digit, digits_after, Event, max_line, Ignored, TooLong, Unreadable, Runs, is_space}
use Rattle.mwire.proofs.WireWords.{is_terminal, is_event, classify, before_events, events_of, IsOpen, AreOpen, IsCut, line_of, HasLine, EventsHaveStream, take}
use Rattle.mwire.proofs.WireWords.{drop}
use Rattle.std.proofs.Common.{All}
use Rattle.std.proofs.lemmas.List.Folds.{flat_map-map}
use Rattle.std.proofs.Math.Seq.{take-append_seam, drop-append-add}
use Rattle.std.proofs.lemmas.Fmt.{first_decimal, decimal_nonempty, length-decimal-le}
use Rattle.mspec.proofs.TextLaws.{Digit, decimal_reads}
use Rattle.mwire.specs.Wire.{event_of}
use Rattle.mwire.proofs.Cuts.{lines-cut}

digit_is_no_space : (c : ℕ) → Digit c → is_space c ≡ false
digit_is_no_space c h = grind (arith, nat_tests)

all_digits : (ds : List ℕ) → All Digit ds → list_all is_digit ds ≡ true
all_digits [] all = refl
all_digits (c ∷ cs) all = grind (arith, All-head Digit c cs all, all_digits cs (All-tail Digit c cs all))

-- the first space comes after the digits
space_at : (ds text : List ℕ) → All Digit ds → position_or_len is_space (ds ++ 32 ∷ text) ≡ length ds
space_at [] text all = refl
space_at (c ∷ cs) text all = grind (arith, digit_is_no_space c (All-head Digit c cs all), space_at cs text (All-tail Digit c cs all))

wire_line_by : (empty long event : Bool) (e given : Event) → empty ≡ false → long ≡ false → event ≡ true → e ≡ given
    → (if empty then Ignored else if long then TooLong else if event then Runs e else Unreadable) ≡ Runs given
wire_line_by empty long event e given filled short is_one same = rw (filled, short, is_one) (ap Runs same)

abbrev event_as : ℕ → Text → Event
event_as terminal text = record { terminal = terminal; text = text }

classify_line : (terminal : ℕ) (text : Text) → 0 < terminal → terminal ≤ 9999 → length text ≤ max_line → classify (decimal terminal ++ 32 ∷ text) ≡ Runs (event_as terminal text)
classify_line terminal text some most short =
    let below : terminal < 2 ^ 64 = omega arith in
    let digits = decimal terminal in
    let reads = decimal_reads terminal below in
    let place : position_or_len is_space (digits ++ 32 ∷ text) ≡ length digits = space_at digits text reads.0 in
    let head : before_first is_space (digits ++ 32 ∷ text) ≡ digits = ap (λ n. take n (digits ++ 32 ∷ text)) place ∙ take-append_seam digits (32 ∷ text) in
    let tail : after_first is_space (digits ++ 32 ∷ text) ≡ text = ap (λ n. drop (n + 1) (digits ++ 32 ∷ text)) place ∙ drop-append-add digits (32 ∷ text) 1 in
    let size : length (digits ++ 32 ∷ text) ≡ length digits + suc (length text) = length-append digits (32 ∷ text) in
    let at_most : length digits ≤ 4 = length-decimal-le 4 terminal (omega arith) (omega arith) below in
    let at_least : 0 < length digits = decimal_nonempty terminal below in
    let is_one : is_terminal digits ≡ true = grind (arith, nat_tests, all_digits digits reads.0, at_most, at_least, first_decimal terminal some below) in
    let event : is_event (digits ++ 32 ∷ text) ≡ true = grind (arith, nat_tests, place, size, ap is_terminal head ∙ is_one) in
    let value : digits_after 0 (before_first is_space (digits ++ 32 ∷ text)) ≡ terminal = ap (digits_after 0) head ∙ reads.1 in
    let same : event_of (digits ++ 32 ∷ text) ≡ event_as terminal text =
    ap (λ n. event_as n (after_first is_space (digits ++ 32 ∷ text))) value ∙ ap (event_as terminal) tail in
    wire_line_by _ _ _ (event_of (digits ++ 32 ∷ text)) (event_as terminal text) (grind (arith, nat_tests, size)) (grind (arith, nat_tests, size, at_most, short)) event same

-- a text that keeps its end keeps it after a space too

strip_at : (l : List ℕ) (n : ℕ) → length l ≡ n + 1 → strip_carriage_return l ≡ (if slice_index l n == 13 then take n l else l)
strip_at l n size = let last : length l - 1 ≡ n = omega arith in ap (λ i. if slice_index l i == 13 then take i l else l) last

kept_end : (l : List ℕ) (n : ℕ) → length l ≡ n + 1 → strip_carriage_return l ≡ l → (slice_index l n == 13) ≡ false
kept_end l n size kept =
    let shorter : length (take n l) ≡ n = length-take-le n l (omega arith) in
    let at = sym (strip_at l n size) ∙ kept in
    elim (slice_index l n == 13) as (λ t. (if t then take n l else l) ≡ l → t ≡ false) [
      | true ↦ λ same. let equal = ap length same in absurd (omega arith)
      | false ↦ λ same. refl
    ] at

kept_by : (l : List ℕ) (n : ℕ) → length l ≡ n + 1 → (slice_index l n == 13) ≡ false → strip_carriage_return l ≡ l
kept_by l n size other = strip_at l n size ∙ ap (λ b. if b then take n l else l) other

strip-behind : (ds text : List ℕ) → strip_carriage_return text ≡ text → strip_carriage_return (ds ++ 32 ∷ text) ≡ ds ++ 32 ∷ text
strip-behind ds [] kept =
    let size : length (ds ++ 32 ∷ []) ≡ length ds + 0 + 1 = simp length-append (omega arith) in
    kept_by (ds ++ 32 ∷ []) (length ds + 0) size (ap (λ c. c == 13) (get_or-append-add ds (32 ∷ []) 0 0))
strip-behind ds (c ∷ cs) kept =
    let size : length (ds ++ 32 ∷ c ∷ cs) ≡ length ds + suc (length cs) + 1 = simp length-append (omega arith) in
    let last : (slice_index (c ∷ cs) (length cs) == 13) ≡ false = kept_end (c ∷ cs) (length cs) (omega arith) kept in
    kept_by (ds ++ 32 ∷ c ∷ cs) (length ds + suc (length cs)) size (ap (λ d. d == 13) (get_or-append-add ds (32 ∷ c ∷ cs) (suc (length cs)) 0) ∙ last)

-- no line feed is in the line

digit_is_no_feed : (c : ℕ) → Digit c → (c == 10) ≡ false
digit_is_no_feed c h = grind (arith, nat_tests)

digits_open : (ds : List ℕ) → All Digit ds → IsOpen ds
digits_open ds all = λ k d inside. digit_is_no_feed (get_or ds k d) (all k d inside)

line_open : (e : Event) → HasLine e → IsOpen (line_of e)
line_open e h =
    let below : e.terminal < 2 ^ 64 = omega (arith, h.at_most) in
    let P : ℕ → Type 0 = λ c. (c == 10) ≡ false in
    let space : All P (32 ∷ []) = All-push P [] 32 (All-nil P) refl in
    All-append P (decimal e.terminal) (32 ∷ e.text) (digits_open (decimal e.terminal) (decimal_reads e.terminal below).0) (All-append P (32 ∷ []) e.text space h.no_feed)

-- the lines of the stream

each_open : (events : List Event) → All HasLine events → AreOpen (map line_of events)
each_open [] all = tt
each_open (e ∷ es) all = (line_open e (All-head HasLine e es all), each_open es (All-tail HasLine e es all))

stream_cut : (events : List Event) → All HasLine events → IsCut (flat_map (λ e. line_of e ++ 10 ∷ []) events) (map line_of events) []
stream_cut events all = record { rest = []; whole = sym (append-nil _ ∙ flat_map-map (λ l. l ++ 10 ∷ []) line_of events); each = each_open events all; open_rest = All-nil (λ b. (b == 10) ≡ false); kept_is = refl }

classify_event : (e : Event) → HasLine e → classify (strip_carriage_return (line_of e)) ≡ Runs e
classify_event e h = ap classify (strip-behind (decimal e.terminal) e.text h.no_return) ∙ classify_line e.terminal e.text h.positive h.at_most h.short

events_of_stream : (events : List Event) → All HasLine events → events_of (map strip_carriage_return (map line_of events)) ≡ events
events_of_stream [] all = refl
events_of_stream (e ∷ es) all =
    ap (λ f. before_events f (events_of (map strip_carriage_return (map line_of es)))) (classify_event e (All-head HasLine e es all))
    ∙ ap (λ l. e ∷ l) (events_of_stream es (All-tail HasLine e es all))

pub events_have_stream : EventsHaveStream
unfolding stream_cut
events_have_stream events all =
    ap events_of (lines-cut _ (map line_of events) [] (stream_cut events all) ∙ append-nil (map strip_carriage_return (map line_of events))) ∙ events_of_stream events all
