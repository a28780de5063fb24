-- SPDX-License-Identifier: Apache-2.0
-- The wire form and the replies of the definitional interpreter on examples, as proved equations.
use Rattle.mwire.proofs.WireWords.{◌≡◌, ℕ, List, [], ◌∷◌, ◌++◌, refl, ap, ◌∙◌, codes, replicate, digits, lines, Text, no_locals, level_begun, value_of}
use Rattle.mwire.proofs.WireWords.{assigned_to, Zlong, Own, Settings, World, Reply, Finished, Halted, Faulted, opening, WireLine, Ignored, TooLong, Unreadable}
use Rattle.mwire.proofs.WireWords.{Runs, classify, shown, reply_text, line_served, lines_served, stream_served}
use Rattle.std.specs.FinMap.{empty, get, gets}
use Rattle.mspec.specs.NodeOrder.{canonical_value}
use Rattle.mspec.proofs.ComputedMaps.{computed_maps}
use Rattle.mspec.proofs.ComputedNumbers.{computed_numbers}
use Rattle.mgrammar.specs.Languages.{line_in}
use Rattle.mgrammar.proofs.Computing.{reads_in}
use Rattle.mmeaning.proofs.ExampleAccount.{alice}
use Rattle.mmeaning.proofs.LineRuns.{language_of, shut_step, step_is_shut}

abbrev runs : ℕ → Text → WireLine
runs terminal text = Runs (record { terminal = terminal; text = text })

-- a terminal of one digit and of four, and an empty text
terminals : (classify (codes "1 W 1") ≡ runs 1 (codes "W 1")) × (classify (codes "9999 W 1") ≡ runs 9999 (codes "W 1")) × (classify (codes "2 ") ≡ runs 2 [])
terminals = (refl, refl, refl)

-- a leading zero, the terminal 0, five digits, no space, no terminal, a space before it, a word
unreadable : (classify (codes "01 W 1") ≡ Unreadable) × (classify (codes "0 W 1") ≡ Unreadable) × (classify (codes "10000 W 1") ≡ Unreadable)
    × (classify (codes "1") ≡ Unreadable) × (classify (codes " W 1") ≡ Unreadable) × (classify (codes " 1 W 1") ≡ Unreadable) × (classify (codes "A W 1") ≡ Unreadable)
unreadable = (refl, refl, refl, refl, refl, refl, refl)

-- only the first space ends the terminal
further_spaces : classify (codes "12   W 1") ≡ runs 12 (codes "  W 1")
further_spaces = refl

empty_line : classify [] ≡ Ignored
empty_line = refl

-- 260 bytes are taken, and one more is not, whatever they are
longest : (classify (codes "1 ;" ++ replicate 257 65) ≡ runs 1 (59 ∷ replicate 257 65)) × (classify (codes "1 ;" ++ replicate 258 65) ≡ TooLong) × (classify (replicate 261 32) ≡ TooLong)
longest = (refl, refl, refl)

-- a carriage return goes with the line feed after it, one at a time, and not from an unfinished line
carriage_returns : lines (codes "A" ++ 13 ∷ 10 ∷ (codes "B" ++ 13 ∷ 13 ∷ 10 ∷ 10 ∷ (codes "C" ++ 13 ∷ []))) ≡ (codes "A" ∷ (codes "B" ++ 13 ∷ []) ∷ [] ∷ (codes "C" ++ 13 ∷ []) ∷ [])
carriage_returns = refl

-- codes 0, 10, 31, 127 and a backslash are escaped; a space, a letter and a tilde are not
escapes : shown (0 ∷ 10 ∷ 31 ∷ 127 ∷ 92 ∷ 32 ∷ 65 ∷ 126 ∷ []) ≡ codes "\\00\\0A\\1F\\7F\\5C A~"
escapes = refl

-- texts, each followed by a line feed
abbrev fed : List Text → Text
fed [] = []
fed (line ∷ more) = line ++ 10 ∷ fed more

-- an output of a line, an empty line and a rest; an output that ends with a line end; no output
reply_lines : reply_text 12 (record { out = codes "x\\" ++ 255 ∷ 255 ∷ codes "-2"; ending = Finished }) ≡ fed (codes "12:x\\5C" ∷ codes "12:" ∷ codes "12--2" ∷ codes "12." ∷ [])
unfolding digits
reply_lines = refl

reply_endings : (reply_text 3 (record { out = codes "x" ++ 255 ∷ []; ending = Halted }) ≡ fed (codes "3:x" ∷ codes "3." ∷ []))
    × (reply_text 3 (record { out = []; ending = Faulted (Own Zlong) }) ≡ fed (codes "3!ZLONG" ∷ []))
unfolding digits
reply_endings = (refl, refl)

-- ---- streams, by steps whose turns are shut

abbrev line_by_shut : Settings → World → WireLine → Text × World
line_by_shut settings world (Runs e) =
    let read = line_in (language_of (get settings.terminals e.terminal)) e.text in
    (reply_text e.terminal (shut_step settings e read world).0, (shut_step settings e read world).1)
line_by_shut settings world unrun = line_served settings world unrun

abbrev lines_by_shut : Settings → World → List Text → Text
lines_by_shut settings world [] = []
lines_by_shut settings world (line ∷ more) =
    (line_by_shut settings world (classify line)).0 ++ lines_by_shut settings (line_by_shut settings world (classify line)).1 more

line_is_shut : (settings : Settings) (world : World) (f : WireLine) → line_served settings world f ≡ line_by_shut settings world f
line_is_shut settings world (Runs e) = ap (λ (r : Reply × World). (reply_text e.terminal r.0, r.1)) (step_is_shut settings e world)
line_is_shut settings world unrun = refl

lines_are_shut : (settings : Settings) (world : World) (ls : List Text) → lines_served settings world ls ≡ lines_by_shut settings world ls
lines_are_shut settings world [] = refl
lines_are_shut settings world (line ∷ more) =
    ap (λ (r : Text × World). r.0 ++ lines_served settings r.1 more) (line_is_shut settings world (classify line))
    ∙ (let r = line_by_shut settings world (classify line) in ap (λ (t : Text). r.0 ++ t) (lines_are_shut settings r.1 more))

served : (bytes : Text) {answer : Text} → lines_by_shut alice (opening empty) (lines bytes) ≡ answer → stream_served alice empty bytes ≡ answer
served bytes is = lines_are_shut alice (opening empty) (lines bytes) ∙ is

left_to_right : stream_served alice empty (fed (codes "1 WRITE 1+2*3" ∷ [])) ≡ fed (codes "1-9" ∷ codes "1." ∷ [])
unfolding reads_in digits canonical_value no_locals level_begun value_of assigned_to
left_to_right = served (fed (codes "1 WRITE 1+2*3" ∷ [])) (simp (gets, computed_maps, computed_numbers))

-- what a line assigned is there for the next, and an unfinished last line is run
sessions : stream_served alice empty (fed (codes "1 S A=\"x\"" ∷ []) ++ codes "1 W A") ≡ fed (codes "1." ∷ codes "1-x" ∷ codes "1." ∷ [])
unfolding reads_in digits canonical_value no_locals level_begun value_of assigned_to
sessions = served (fed (codes "1 S A=\"x\"" ∷ []) ++ codes "1 W A") (simp (gets, computed_maps, computed_numbers))

-- a fault, and output with a line end
faults : stream_served alice empty (fed (codes "1 W !,\"x\",B" ∷ [])) ≡ fed (codes "1:" ∷ codes "1-x" ∷ codes "1!M6" ∷ [])
unfolding reads_in digits canonical_value no_locals level_begun value_of assigned_to
faults = served (fed (codes "1 W !,\"x\",B" ∷ [])) (simp (gets, computed_maps, computed_numbers))

-- lines of each wire_line, and an account without the terminal
stream : stream_served alice empty (fed ([] ∷ codes "1 W 1+" ∷ codes "hello" ∷ (codes "1 ;" ++ replicate 258 65) ∷ (codes "2 W 1" ++ 13 ∷ []) ∷ codes "1 W 2" ∷ [])) ≡ fed (codes "1!ZSYNTAX" ∷ codes "?!ZWIRE" ∷ codes "?!ZLINE" ∷ codes "2!ZTERM" ∷ codes "1-2" ∷ codes "1." ∷ [])
unfolding reads_in digits canonical_value no_locals level_begun value_of assigned_to
stream = served (fed ([] ∷ codes "1 W 1+" ∷ codes "hello" ∷ (codes "1 ;" ++ replicate 258 65) ∷ (codes "2 W 1" ++ 13 ∷ []) ∷ codes "1 W 2" ∷ [])) (simp (gets, computed_maps, computed_numbers))
