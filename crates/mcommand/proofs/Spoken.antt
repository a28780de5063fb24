-- SPDX-License-Identifier: Apache-2.0
-- What depends on the language of the line, and on nothing else of the point.
use Rattle.mcommand.proofs.CommandWords.{◌≡◌, ℕ, List, Option, Some, None, Result, Ok, Err, refl, Text, Act, ◌>>=◌, ◌>>◌, give, Yields, Ghosts, fault_of, Code}
use Rattle.mcommand.proofs.CommandWords.{standing_of, Parts, Does, DoesAt}
use Rattle.mspec.specs.Code.{Fault, Own, Lost, Memory, Store, M13, Zlevel}
use Rattle.mspec.specs.Act.{State, in_language, give_some, read_so, unless}
use Rattle.std.specs.Prelude.{position, slice_get}
use Rattle.mgrammar.specs.Grammar.{EntryTree}
use Rattle.mmeaning.specs.Calls.{Standing, Here, FailedBy, Ends, Did}
use Rattle.mmeaning.specs.Levels as levels
use Rattle.mmeaning.specs.Levels.{is_entry, has_dots, lines_of_entry}
use Rattle.mcommand.specs.Targets.{target_among}
use Rattle.mcommand.proofs.Calls.{does_yielded}

-- ---- calls

failed_in : {A : Type 0} (b : Standing) (steady : Type 0) (p : ℕ → Act A) (h h' : Here) (d : Fault) → FailedBy b steady (p h.0.given.language) h d h'
    → FailedBy b steady (in_language p) h d h'
failed_in b steady p h h' (Own c) e = e
failed_in b steady p h h' (Lost Memory) e = e
failed_in b steady p h h' (Lost Store) e = e

ends_in : {A X : Type 0} (b : Standing) (steady : Type 0) (p : ℕ → Act A) (f : X → A) (h h' : Here) (r : Result X Code)
    → Ends b steady fault_of (p h.0.given.language) f h r h'
    → Ends b steady fault_of (in_language p) f h r h'
ends_in b steady p f h h' (Ok x) e = e
ends_in b steady p f h h' (Err c) e = failed_in b steady p h h' (fault_of c) e

-- what is done in the language of the line, where that is known
pub did_in : {A X : Type 0} {b : Standing} {steady : Type 0} (p : ℕ → Act A) {f : X → A} {r : Result X Code} {h h' : Here}
    → Did b steady fault_of (λ n. p h.0.given.language) f h r h'
    → Did b steady fault_of (λ n. in_language p) f h r h'
did_in {b = b} {steady = steady} p {f = f} {r = r} {h = h} {h' = h'} d = record { at = λ n le. ends_in b steady p f h h' r (d.at n le); fewer = d.fewer }

pub does_in : {S A X : Type 0} {g : Ghosts S} (p : ℕ → Act A) {f : X → A} {old new : Parts S} {r : Result X Code}
    → Does g (λ i. p (standing_of old.eval).given.language) f old r new
    → Does g (λ i. in_language p) f old r new
does_in p d = record { at = λ sure. did_in p (d.at sure); doubt = d.doubt; keeps = d.keeps; depth = d.depth }

pub at_in : {S A X : Type 0} {g : Ghosts S} (p : ℕ → Act A) {f : X → A} {old new : Parts S} {r : Result X Code}
    → DoesAt g (λ a n. p (standing_of old.eval).given.language) f old r new
    → DoesAt g (λ a n. in_language p) f old r new
at_in p d = record { at = λ sure. did_in p (d.at sure); doubt = d.doubt; keeps = d.keeps }

-- a call that needs nothing of the point but that
pub does_spoken : {S A X : Type 0} {g : Ghosts S} (p : ℕ → Act A) {f : X → A} {parts : Parts S} {r : Result X Code}
    → Yields fault_of (p (standing_of parts.eval).given.language) f r
    → Does g (λ i. in_language p) f parts r parts
does_spoken p y = does_in p (does_yielded y)

-- ---- the line that an entry means

-- once the lines are there in which it is sought
abbrev pub target_in : List Text → ℕ → EntryTree → Act levels.Target
target_in lines dots e = in_language (λ l. target_among l lines dots e)

-- what is done with its place
abbrev at_place : List Text → ℕ → ℕ → Act levels.Target
at_place lines dots n = in_language (λ l. unless Zlevel (has_dots l dots (slice_get lines n))) >> give (record { copy = lines; line = n })

place_found : (lines : List Text) (dots : ℕ) (s : State) (o : Option ℕ)
    → (give_some M13 o >>= at_place lines dots) s ≡ (give_some M13 o >>= (λ n. unless Zlevel (has_dots s.given.language dots (slice_get lines n)) >> give (record { copy = lines; line = n }))) s
place_found lines dots s None = refl
place_found lines dots s (Some n) = refl

pub target_is : (copy : List Text) (dots : ℕ) (e : EntryTree)
    → ◌≡◌ {A = Act levels.Target} (levels.target copy dots e) (lines_of_entry copy e >>= (λ lines. target_in lines dots e))
target_is copy dots e = λ i. lines_of_entry copy e >>= (λ lines. λ s. place_found lines dots s (position (is_entry s.given.language e) lines) i)
