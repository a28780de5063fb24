-- SPDX-License-Identifier: Apache-2.0
-- A text by what the parser says of its tree.
use Rattle.mcache.proofs.CacheWords.{arith, ◌≡◌, List, ℕ, Option, Some, None, Result, Err, line_at, RoutineLineTree, spell_routine_line, well_routine_line}
use Rattle.mcache.proofs.CacheWords.{routine_line_at}
use Rattle.mgrammar.specs.Grammar.{LineTree, spell}
use Rattle.mgrammar.specs.WellFormed.{well}
use Rattle.mgrammar.proofs.ReadingLines as lines
use Rattle.mgrammar.proofs.ReadingRoutines as routines

none_from : {T : Type 0} (o : Option T) → ((x : T) → o ≡ Some x → ⊥) → o ≡ None
none_from o h = grind arith

-- a text that a tree spells
pub line_is : (text : List ℕ) (l : LineTree) → well l × (spell l ≡ text) → line_at text ≡ Some l
line_is text l h = (lines.reads_its_tree text l).1 (h.1, h.0)

-- a text that no tree spells
pub no_line : (text : List ℕ) → ((t : LineTree) → well t → spell t ≡ text → ⊥) → line_at text ≡ None
no_line text h = none_from (line_at text) (λ l e. let read = (lines.reads_its_tree text l).0 e in h l read.1 read.0)

-- the same of a routine's line
pub routine_line_is : (text : List ℕ) (l : RoutineLineTree) → well_routine_line l × (spell_routine_line l ≡ text) → routine_line_at text ≡ Some l
routine_line_is text l h = (routines.reads_its_routine_tree text l).1 (h.1, h.0)

pub no_routine_line : (text : List ℕ) → ((t : RoutineLineTree) → well_routine_line t → spell_routine_line t ≡ text → ⊥) → routine_line_at text ≡ None
no_routine_line text h = none_from (routine_line_at text) (λ l e. let read = (routines.reads_its_routine_tree text l).0 e in h l read.1 read.0)

-- a fault that is handed on
pub handed_on : {A B E : Type 0} (r : Result A E) (y fault other : E) → r ≡ Err y → y ≡ fault → r ≡ Err other → ◌≡◌ {A = Result B E} (Err fault) (Err other)
handed_on r y fault other is same h = grind arith
