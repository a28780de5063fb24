-- SPDX-License-Identifier: Apache-2.0
-- An act of a session: from the session's state to a plan that ends with a value or a code, and with the state after it.
use Rattle.std.specs.Prelude.{ℕ, zero, suc, Bool, true, false, List, [], ◌∷◌, ◌++◌, map, length, Option, Some, None}
use Rattle.mspec.specs.Code.{Code, M6, Zsteps}
pub use Rattle.mspec.specs.Node.{Text, Node}
use Rattle.mspec.specs.Scopes.{Scopes, Binding, bottom, value_at, assigned, with_level, bound}
use Rattle.mspec.specs.Cursor.{Cursor, format_byte, after_characters, after_formats}
use Rattle.mspec.specs.Plan.{Op, Answer, Plan, Done, Ask, then_plan}

-- the locals of a session: a stack of scopes
abbrev pub Locals : Type 0
Locals = Scopes

-- those of a new session: the scope at the bottom, without a text
unfoldable pub no_locals : Locals
no_locals = bottom ∷ []

-- with one more level
unfoldable pub level_begun : Locals → Locals
level_begun locals = with_level locals

-- with one that has formal parameters
unfoldable pub level_bound : List (Text × Binding) → Locals → Locals
level_bound bs locals = bound bs locals

unfoldable pub value_of : Locals → Text → List Text → Option Text
value_of locals name xs = value_at locals name xs

unfoldable pub assigned_to : Locals → Text → List Text → Text → Locals
assigned_to locals name xs x = assigned locals name xs x

-- a day, counted as $HOROLOG counts days, and the seconds of it that are over
pub record Moment : Type 0 where
  pub days : ℕ
  pub seconds : ℕ

-- What a line is given, and no command changes: the terminal that it comes from; the language that its texts are read in; and, which no
-- command asks for yet, the moment that it is said to run at, the seed of its chance, and the texts that were typed ahead for it.
pub record Given : Type 0 where
  pub terminal : ℕ
  pub language : ℕ
  pub moment : Option Moment
  pub seed : Option ℕ
  pub inputs : List Text

-- the terminal and the language, and nothing else
abbrev pub given_to : ℕ → ℕ → Given
given_to terminal language = record { terminal = terminal; language = language; moment = None; seed = None; inputs = [] }

-- the state of a session while a line runs: what it keeps (locals, naked indicator, $TEST, where its output is), the line's output so far,
-- the steps that are left, and what the line is given
pub record State : Type 0 where
  pub locals : Locals
  pub naked : Option Node
  pub test : Bool
  pub cursor : Cursor
  pub out : Text
  pub steps : ℕ
  pub given : Given

pub data Outcome (A : Type 0) : Type 0 where
  Gives : A → State → Outcome A
  Fails : Code → State → Outcome A

abbrev pub Act : Type 0 → Type 0
Act A = State → Plan (Outcome A)

abbrev pub on_gives : {A B : Type 0} → (A → Act B) → Outcome A → Plan (Outcome B)
on_gives f (Gives a s) = f a s
on_gives f (Fails c s) = Done (Fails c s)

infixl 1 ◌>>=◌
infixl 1 ◌>>◌
abbrev pub ◌>>=◌ : {A B : Type 0} → Act A → (A → Act B) → Act B
m >>= f = λ s. then_plan (m s) (on_gives f)

abbrev pub ◌>>◌ : {A B : Type 0} → Act A → Act B → Act B
m >> n = λ s. then_plan (m s) (on_gives (λ _. n))

abbrev pub give : {A : Type 0} → A → Act A
give a s = Done (Gives a s)

abbrev pub fail : {A : Type 0} → Code → Act A
fail c s = Done (Fails c s)

-- asks the world
abbrev pub ask : (op : Op) → Act (Answer op)
ask op s = Ask op (λ r. Done (Gives r s))

abbrev pub charged : ℕ → State → Outcome (Unit {0})
charged zero s = Fails Zsteps s
charged (suc n) s = Gives tt (record s { steps = n })

-- one step is charged: the last of the allowance succeeds, and the next fails
abbrev pub charge : Act (Unit {0})
charge s = Done (charged s.steps s)

-- to the output, and to where it is
abbrev pub append : Text → Act (Unit {0})
append t s = Done (Gives tt (record s { out = s.out ++ t }))

abbrev pub move_cursor : (Cursor → Cursor) → Act (Unit {0})
move_cursor f s = Done (Gives tt (record s { cursor = f s.cursor }))

abbrev pub write : Text → Act (Unit {0})
write t = append t >> move_cursor (after_characters (length t))

abbrev pub write_formats : List ℕ → Act (Unit {0})
write_formats fs = append (map format_byte fs) >> move_cursor (after_formats fs)

abbrev pub give_some : {A : Type 0} → Code → Option A → Act A
give_some c None = fail c
give_some c (Some a) = give a

-- the terminal that the line comes from
abbrev pub terminal_is : Act ℕ
terminal_is s = Done (Gives s.given.terminal s)

-- what is done in the line's language
abbrev pub in_language : {A : Type 0} → (ℕ → Act A) → Act A
in_language f s = f s.given.language s

-- what a text is read as in the line's language, if it is read as anything
abbrev pub read_so : {A : Type 0} → Code → (ℕ → Option A) → Act A
read_so c read s = give_some c (read s.given.language) s

abbrev pub unless : Code → Bool → Act (Unit {0})
unless c true = give tt
unless c false = fail c

-- the text at these subscripts of the variable with this name
abbrev pub get_local : Text → List Text → Act Text
get_local name xs s = give_some M6 (value_of s.locals name xs) s

abbrev pub set_local : Text → List Text → Text → Act (Unit {0})
set_local name xs x s = Done (Gives tt (record s { locals = assigned_to s.locals name xs x }))

-- another change of the locals, and what is asked of them
abbrev pub with_locals : (Locals → Locals) → Act (Unit {0})
with_locals f s = Done (Gives tt (record s { locals = f s.locals }))

abbrev pub of_locals : {A : Type 0} → (Locals → A) → Act A
of_locals f s = Done (Gives (f s.locals) s)

-- $TEST
abbrev pub test_is : Act Bool
test_is s = Done (Gives s.test s)

abbrev pub set_test : Bool → Act (Unit {0})
set_test b s = Done (Gives tt (record s { test = b }))

-- $X and $Y
abbrev pub cursor_is : Act Cursor
cursor_is s = Done (Gives s.cursor s)

-- the naked indicator: the node that was referred to last
abbrev pub naked_is : Act (Option Node)
naked_is s = Done (Gives s.naked s)

abbrev pub set_naked : Option Node → Act (Unit {0})
set_naked n s = Done (Gives tt (record s { naked = n }))
