-- SPDX-License-Identifier: Apache-2.0
-- A transition: one line of one terminal, run to its end.
use Rattle.std.specs.Prelude.{◌≡◌, ℕ, Bool, true, false, cond, nat_lt, [], length, Option, Some, None}
use Rattle.std.specs.List.{list_all}
use Rattle.std.specs.Ordering.{nat_cmp}
use Rattle.std.specs.FinMap.{FinMap, get, insert, remove}
use Rattle.mspec.specs.Code.{Code, Zterm, Zline, Zchar, Zsyntax, is_halting, Fault, Own, Lost}
pub use Rattle.mspec.specs.Limits.{max_line}
use Rattle.mspec.specs.Plan.{Plan, perform, cut_short}
use Rattle.mspec.specs.LockConflict.{released}
use Rattle.mspec.specs.Act.{Text, Node, Locals, no_locals, level_begun, given_to, State, Outcome, Gives, Fails, Act, fail}
use Rattle.mspec.specs.Cursor.{Cursor, home}
use Rattle.mspec.specs.Scopes.{outermost}
use Rattle.mspec.specs.Names.{is_character}
use Rattle.mgrammar.specs.Grammar.{LineTree}
use Rattle.mgrammar.specs.Languages.{line_in}
use Rattle.mmeaning.specs.LineMeaning.{Completion, run}
pub use Rattle.mspec.specs.Access.{Account, Settings}
pub use Rattle.mmeaning.specs.Shared.{Shared, act}

-- what a terminal keeps from line to line; a new one has no locals, no naked indicator, and 0 as $TEST, and its output is at its beginning
pub record Session : Type 0 where
  pub locals : Locals
  pub naked : Option Node
  pub test : Bool
  pub cursor : Cursor

abbrev pub new_session : Session
new_session = record { locals = no_locals; naked = None; test = false; cursor = home }

abbrev pub session_or_new : Option Session → Session
session_or_new None = new_session
session_or_new (Some s) = s

pub record World : Type 0 where
  pub shared : Shared
  pub sessions : FinMap nat_cmp Session

pub record Event : Type 0 where
  pub terminal : ℕ
  pub text : Text

pub data Ending : Type 0 where
  Finished : Ending
  Halted : Ending
  Faulted : Fault → Ending

pub record Reply : Type 0 where
  pub out : Text
  pub ending : Ending

-- a line is a level of its own, and is given its terminal, and its account's steps and language
abbrev pub begun : ℕ → Account → Session → State
begun terminal account s =
    record { locals = level_begun s.locals; naked = s.naked; test = s.test; cursor = s.cursor; out = []; steps = account.steps; given = given_to terminal account.language }

-- none of the scopes that a line opened is left, however it ended
abbrev pub kept : State → Session
kept s = record { locals = outermost s.locals; naked = s.naked; test = s.test; cursor = s.cursor }

-- what a text of an account does; one that has no tree fails with ZSYNTAX
abbrev pub text_run : Text → Option LineTree → Act Completion
text_run a None = fail Zsyntax
text_run a (Some tree) = run a tree

-- what it does from a terminal
abbrev pub plan_of : ℕ → Account → Session → Option LineTree → Plan (Outcome Completion)
plan_of terminal account s tree = text_run account.name tree (begun terminal account s)

-- how a line that fails with this code ends
abbrev pub ending_of : Code → Ending
ending_of c = cond (is_halting c) Halted (Faulted (Own c))

abbrev pub reply_of : Outcome Completion → Reply
reply_of (Gives completion s) = record { out = s.out; ending = Finished }
reply_of (Fails code s) = record { out = s.out; ending = ending_of code }

abbrev pub state_of : Outcome Completion → State
state_of (Gives completion s) = s
state_of (Fails code s) = s

-- effects before an error stand, and so does the session; if the line halts, session and locks are gone
abbrev pub settled : ℕ → World → Ending → State → Shared → World
settled terminal world Finished s w = record { shared = w; sessions = insert world.sessions terminal (kept s) }
settled terminal world (Faulted fault) s w = record { shared = w; sessions = insert world.sessions terminal (kept s) }
settled terminal world Halted s w =
    record { shared = record w { locks = released w.locks terminal }; sessions = remove world.sessions terminal }

abbrev pub ended : ℕ → World → Outcome Completion × Shared → Reply × World
ended terminal world r = (reply_of r.0, settled terminal world (reply_of r.0).ending (state_of r.0) r.1)

abbrev pub refused : Code → World → Reply × World
refused code world = (record { out = []; ending = Faulted (Own code) }, world)

-- the run of a line that passed the checks before it; a session that it opens for a text without a tree is like a new one, so like none
abbrev pub at_tree : Settings → Event → World → Account → Reply × World
at_tree settings e world account =
    ended e.terminal world (perform (act settings e.terminal account.name) (plan_of e.terminal account (session_or_new (get world.sessions e.terminal)) (line_in account.language e.text)) world.shared)

abbrev pub is_too_long : Text → Bool
is_too_long text = nat_lt max_line (length text)

abbrev pub is_ascii : Text → Bool
is_ascii text = list_all is_character text

-- by whether the text is too long, and whether it is ASCII
abbrev pub checked : Bool → Bool → Settings → Event → World → Account → Reply × World
checked true ascii settings e world account = refused Zline world
checked false false settings e world account = refused Zchar world
checked false true settings e world account = at_tree settings e world account

abbrev pub at_account : Settings → Event → World → Option Account → Reply × World
at_account settings e world None = refused Zterm world
at_account settings e world (Some account) = checked (is_too_long e.text) (is_ascii e.text) settings e world account

-- a transition that memory and the store suffice for: the checks in their order, and then the run
abbrev pub normal : Settings → Event → World → Reply × World
normal settings e world = at_account settings e world (get settings.terminals e.terminal)

-- A transition that they do not suffice for. It comes after the checks that take no memory; the reply has no output, the terminal's
-- session and its locks are gone, the globals are those of the line cut short, and all else is unchanged.
pub record FailedTransition (settings : Settings) (e : Event) (world after : World) : Type 0 where
  pub account : Account
  pub known : get settings.terminals e.terminal ≡ Some account
  pub short : is_too_long e.text ≡ false
  pub ascii : is_ascii e.text ≡ true
  pub operations : ℕ
  pub globals :
      after.shared.globals ≡
      (cut_short (act settings e.terminal account.name) operations (plan_of e.terminal account (session_or_new (get world.sessions e.terminal)) (line_in account.language e.text)) world.shared).globals
  pub locks : after.shared.locks ≡ released world.shared.locks e.terminal
  pub sessions : after.sessions ≡ remove world.sessions e.terminal

-- memory or the store did not suffice
abbrev pub is_lost : Fault → Bool
is_lost (Own code) = false
is_lost (Lost loss) = true

abbrev pub is_failure : Ending → Bool
is_failure Finished = false
is_failure Halted = false
is_failure (Faulted fault) = is_lost fault

abbrev pub lost : Ending → Reply
lost ending = record { out = []; ending = ending }

-- a normal transition, or a failed one if the reply says so
abbrev pub TransitionBy : Bool → Settings → Event → Reply → World → World → Type 0
TransitionBy false settings e reply world after = normal settings e world ≡ (reply, after)
TransitionBy true settings e reply world after = (reply ≡ lost reply.ending) × FailedTransition settings e world after

abbrev pub Transition : Settings → Event → Reply → World → World → Type 0
Transition settings e reply world after = TransitionBy (is_failure reply.ending) settings e reply world after
