-- SPDX-License-Identifier: Apache-2.0
-- Lines of a terminal, one after another, in a form that `simp` computes: a turn is opened only if its state is known, since what
-- runs a turn holds what runs the next one, and so on for all the fuel.
use Rattle.mmeaning.proofs.MeaningWords.{◌≡◌, ℕ, zero, suc, Bool, true, false, List, [], ◌∷◌, Option, Some, None, refl, ap, ◌∙◌, map, empty, get, insert}
use Rattle.mmeaning.proofs.MeaningWords.{get-insert, nat_cmp_total, Plan, perform, Zsyntax, Zsteps, Zterm, Zline, Zchar, ReferenceTree, ArgTree}
use Rattle.mmeaning.proofs.MeaningWords.{CommandTree, LineTree, line_in, opening, replies, Text, Node, Locals, Given, no_locals, assigned_to, State, Outcome}
use Rattle.mmeaning.proofs.MeaningWords.{Act, ◌>>=◌, fail, Evaluated, evaluated, Depth, finds, inside, Completion, Position, top_level, Turning, Texts}
use Rattle.mmeaning.proofs.MeaningWords.{Context, texts, arguments, commands, after_turn, after_level, closed, stays, commands_of, Account, Settings, Session}
use Rattle.mmeaning.proofs.MeaningWords.{World, Event, Reply, plan_of, begun, session_or_new, ended, refused, is_too_long, is_ascii, checked, at_account}
use Rattle.mmeaning.proofs.MeaningWords.{normal, Cursor}
use Rattle.mmeaning.specs.Transition.{act}
use Rattle.mmeaning.proofs.ExampleAccount.{account, settings_of}

-- ---- what lines are answered

abbrev pub event : Text → Event
event t = record { terminal = 1; text = t }

-- what lines of terminal 1 are answered, of an account and in a world
pub record AreAnswered (a : Account) (world : World) (ts : List Text) (rs : List Reply) : Type 0 where
  pub answers : replies (settings_of a) world (map event ts) ≡ rs

-- in a new world, with 2,000 steps a line
abbrev pub Answered : List Text → List Reply → Type 0
Answered ts rs = AreAnswered account (opening empty) ts rs

-- each line by itself, in this world, with its reply
abbrev pub Cases : Type 0
Cases = List (Text × Reply)

pub record AreAnsweredEach (a : Account) (world : World) (cases : Cases) : Type 0 where
  pub answers : map (λ c. (normal (settings_of a) (event c.0) world).0) cases ≡ map (λ c. c.1) cases

abbrev pub Each : Cases → Type 0
Each cases = AreAnsweredEach account (opening empty) cases

-- a world in which terminal 1 has a session, and nothing is stored
abbrev pub serving : Session → World
serving s = record { shared = (opening empty).shared; sessions = insert empty 1 s }

-- in the first line of its output
abbrev pub at_column : ℕ → Cursor
at_column n = record { column = n; row = 0 }

-- where it holds one text, at a variable's name, after this many characters of output
abbrev pub holding_after : ℕ → Text → Text → World
holding_after n name x = serving (record { locals = assigned_to no_locals name [] x; naked = None; test = false; cursor = at_column n })

abbrev pub holding : Text → Text → World
holding name x = holding_after 0 name x

-- ---- the same with turns and texts that are shut

unfoldable pub shut : Text → ℕ → Texts
shut a n = texts a n

abbrev pub at : Text → ℕ → Position → Context
at a n p = record { account = a; fuel = n; position = p; texts = shut a n }

abbrev pub shut_run : Text → Option LineTree → State → Plan (Outcome Completion)
shut_run a None s = fail Zsyntax s
shut_run a (Some l) s = (commands (at a s.steps top_level) (commands_of l) >>= after_level (at a s.steps top_level) >>= closed stays) s

run_is_shut : (terminal : ℕ) (a : Account) (s : Session) (l : Option LineTree) → plan_of terminal a s l ≡ shut_run a.name l (begun terminal a s)
unfolding shut
run_is_shut terminal a s None = refl
run_is_shut terminal a s (Some l) = refl

-- ---- steps, by the trees of their lines

abbrev shut_checked : Bool → Bool → Settings → Event → Option LineTree → World → Account → Reply × World
shut_checked true ascii settings e l world a = refused Zline world
shut_checked false false settings e l world a = refused Zchar world
shut_checked false true settings e l world a =
    ended e.terminal world (perform (act settings e.terminal a.name) (shut_run a.name l (begun e.terminal a (session_or_new (get world.sessions e.terminal)))) world.shared)

abbrev shut_at_account : Settings → Event → Option LineTree → World → Option Account → Reply × World
shut_at_account settings e l world None = refused Zterm world
shut_at_account settings e l world (Some a) = shut_checked (is_too_long e.text) (is_ascii e.text) settings e l world a

abbrev pub shut_step : Settings → Event → Option LineTree → World → Reply × World
shut_step settings e l world = shut_at_account settings e l world (get settings.terminals e.terminal)

checked_is_shut : (long ascii : Bool) (settings : Settings) (e : Event) (world : World) (a : Account)
    → checked long ascii settings e world a ≡ shut_checked long ascii settings e (line_in a.language e.text) world a
checked_is_shut true ascii settings e world a = refl
checked_is_shut false false settings e world a = refl
checked_is_shut false true settings e world a =
    ap (λ p. ended e.terminal world (perform (act settings e.terminal a.name) p world.shared)) (run_is_shut e.terminal a (session_or_new (get world.sessions e.terminal)) (line_in a.language e.text))

-- the language of an account's lines, and 0 if there is no account
abbrev pub language_of : Option Account → ℕ
language_of None = 0
language_of (Some a) = a.language

at_account_is_shut : (settings : Settings) (e : Event) (world : World) (o : Option Account)
    → at_account settings e world o ≡ shut_at_account settings e (line_in (language_of o) e.text) world o
at_account_is_shut settings e world None = refl
at_account_is_shut settings e world (Some a) = checked_is_shut (is_too_long e.text) (is_ascii e.text) settings e world a

pub step_is_shut : (settings : Settings) (e : Event) (world : World)
    → normal settings e world ≡ shut_step settings e (line_in (language_of (get settings.terminals e.terminal)) e.text) world
step_is_shut settings e world = at_account_is_shut settings e world (get settings.terminals e.terminal)

-- ---- proofs of examples: lines with their trees, one after another

-- terminal 1 is the account's
language_is : (a : Account) → language_of (get (settings_of a).terminals 1) ≡ a.language
language_is a = ap language_of (get-insert nat_cmp_total empty 1 a 1)

pub line_is : (a : Account) (world : World) (t : Text) (l : Option LineTree) → line_in a.language t ≡ l
    → normal (settings_of a) (event t) world ≡ shut_step (settings_of a) (event t) l world
line_is a world t l e =
    step_is_shut (settings_of a) (event t) world ∙ ap (λ l. shut_step (settings_of a) (event t) l world) (ap (λ n. line_in n t) (language_is a) ∙ e)

pub at_last : {a : Account} {world : World} {t : Text} {r : Reply} (l : Option LineTree)
    → line_in a.language t ≡ l → (shut_step (settings_of a) (event t) l world).0 ≡ r → AreAnswered a world (t ∷ []) (r ∷ [])
at_last {a = a} {world = world} {t = t} l e run = record {
  answers = ap (λ (x : Reply × World). x.0 ∷ []) (line_is a world t l e) ∙ ap (λ (r : Reply). r ∷ []) run;
}

-- one more line by itself
pub at_case : {a : Account} {world : World} {t : Text} {r : Reply} {cases : Cases} (l : Option LineTree)
    → line_in a.language t ≡ l → (shut_step (settings_of a) (event t) l world).0 ≡ r → AreAnsweredEach a world cases → AreAnsweredEach a world ((t, r) ∷ cases)
at_case {a = a} {world = world} {t = t} l e run rest = record {
  answers = let first = ap (λ (x : Reply × World). x.0) (line_is a world t l e) ∙ run in λ i. first i ∷ rest.answers i;
}

pub no_more : {a : Account} {world : World} → AreAnsweredEach a world []
no_more = record { answers = refl }

-- a line, and then those after it in the world that it leaves
pub at_first : {a : Account} {world : World} {t : Text} {r : Reply} {ts : List Text} {rs : List Reply} (after : World) (l : Option LineTree)
    → line_in a.language t ≡ l → shut_step (settings_of a) (event t) l world ≡ (r, after) → AreAnswered a after ts rs → AreAnswered a world (t ∷ ts) (r ∷ rs)
at_first {a = a} {world = world} {t = t} {r = r} {ts = ts} after l e first rest = record {
  answers =
      ap (λ (x : Reply × World). x.0 ∷ replies (settings_of a) x.1 (map event ts)) (line_is a world t l e ∙ first)
      ∙ ap (λ (rs : List Reply). r ∷ rs) rest.answers;
}

-- ---- turns and texts

abbrev pub turned : Text → ℕ → Position → Turning → Act Completion
turned a zero p t = fail Zsteps
turned a (suc n) p t = commands (at a n p) t.body >>= after_turn (at a n p) t

-- only if the state is known
abbrev pub Opens : {A : Type 0} → Act A → Act A → Type 0
Opens f g =
    (locals : Locals) (naked : Option Node) (test : Bool) (cursor : Cursor) (out : Text) (steps : ℕ) (given : Given)
    → f (record { locals = locals; naked = naked; test = test; cursor = cursor; out = out; steps = steps; given = given })
    ≡ g (record { locals = locals; naked = naked; test = test; cursor = cursor; out = out; steps = steps; given = given })

pub opened : (a : Text) (n : ℕ) (p : Position) (t : Turning) → Opens ((shut a n).turn p t) (turned a n p t)
unfolding shut
opened a zero p t locals naked test cursor out steps given = refl
opened a (suc n) p t locals naked test cursor out steps given = refl

abbrev pub entered : Text → ℕ → Position → List CommandTree → Act Completion
entered a zero p cs = fail Zsteps
entered a (suc n) p cs = commands (at a n p) cs >>= after_level (at a n p)

pub text_opened : (a : Text) (n : ℕ) (p : Position) (cs : List CommandTree) → Opens ((shut a n).enter p cs) (entered a n p cs)
unfolding shut
text_opened a zero p cs locals naked test cursor out steps given = refl
text_opened a (suc n) p cs locals naked test cursor out steps given = refl

abbrev pub listed : Text → ℕ → Position → List ArgTree → Act Completion
listed a zero p args = fail Zsteps
listed a (suc n) p args = arguments (at a n p) args

pub list_opened : (a : Text) (n : ℕ) (p : Position) (args : List ArgTree) → Opens ((shut a n).list p args) (listed a n p args)
unfolding shut
list_opened a zero p args locals naked test cursor out steps given = refl
list_opened a (suc n) p args locals naked test cursor out steps given = refl

-- what a text names is found if the state is known, too
abbrev pub found : Text → ℕ → Depth → ReferenceTree → Act Evaluated
found a zero d r = fail Zsteps
found a (suc n) d r = evaluated (inside a n d) r

pub name_found : (a : Text) (n : ℕ) (d : Depth) (r : ReferenceTree) → Opens (finds a n d r) (found a n d r)
unfolding finds
name_found a zero d r locals naked test cursor out steps given = refl
name_found a (suc n) d r locals naked test cursor out steps given = refl

pub ruleset turns = (opened)
