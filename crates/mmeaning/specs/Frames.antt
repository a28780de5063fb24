-- SPDX-License-Identifier: Apache-2.0
-- What a line still has to do, frame by frame: a frame is an act from the completion of what was done before it to its own.
use Rattle.std.specs.Prelude.{ℕ, suc, ◌≤◌, ◌<◌, List, [], ◌∷◌, Result, Ok, Err}
use Rattle.mspec.specs.Code.{Fault}
use Rattle.mspec.specs.Act.{Text, Act, ◌>>=◌, give}
use Rattle.mgrammar.specs.Grammar.{ArgTree, CommandTree}
use Rattle.mmeaning.specs.LineMeaning.{Completion, Position, Turning, Closing, leaves, answers, after, arguments, effect, commands, after_turn, after_level}
use Rattle.mmeaning.specs.LineMeaning.{closed, entering, returned_value, text_executed, given_by, at_depth, context}
use Rattle.mmeaning.specs.Expression.{Depth}
use Rattle.mmeaning.specs.Parameters.{bare_list}
use Rattle.mmeaning.specs.Programs.{Op, Item, one_value, Ending, listed, carried, once_true, Pause, over, calls, enters, executes, lists, turns}
use Rattle.mmeaning.specs.Programs.{turned}
use Rattle.mmeaning.specs.Calls.{Standing, Here, FailedBy, Follows}

-- the rest of a line, the rest of a command's arguments, a turn of a FOR, and a level with how it closes; what is left of a program after
-- a function, and how deep that was; and a command after its condition, before the rest of its line
pub data View : Type 0 where
  Rests : Position → List CommandTree → View
  Lists : Position → List ArgTree → View
  Turns : Position → Turning → View
  Levels : Position → Closing → View
  Programs : Position → Depth → List Op → Ending → List Item → View
  Conditions : Position → CommandTree → List CommandTree → View

abbrev pub frame : Text → ℕ → View → Completion → Act Completion
frame a n (Rests p cs) s = after s (commands (context a n p) cs)
frame a n (Lists p args) s = after s (arguments (context a n p) args)
frame a n (Turns p t) s = after_turn (context a n p) t s
frame a n (Levels p c) s = after_level (context a n p) s >>= closed c
frame a n (Programs p d ops k st) s = returned_value s >>= (λ v. carried (context a n p) d ops k (one_value v ∷ st))
frame a n (Conditions p c rest) s = once_true (effect (context a n p) c.keyword c.args rest) s

-- what a program does where it comes to a level, which then opens on top of what is left of the program
abbrev pub resumed : Text → ℕ → Position → Ending → Pause → Act Completion
resumed a n p k (over s) = give s
resumed a n p k (calls d e b bs ops st) = entering (at_depth (context a n p) d) e bare_list bs (answers b) >>= frame a n (Programs p d ops k st)
resumed a n p k (enters e is_listed bs) = entering (context a n p) e (listed is_listed) bs leaves
resumed a n p k (executes text) = text_executed (context a n p) text
resumed a n p k (lists f text) = given_by (context a n p) f text
resumed a n p k (turns c) = turned (context a n p) k c

-- from the top, each with the number of texts that it may enter
abbrev pub left : Text → List View → List ℕ → Completion → Act Completion
left a [] ns s = give s
left a (f ∷ fs) [] s = give s
left a (f ∷ fs) (n ∷ ns) s = frame a n f s >>= left a fs ns

-- A frame may enter at least as many texts as there are steps. What stands within a command, whose own step is spent, may enter one more: a
-- program may end with a text that no further step comes before. So may the turns of a FOR, which have parameters to evaluate. What is left of
-- a program may enter two more, since it spent a step before its first call: it may end with arguments that a text gives.
abbrev pub Fits : View → (steps n : ℕ) → Type 0
Fits (Lists p args) steps n = steps < n
Fits (Turns p t) steps n = steps < n
Fits (Programs p d ops k st) steps n = suc steps < n
Fits (Conditions p c rest) steps n = steps < n
Fits f steps n = steps ≤ n

-- each of them
abbrev pub Enough : ℕ → List View → List ℕ → Type 0
Enough steps [] [] = Unit {0}
Enough steps (f ∷ fs) (n ∷ ns) = Fits f steps n × Enough steps fs ns
Enough steps fs ns = ⊥

abbrev pub MovedAs : {X E : Type 0} → Standing → (steady : Type 0) → (E → Fault) → (X → Completion) → Act Completion → Here → Result X E → List View → Here
    → Type 0
MovedAs b steady fault_of completion_of p h (Ok s) fs h' = (ns : List ℕ) × Enough h'.0.steps fs ns × Follows b p h (left b.account fs ns (completion_of s)) h'
MovedAs b steady fault_of completion_of p h (Err e) fs h' = FailedBy b steady p h (fault_of e) h'

-- an act, and what is done with what it gives, lead to what the frames have to do, or fail
pub record MovedOn {A X E : Type 0} (b : Standing) (steady : Type 0) (fault_of : E → Fault) (completion_of : X → Completion) (p : Act A) (k : A → Act Completion) (h : Here) (r : Result X E) (fs : List View) (h' : Here) : Type 0 where
  pub done : MovedAs b steady fault_of completion_of (p >>= k) h r fs h'
