-- SPDX-License-Identifier: Apache-2.0
-- Programs as the code carries them out: what they come to, and what a command does in the end.
use Rattle.std.specs.Prelude.{ℕ, ◌+◌, ◌^◌, ◌<◌, List, [], Result, Ok, Err, OkIff, true, false, None, Some, cond, map, option_map, drop}
use Rattle.mspec.specs.Act.{Text, Act, ◌>>=◌, ◌>>◌, give, write}
use Rattle.mmeaning.specs.Operators.{as_number, as_truth}
use Rattle.mmeaning.specs.LineMeaning.{Go_on, Returns, Context, all_assigned, spaced_to, character_written, truth_tested, where_true, going}
use Rattle.mmeaning.specs.Programs.{Item, Ending, Assign, Show, Tab, Character, Test, Hold, Wait, Return, Enter, Go, Kill, Merge, Lock, Indirect}
use Rattle.mmeaning.specs.Programs.{Nothing, Loop, Pause, over, calls, enters, executes, lists, turns, begun, lock_done, looped}
use Rattle.mmeaning.specs.Merging.{merge_found}
use Rattle.meval.specs.Acts.{kill_act}
use Rattle.mmeaning.specs.LineMeaning.{inside_of}
use Rattle.mgrammar.specs.Grammar.{EntryTree, ParameterTree, CommandTree}
use Rattle.mgrammar.specs.Commands.{form_of}
use Rattle.mgrammar.specs.CallsIn.{has_call_parameter}
use Rattle.mtree.specs.Tree.{entry_tree, keyword_tree}
use Rattle.mcommand.specs.ForParameters.{course_view, started}
use Rattle.mmeaning.specs.Expression.{Depth}
use Rattle.mlocal.specs.Bindings.{binding_of}
use Rattle.meval.specs.Evaluates.{depth_of}
use Rattle.moperator.specs.declared.code.Code.{Code}
use Rattle.mprogram.specs.Wholes.{WholeTree, of_parameter, steps_of, ending_of}
use Rattle.mcommand.specs.Steps.{items_view, value_on_top, found_on_top, targets_on_top, handing_on_top, names_on_top, item_on_top}
use Rattle.mexec.specs.Frames.{completion_of}
use Rattle.mexec.specs.declared.completion.Completion.{Completion}
use Rattle.mexec.specs.declared.programs.Call as the_call
use Rattle.mexec.specs.declared.programs.Pause as the_pause
use Rattle.mexec.specs.declared.programs.Pause.TheVariants as pause

-- the call of a function by a program of the code
abbrev pub call_of : WholeTree → the_call.Call → Pause
call_of w c = calls (depth_of c.depth) (entry_tree c.entry.now) c.test (map binding_of c.bindings.items) (drop c.at (steps_of w)) (items_view c.items.items)

-- how far a program of the code comes by itself
abbrev pub pause_of : WholeTree → the_pause.Pause → Pause
pause_of w (pause.Over s) = over (completion_of s)
pause_of w (pause.Calls c) = call_of w c
pause_of w (pause.Enters e is_listed bs) = enters (entry_tree e.now) is_listed (map binding_of bs.items)
pause_of w (pause.Executes v) = executes v
pause_of w (pause.Lists k v) = lists (form_of (keyword_tree k)) v
pause_of w (pause.Turns c) = turns (option_map course_view c)

-- a completion as such
abbrev pub pauses : Result Completion Code → Result the_pause.Pause Code
pauses (Ok s) = Ok (pause.Over s)
pauses (Err c) = Err c

-- the call of a function that is so deep, with what its actuals handed over on top; the steps from one on are left
abbrev pub calls_with : WholeTree → Depth → EntryTree → ℕ → List Item → Act Pause
calls_with w d e at st = do
  taken ← handing_on_top st
  give (calls d e taken.0.0 taken.0.1 (drop at (steps_of w)) taken.1)

-- the number of a step, and a code if the machine's numbers do not go so far
abbrev pub IsNumber : Result ℕ Code → ℕ → Type 0
IsNumber r at = OkIff r (at < 2 ^ 64) at

-- where a program goes on after the condition of a choice, which is on top: here, or this many steps further if it is false
abbrev pub chosen_from : ℕ → ℕ → List Item → Act (ℕ × List Item)
chosen_from at n st = do
  v ← value_on_top st
  b ← as_truth v.0
  give (cond b at (at + n), v.1)

-- ---- what a command does in the end

-- with the value on top
abbrev pub ends_with : Ending → Text → Act Pause
ends_with Show v = write v >> give (over Go_on)
ends_with Tab v = spaced_to v >> give (over Go_on)
ends_with Character v = character_written v >> give (over Go_on)
ends_with Test v = truth_tested v >>= (λ s. give (over s))
ends_with Hold v = as_truth v >>= (λ b. give (over (where_true b)))
ends_with Wait v = as_number v >> give (over Go_on)
ends_with Return v = give (over (Returns v))
ends_with (Indirect f) v = give (lists f v)
ends_with k v = give (executes v)

abbrev pub ends : Context → Ending → List Item → Act Pause
ends x Assign st = do
  v ← value_on_top st
  ps ← targets_on_top v.1
  all_assigned v.0 ps.0
  give (over Go_on)
ends x (Enter e is_listed) st = do
  taken ← handing_on_top st
  give (enters e is_listed taken.0.1)
ends x (Go e) st = going x e >>= (λ s. give (over s))
ends x Kill st = do
  r ← found_on_top st
  kill_act r.0
  give (over Go_on)
ends x Merge st = do
  source ← found_on_top st
  target ← found_on_top source.1
  merge_found target.0 source.0
  give (over Go_on)
ends x (Lock k true) st = do
  v ← value_on_top st
  ns ← names_on_top v.1
  lock_done k ns.0 (Some v.0)
  give (over Go_on)
ends x (Lock k false) st = do
  ns ← names_on_top st
  lock_done k ns.0 None
  give (over Go_on)
ends x Nothing st = give (over Go_on)
ends x (Loop index rest body) st = do
  i ← item_on_top st
  c ← looped index i.0
  give (turns c)
ends x k st = do
  v ← value_on_top st
  ends_with k v.0

-- ---- a parameter of FOR

-- how far it comes by itself: one with a call does its program
abbrev pub parameter_started : Context → Text → ParameterTree → List ParameterTree → List CommandTree → Act Pause
parameter_started x index q rest body =
    cond (has_call_parameter q) (begun x x.position.depth (steps_of (of_parameter index q rest body)) (ending_of (of_parameter index q rest body)) [])
    (started (inside_of x) index q >>= (λ c. give (turns c)))
