-- SPDX-License-Identifier: Apache-2.0
-- The steps of an argument of a command, of a command's condition, and of a parameter of FOR, without the test whether each call stands where
-- steps are.
use Rattle.std.specs.Prelude.{List, [], ◌∷◌, Some, is_some}
use Rattle.mgrammar.specs.Grammar.{ExprTree, ArgTree, assign, formats, coded, shown, kill_one, tested, do_one, go_to, executed, locked, hang_for, returned}
use Rattle.mgrammar.specs.Grammar.{merge_one, indirect_args, loop, ParameterTree, CommandTree}
use Rattle.mspec.specs.Act.{Text}
use Rattle.mmeaning.specs.Locking.{names_of}
use Rattle.mmeaning.specs.Programs as programs
use Rattle.mmeaning.specs.Programs.{Op, Ending, Formats, Begin, Names, Assign, Show, Tab, Character, Test, Hold, Wait, Return, Run, Enter, Go, Kill}
use Rattle.mmeaning.specs.Programs.{Merge, Lock, Indirect, Nothing, Loop, is_list, of_value, of_primary, of_reference, of_destination, of_names}
use Rattle.mmeaning.specs.Programs.{of_timeout, of_list}

-- what has steps; a parameter of FOR with the index before it, and the parameters and the rest of the line after it
pub data WholeTree : Type 0 where
  of_argument : ArgTree → WholeTree
  of_condition : ExprTree → WholeTree
  of_parameter : Text → ParameterTree → List ParameterTree → List CommandTree → WholeTree

-- there are none of NEW, FOR, KILL of others, and of formats without a column; the parameters of FOR have steps of their own
abbrev pub steps_of_argument : ArgTree → List Op
steps_of_argument (assign d e) = of_destination d (of_value e [])
steps_of_argument (formats run (Some e)) = Formats run ∷ of_value e []
steps_of_argument (coded e) = of_value e []
steps_of_argument (shown e) = of_value e []
steps_of_argument (kill_one r) = of_reference r []
steps_of_argument (tested e) = of_value e []
steps_of_argument (do_one e xs c) = programs.of_condition c (Begin ∷ of_list xs [])
steps_of_argument (go_to e c) = programs.of_condition c []
steps_of_argument (executed e c) = programs.of_condition c (of_value e [])
steps_of_argument (locked k names t) = Names ∷ of_names (names_of names) (of_timeout t [])
steps_of_argument (hang_for e) = of_value e []
steps_of_argument (returned e) = of_value e []
steps_of_argument (merge_one target source) = of_reference target (of_reference source [])
steps_of_argument (indirect_args f p) = of_primary p []
steps_of_argument a = []

-- what the argument does in the end; `Hold` where there are no steps
abbrev pub ending_of_argument : ArgTree → Ending
ending_of_argument (assign d e) = Assign
ending_of_argument (formats run (Some e)) = Tab
ending_of_argument (coded e) = Character
ending_of_argument (shown e) = Show
ending_of_argument (kill_one r) = Kill
ending_of_argument (tested e) = Test
ending_of_argument (do_one e xs c) = Enter e (is_list xs)
ending_of_argument (go_to e c) = Go e
ending_of_argument (executed e c) = Run
ending_of_argument (locked k names t) = Lock k (is_some t)
ending_of_argument (hang_for e) = Wait
ending_of_argument (returned e) = Return
ending_of_argument (merge_one target source) = Merge
ending_of_argument (indirect_args f p) = Indirect f
ending_of_argument (loop index parameters) = Nothing
ending_of_argument a = Hold

abbrev pub steps_of : WholeTree → List Op
steps_of (of_argument a) = steps_of_argument a
steps_of (of_condition e) = of_value e []
steps_of (of_parameter index q rest body) = programs.of_parameter q []

abbrev pub ending_of : WholeTree → Ending
ending_of (of_argument a) = ending_of_argument a
ending_of (of_condition e) = Hold
ending_of (of_parameter index q rest body) = Loop index rest body
