-- SPDX-License-Identifier: Apache-2.0
-- A command in whose condition functions are called: by its program.
use Rattle.mexec.proofs.ExecWords.{◌≡◌, ℕ, true, false, List, [], Option, None, Some, is_some, slice_get, refl, ap, ◌∙◌, Text, Act, ◌>>=◌, ExprTree}
use Rattle.mexec.proofs.ExecWords.{CommandTree, Position, context, conditional, frame, command_tree, arg_tree, Arg}
use Rattle.std.specs.Prelude.{option_map}
use Rattle.mgrammar.specs.CallsIn.{has_call_optional}
use Rattle.mgrammar.specs.ProgramsIn.{in_steps_optional}
use Rattle.mtree.specs.declared.tree.Spaced.{Spaced}
use Rattle.mmeaning.specs.LineMeaning as meaning
use Rattle.mmeaning.specs.Frames.{Conditions, resumed}
use Rattle.mmeaning.specs.Programs.{begun, carried}
use Rattle.mmeaning.proofs.ProgramFrames.{conditions_go_on, programs_pause}
use Rattle.mprogram.specs.StepLaws.{whole_program}
use Rattle.mprogram.specs.Wholes.{WholeTree, of_argument, of_condition, steps_of, ending_of}
use Rattle.mprogram.proofs.StepsThere.{conditions_have_programs}
use Rattle.mexec.specs.Frames.{command_in}
use Rattle.mexec.specs.Wholes.{argument_of, condition_of, steps_within, ending_within}

some_condition : (k : Option ExprTree) → has_call_optional k ≡ true → is_some (option_map of_condition k) ≡ true
some_condition None has = absurd (let clash : false ≡ true = has in cc)
some_condition (Some e) has = refl

-- there is a condition with a program
pub condition_there : (o : Option Spaced) → has_call_optional (command_in o).condition ≡ true → is_some (condition_of o) ≡ true
condition_there None has = absurd (let clash : false ≡ true = has in cc)
condition_there (Some s) has = some_condition (command_tree s.command).condition has

-- and it is this
pub condition_whole : (o : Option Spaced) → has_call_optional (command_in o).condition ≡ true → (w : WholeTree) × (condition_of o ≡ Some w)
condition_whole None has = absurd (let clash : false ≡ true = has in cc)
condition_whole (Some s) has = of_some (command_tree s.command).condition has
  where
    of_some : (k : Option ExprTree) → has_call_optional k ≡ true → (w : WholeTree) × (option_map of_condition k ≡ Some w)
    of_some None has = absurd (let clash : false ≡ true = has in cc)
    of_some (Some e) has = (of_condition e, refl)

module _ (a : Text) (n : ℕ) (p : Position) (rest : List CommandTree) where
  by_condition : (c : CommandTree) (k : Option ExprTree) → c.condition ≡ k → has_call_optional k ≡ true → in_steps_optional k ≡ true
      → ◌≡◌ {A = Act meaning.Completion} (conditional (context a n p) c rest) (carried (context a n p) p.depth (steps_within (option_map of_condition k))
      (ending_within (option_map of_condition k)) [] >>= frame a n (Conditions p c rest))
  by_condition c None same has is = absurd (let clash : false ≡ true = has in cc)
  by_condition c (Some e) same has is = conditions_go_on a n p c rest e (whole_program (of_condition e)) same (conditions_have_programs e is)

  -- the command before a place is the program of its condition, on top of the command
  pub condition_runs : (o : Option Spaced) → has_call_optional (command_in o).condition ≡ true → in_steps_optional (command_in o).condition ≡ true
      → ◌≡◌ {A = Act meaning.Completion} (conditional (context a n p) (command_in o) rest)
      (carried (context a n p) p.depth (steps_within (condition_of o)) (ending_within (condition_of o)) [] >>= frame a n (Conditions p (command_in o) rest))
  condition_runs None has is = absurd (let clash : false ≡ true = has in cc)
  condition_runs (Some s) has is = by_condition (command_tree s.command) (command_tree s.command).condition refl has is

  -- that program up to where it pauses, and then what the pause leads to
  pub condition_pauses : (o : Option Spaced) (w : WholeTree) → condition_of o ≡ Some w → has_call_optional (command_in o).condition ≡ true
      → in_steps_optional (command_in o).condition ≡ true
      → ◌≡◌ {A = Act meaning.Completion} (conditional (context a n p) (command_in o) rest)
      (begun (context a n p) p.depth (steps_of w) (ending_of w) [] >>= resumed a n p (ending_of w) >>= frame a n (Conditions p (command_in o) rest))
  condition_pauses o w there has is =
      condition_runs o has is
      ∙ ap
      (λ (k : Option WholeTree). carried (context a n p) p.depth (steps_within k) (ending_within k) [] >>= frame a n (Conditions p (command_in o) rest)) there
      ∙ (λ i. programs_pause a n p p.depth (steps_of w) (ending_of w) [] i >>= frame a n (Conditions p (command_in o) rest))

-- there is an argument with a program
pub argument_there : (args : List Arg) (at : ℕ) (one : Arg) → slice_get args at ≡ Some one → is_some (argument_of args at) ≡ true
argument_there args at one there = rw there refl

pub argument_whole : (args : List Arg) (at : ℕ) (one : Arg) → slice_get args at ≡ Some one → argument_of args at ≡ Some (of_argument (arg_tree one))
argument_whole args at one there = rw there refl
