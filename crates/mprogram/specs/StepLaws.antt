-- SPDX-License-Identifier: Apache-2.0
-- The laws of steps, as statements. The functions of src/ named after them carry them.
use Rattle.std.specs.Prelude.{◌≡◌, true, List, Some}
use Rattle.mspec.specs.Act.{Text}
use Rattle.mgrammar.specs.Grammar.{ExprTree, ParameterTree, CommandTree, ArgTree}
use Rattle.mgrammar.specs.CallsIn.{has_call_arg}
use Rattle.mgrammar.specs.ProgramsIn.{in_steps, in_steps_parameter, in_steps_arg}
use Rattle.mmeaning.specs.Programs.{Program, program_of, program_of_condition, program_of_parameter}
use Rattle.mprogram.specs.Wholes.{WholeTree, of_argument, of_condition, of_parameter, steps_of, ending_of}

-- the program that has these steps and this ending
abbrev pub whole_program : WholeTree → Program
whole_program w = record { steps = steps_of w; ending = ending_of w }

-- the program of an argument, if it has one, is this
abbrev pub ProgramsHaveSteps : Type 0
ProgramsHaveSteps =
    (a : ArgTree) (p : Program) → program_of a ≡ Some p → (p.steps ≡ steps_of (of_argument a)) × (p.ending ≡ ending_of (of_argument a))

-- and so that of a condition
abbrev pub ConditionsHaveSteps : Type 0
ConditionsHaveSteps =
    (e : ExprTree) (p : Program) → program_of_condition e ≡ Some p → (p.steps ≡ steps_of (of_condition e)) × (p.ending ≡ ending_of (of_condition e))

-- an argument with a call has this program, if each call in it stands where steps are
abbrev pub CallsHavePrograms : Type 0
CallsHavePrograms = (a : ArgTree) → has_call_arg a ≡ true → in_steps_arg a ≡ true → program_of a ≡ Some (whole_program (of_argument a))

-- and so a condition
abbrev pub ConditionsHavePrograms : Type 0
ConditionsHavePrograms = (e : ExprTree) → in_steps e ≡ true → program_of_condition e ≡ Some (whole_program (of_condition e))

-- and so a parameter of FOR
abbrev pub ParametersHavePrograms : Type 0
ParametersHavePrograms =
    (index : Text) (q : ParameterTree) (rest : List ParameterTree) (body : List CommandTree) → in_steps_parameter q ≡ true →
    program_of_parameter index q rest body ≡ Some (whole_program (of_parameter index q rest body))
