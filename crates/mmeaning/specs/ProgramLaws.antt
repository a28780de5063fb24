-- SPDX-License-Identifier: Apache-2.0
-- The laws of programs, as statements. The functions of src/ named after them carry them.
use Rattle.std.specs.Prelude.{◌≡◌, ℕ, true, List, [], ◌∷◌, Some}
use Rattle.mspec.specs.Act.{Text, Act, ◌>>=◌}
use Rattle.mgrammar.specs.Grammar.{ExprTree, ReferenceTree, ParameterTree, ArgTree, CommandTree}
use Rattle.mgrammar.specs.CallsIn.{has_call_arg}
use Rattle.mgrammar.specs.ProgramsIn.{in_steps, in_steps_reference, in_steps_arg}
use Rattle.mmeaning.specs.Expression.{Depth, value, evaluated}
use Rattle.mmeaning.specs.LineMeaning.{Completion, Returns, Position, Context, at_depth, context, inside_of, where_holds, argument, arguments, conditional}
use Rattle.mmeaning.specs.LineMeaning.{next_parameter}
use Rattle.mmeaning.specs.Programs.{Item, one_value, found, Op, Ending, Program, carried, of_value, of_reference, program_of, program_of_condition}
use Rattle.mmeaning.specs.Programs.{program_of_parameter}
use Rattle.mmeaning.specs.Programs.{once_true, begun}
use Rattle.mmeaning.specs.Frames.{Lists, Programs, Conditions, frame, resumed}

-- an expression is evaluated by its steps, whatever comes after them, and whatever else is on the stack
abbrev pub StepsEvaluate : Type 0
StepsEvaluate =
    (x : Context) (d : Depth) (e : ExprTree) (ops : List Op) (k : Ending) (st : List Item) → in_steps e ≡ true →
    ◌≡◌ {A = Act Completion} (carried x d (of_value e ops) k st) (value (inside_of (at_depth x d)) e >>= (λ v. carried x d ops k (one_value v ∷ st)))

-- and so a reference, of which nothing is checked before all of it is evaluated
abbrev pub StepsFind : Type 0
StepsFind =
    (x : Context) (d : Depth) (r : ReferenceTree) (ops : List Op) (k : Ending) (st : List Item) → in_steps_reference r ≡ true →
    ◌≡◌ {A = Act Completion} (carried x d (of_reference r ops) k st) (evaluated (inside_of (at_depth x d)) r >>= (λ v. carried x d ops k (found v ∷ st)))

-- there is a program for an argument with a call, if each call in it stands where steps are
abbrev pub ProgramsAreThere : Type 0
ProgramsAreThere = (a : ArgTree) → has_call_arg a ≡ true → in_steps_arg a ≡ true → (p : Program) × (program_of a ≡ Some p)

-- an argument does what its program does
abbrev pub ProgramsCarryArguments : Type 0
ProgramsCarryArguments =
    (x : Context) (a : ArgTree) (p : Program) → program_of a ≡ Some p →
    ◌≡◌ {A = Act Completion} (argument x a) (carried x x.position.depth p.steps p.ending [])

-- so does a condition of a command, before whatever the command does
abbrev pub ProgramsCarryConditions : Type 0
ProgramsCarryConditions =
    (x : Context) (e : ExprTree) (p : Program) (q : Act Completion) → program_of_condition e ≡ Some p →
    ◌≡◌ {A = Act Completion} (where_holds x (Some e) q) (carried x x.position.depth p.steps p.ending [] >>= once_true q)

-- and a parameter of FOR, with the turns that it has, and the parameters after it
abbrev pub ProgramsCarryParameters : Type 0
ProgramsCarryParameters =
    (x : Context) (index : Text) (q : ParameterTree) (rest : List ParameterTree) (body : List CommandTree) (p : Program) →
    program_of_parameter index q rest body ≡ Some p →
    ◌≡◌ {A = Act Completion} (next_parameter x index body (q ∷ rest)) (carried x x.position.depth p.steps p.ending [])

-- ---- frames

-- A program does what it does up to the first level that it opens, and then what that level leads to: after a function, what is left of the
-- program takes the value.
abbrev pub ProgramsPause : Type 0
ProgramsPause =
    (a : Text) (n : ℕ) (p : Position) (d : Depth) (ops : List Op) (k : Ending) (st : List Item) →
    ◌≡◌ {A = Act Completion} (carried (context a n p) d ops k st) (begun (context a n p) d ops k st >>= resumed a n p k)

-- what is left of a program goes on with the value that a function's level is left with
abbrev pub ProgramsTakeValues : Type 0
ProgramsTakeValues =
    (a : Text) (n : ℕ) (p : Position) (d : Depth) (ops : List Op) (k : Ending) (st : List Item) (v : Text) →
    ◌≡◌ {A = Act Completion} (frame a n (Programs p d ops k st) (Returns v)) (carried (context a n p) d ops k (one_value v ∷ st))

-- a command with a condition is the condition's program on top of the command
abbrev pub ConditionsGoOn : Type 0
ConditionsGoOn =
    (a : Text) (n : ℕ) (p : Position) (c : CommandTree) (rest : List CommandTree) (e : ExprTree) (q : Program) →
    c.condition ≡ Some e → program_of_condition e ≡ Some q →
    ◌≡◌ {A = Act Completion} (conditional (context a n p) c rest) (carried (context a n p) p.depth q.steps q.ending [] >>= frame a n (Conditions p c rest))

-- A line stops at an argument with a program as at a DO: what the argument leads to is done on top of the arguments after it.
abbrev pub ArgumentsPause : Type 0
ArgumentsPause =
    (a : Text) (n : ℕ) (p : Position) (arg : ArgTree) (rest : List ArgTree) (q : Program) → program_of arg ≡ Some q →
    ◌≡◌ {A = Act Completion} (arguments (context a n p) (arg ∷ rest))
    (begun (context a n p) p.depth q.steps q.ending [] >>= (λ r. resumed a n p q.ending r >>= frame a n (Lists p rest)))

-- and so at a condition
abbrev pub ConditionsPause : Type 0
ConditionsPause =
    (a : Text) (n : ℕ) (p : Position) (c : CommandTree) (rest : List CommandTree) (e : ExprTree) (q : Program) →
    c.condition ≡ Some e → program_of_condition e ≡ Some q →
    ◌≡◌ {A = Act Completion} (conditional (context a n p) c rest)
    (begun (context a n p) p.depth q.steps q.ending [] >>= (λ r. resumed a n p q.ending r >>= frame a n (Conditions p c rest)))

-- and at a parameter of FOR, of which nothing is left on the frames while it is evaluated but its program
abbrev pub ParametersPause : Type 0
ParametersPause =
    (a : Text) (n : ℕ) (p : Position) (index : Text) (q : ParameterTree) (rest : List ParameterTree) (body : List CommandTree) (r : Program) →
    program_of_parameter index q rest body ≡ Some r →
    ◌≡◌ {A = Act Completion} (next_parameter (context a n p) index body (q ∷ rest))
    (begun (context a n p) p.depth r.steps r.ending [] >>= resumed a n p r.ending)
