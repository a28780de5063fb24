-- SPDX-License-Identifier: Apache-2.0
-- Programs on examples, as proved equations: those of arguments, and where one pauses.
use Rattle.mmeaning.proofs.MeaningWords.{◌≡◌, ℕ, suc, true, List, [], ◌∷◌, Option, Some, None, refl, rules, map, codes, option_map, Done, Gives, Text, State}
use Rattle.mmeaning.proofs.MeaningWords.{PrimaryTree, reference, number, text, apply, join, multiply, minus, one, variable, at_label, no_exprs, exprs}
use Rattle.mmeaning.proofs.MeaningWords.{set_argument, write_argument, do_argument, xecute_argument, args_in, reads_in, Position, context}
use Rattle.mgrammar.specs.Grammar.{FormTree, ExprTree, extrinsic, no_actuals, once, onward, until, add, value_actual, name_actual, missing_actual}
use Rattle.mgrammar.specs.Grammar.{quit_argument}
use Rattle.mgrammar.specs.Grammar.{operand}
use Rattle.mspec.specs.Code.{M4}
use Rattle.mgrammar.proofs.ShortTrees.{plain, only, named, the_one}
use Rattle.mmeaning.specs.Programs.{one_value, Op, Operand, Tail, Spend, Sign, Join, Match_not, Values, Add, Function, Begin, Actual, Hand, Call, Where}
use Rattle.mmeaning.specs.Programs.{Prepare, Local, Global, Naked, Extended, Named, Deeper, Attach, Read, Data, Resolve, Get, Walk, Order, Unless, Pass}
use Rattle.mmeaning.specs.Programs.{Refuse, Ending, Assign}
use Rattle.mmeaning.specs.Programs.{Tell_name, Seek, Query, Show}
use Rattle.mmeaning.specs.Programs.{Run}
use Rattle.mmeaning.specs.Programs.{Return, Enter, Program, calls, begun, program_of}
use Rattle.mgrammar.specs.Grammar.{merge_argument}
use Rattle.mmeaning.proofs.MeaningWords.{kill_argument, lock_argument, anew}
use Rattle.mmeaning.specs.Programs.{Targets, Target, Part, Names, Name, Numbers, Number, Kill, Merge, Lock, Indirect, of_parameter}

-- those of the arguments that a text has, in a language that has calls everywhere
abbrev programs : FormTree → Text → Option (List (Option Program))
programs f t = option_map (map program_of) (args_in f 2 t)

-- one argument with a program
abbrev one_of : List Op → Ending → Option (List (Option Program))
one_of ops k = Some (Some (record { steps = ops; ending = k }) ∷ [])

-- one without
abbrev none : Option (List (Option Program))
none = Some (None ∷ [])

abbrev a : PrimaryTree
a = reference (named (codes "A"))

-- a call without actuals, once its step is spent
abbrev called : Text → List Op → List Op
called name ops = Spend ∷ Begin ∷ Call (at_label name) ∷ ops

-- the call as an expression
abbrev calling : Text → ExprTree
calling name = only (extrinsic (at_label name) no_actuals)

record Programs : Type 0 where
  -- the operand before a call, the call, and what comes after it
  joined : programs write_argument (codes "A_$$F()_A") ≡ one_of (Operand (plain a) ∷ called (codes "F") (Join join ∷ Tail (apply join (plain a)) ∷ [])) Show
  -- a bracket costs its step before what is in it, and signs come after that
  with_signs : programs write_argument (codes "-(A+$$F())*1")
      ≡ one_of (Spend ∷ Operand (plain a) ∷ called (codes "F") (Join add ∷ Sign (minus ∷ []) ∷ Tail (apply multiply (plain (number (codes "1")))) ∷ [])) Show
  of_values : programs quit_argument (codes "$L($$F(),A)")
      ≡ one_of (Spend ∷ Values ∷ called (codes "F") (Add ∷ Operand (plain a) ∷ Add ∷ Function (codes "L") ∷ [])) Return
  -- a call among actuals is done before those after it
  in_actuals : programs write_argument (codes "$$F(1,.B,$$G,)")
      ≡ one_of (Spend ∷ Begin ∷ Actual (value_actual the_one) ∷ Actual (name_actual (codes "B"))
      ∷ called (codes "G") (Hand ∷ Actual missing_actual ∷ Call (at_label (codes "F")) ∷ [])) Show
  -- a target comes first, and a condition
  assigned : programs set_argument (codes "A=$$F()") ≡ one_of (Prepare (one (variable (named (codes "A")))) ∷ called (codes "F") []) Assign
  entered : programs do_argument (codes "F($$G):A")
      ≡ one_of (Operand (plain a) ∷ Where ∷ Begin ∷ called (codes "G") (Hand ∷ [])) (Enter (at_label (codes "F")) true)
  executed : programs xecute_argument (codes "A:$$F") ≡ one_of (called (codes "F") (Where ∷ Operand (plain a) ∷ [])) Run
  -- a variable is read after the values of its subscripts
  subscripts : programs write_argument (codes "A(1,$$F)")
      ≡ one_of (Spend ∷ Values ∷ Operand (plain (number (codes "1"))) ∷ Add
      ∷ called (codes "F") (Add ∷ Local (codes "A") ∷ Read ∷ [])) Show
  of_global : programs set_argument (codes "A=^B($$F)")
      ≡ one_of (Prepare (one (variable (named (codes "A")))) ∷ Spend ∷ Values
      ∷ called (codes "F") (Add ∷ Global (codes "B") ∷ Read ∷ [])) Assign
  of_naked : programs quit_argument (codes "^($$F)") ≡ one_of (Spend ∷ Values ∷ called (codes "F") (Add ∷ Naked ∷ Read ∷ [])) Return
  of_account : programs quit_argument (codes "^|$$F|B")
      ≡ one_of (Spend ∷ called (codes "F") (Values ∷ Extended (codes "B") ∷ Read ∷ [])) Return
  -- the subscripts after an indirection are one step
  through_a_text : programs quit_argument (codes "@$$F@(1)")
      ≡ one_of (Spend ∷ called (codes "F") (Named (exprs the_one no_exprs) ∷ Read ∷ [])) Return
  -- the checks of a variable come before the values after it
  got : programs quit_argument (codes "$G(A,$$F)")
      ≡ one_of (Spend ∷ Values ∷ Local (codes "A") ∷ Resolve ∷ Values ∷ called (codes "F") (Add ∷ Get ∷ [])) Return
  asked : programs quit_argument (codes "$D(A($$F))")
      ≡ one_of (Spend ∷ Values ∷ called (codes "F") (Add ∷ Local (codes "A") ∷ Data ∷ [])) Return
  next : programs quit_argument (codes "$O(A($$F))")
      ≡ one_of (Spend ∷ Values ∷ called (codes "F") (Add ∷ Local (codes "A") ∷ Walk ∷ Values ∷ Order ∷ [])) Return
  followed : programs quit_argument (codes "$Q(A($$F),-1)")
      ≡ one_of (Spend ∷ Values ∷ called (codes "F") (Add ∷ Local (codes "A") ∷ Seek ∷ Values ∷ Operand (operand (minus ∷ []) (number (codes "1"))) ∷ Add
      ∷ Query ∷ [])) Return
  -- $NAME has no check between
  node_name : programs quit_argument (codes "$NA(A($$F))")
      ≡ one_of (Spend ∷ Values ∷ called (codes "F") (Add ∷ Local (codes "A") ∷ Values ∷ Tell_name ∷ [])) Return
  first_of_name : programs quit_argument (codes "$NA(^(1),$$F)")
      ≡ one_of (Spend ∷ Values ∷ Operand (plain (number (codes "1"))) ∷ Add ∷ Naked ∷ Values ∷ called (codes "F") (Add ∷ Tell_name ∷ [])) Return
  -- a value is passed by if its condition is false, and the choices after one whose condition is true
  chosen : programs quit_argument (codes "$S($$F:A,1:$$G)")
      ≡ one_of (Spend ∷ called (codes "F") (Unless 2 ∷ Operand (plain a) ∷ Pass 7
      ∷ Operand (plain (number (codes "1"))) ∷ Unless 4 ∷ called (codes "G") (Pass 1 ∷ Refuse M4 ∷ []))) Return
  matched : programs quit_argument (codes "A'?@$$F") ≡ one_of (Operand (plain a) ∷ called (codes "F") (Match_not ∷ [])) Return
  -- targets of which one has a call are brought together one at a time, before the value
  targeted : programs set_argument (codes "(A($$F),B)=1")
      ≡ one_of (Targets ∷ Values ∷ called (codes "F") (Add ∷ Local (codes "A") ∷ Target ∷ Values ∷ Local (codes "B") ∷ Target
      ∷ Operand (plain (number (codes "1"))) ∷ [])) Assign
  in_part : programs set_argument (codes "$P(A,$$F)=1")
      ≡ one_of (Targets ∷ Values ∷ Local (codes "A") ∷ Values ∷ called (codes "F") (Add ∷ Part (codes "P")
      ∷ Operand (plain (number (codes "1"))) ∷ [])) Assign
  removed : programs kill_argument (codes "A($$F)") ≡ one_of (Values ∷ called (codes "F") (Add ∷ Local (codes "A") ∷ [])) Kill
  copied : programs merge_argument (codes "A($$F)=B($$G)")
      ≡ one_of (Values ∷ called (codes "F") (Add ∷ Local (codes "A") ∷ Values ∷ called (codes "G") (Add ∷ Local (codes "B") ∷ []))) Merge
  held : programs lock_argument (codes "A:$$F") ≡ one_of (Names ∷ Values ∷ Local (codes "A") ∷ Name ∷ called (codes "F") []) (Lock anew true)
  of_a_text : programs write_argument (codes "@$$F") ≡ one_of (called (codes "F") []) (Indirect write_argument)
  -- a parameter of FOR becomes a number before the next of its values is evaluated, unless it is one value
  onward_by : of_parameter (onward (calling (codes "F")) the_one) []
      ≡ Numbers ∷ called (codes "F") (Number ∷ Operand (plain (number (codes "1"))) ∷ Number ∷ [])
  up_to : of_parameter (until the_one the_one (calling (codes "F"))) []
      ≡ Numbers ∷ Operand (plain (number (codes "1"))) ∷ Number ∷ Operand (plain (number (codes "1"))) ∷ Number ∷ called (codes "F") (Number ∷ [])
  only_once : of_parameter (once (calling (codes "F"))) [] ≡ called (codes "F") []
  -- the subscripts after an indirection with a call are one indirection deeper
  after_a_text : programs quit_argument (codes "@A@($$F)")
      ≡ one_of (Spend ∷ Spend ∷ Values ∷ Local (codes "A") ∷ Read ∷ Deeper ∷ Values ∷ called (codes "F") (Add ∷ Attach ∷ Read ∷ [])) Return

examples : Programs
unfolding reads_in
examples = search rules

-- a program pauses at its call, with what comes after it, and with what stands before it on the stack
pauses : (a : Text) (n : ℕ) (p : Position) (s : State) (k : Ending) (steps : ℕ) (ops : List Op)
    → begun (context a n p) p.depth (Operand (plain (text (codes "x"))) ∷ called (codes "F") (Join join ∷ ops)) k [] (record s { steps = suc (suc steps) })
    ≡ Done (Gives (calls p.depth (at_label (codes "F")) s.test [] (Join join ∷ ops) (one_value (codes "x") ∷ [])) (record s { steps = steps }))
pauses a n p s k steps ops = refl
