-- SPDX-License-Identifier: Apache-2.0
-- A line of the program as a plain tree of the grammar.
pub use Rattle.mtree.specs.Functions.{value_function_tree, variable_function_tree, function_tree}
use Rattle.std.specs.Prelude.{◌≡◌, List, Option, Box, Vec, map, option_map}
use Rattle.mgrammar.specs.Grammar as grammar
use Rattle.mgrammar.specs.Grammar.{SignTree, TruthTree, BinaryTree, KeywordTree, RepeatedTree, patterns_of, AtomTree, ExprTree, TailTree, tails_of, exprs_of}
use Rattle.mgrammar.specs.Grammar.{choices_of, OperandTree, PrimaryTree, ReferenceTree, ActualTree, ActualsTree, actuals_of, TargetTree, DestinationTree}
use Rattle.mgrammar.specs.Grammar.{ParameterTree, RoutineTree, EntryTree, LockKindTree, LockedTree, ArgTree, CommandTree, SpacedTree, LineTree}
use Rattle.mgrammar.specs.Specials as specials
use Rattle.mgrammar.specs.Specials.{SpecialTree}
use Rattle.mgrammar.specs.Commands.{form_of}
use Rattle.mgrammar.specs.Languages.{since_line}
use Rattle.mgrammar.specs.RoutineLine as routine
use Rattle.mgrammar.specs.RoutineLine.{BodyTree, RoutineLineTree}
use Rattle.mtree.specs.declared.tree.Sign.{Sign}
use Rattle.mtree.specs.declared.tree.Sign.TheVariants as sign
use Rattle.mtree.specs.declared.tree.Truth.{Truth}
use Rattle.mtree.specs.declared.tree.Truth.TheVariants as truth
use Rattle.mtree.specs.declared.tree.Binary.{Binary}
use Rattle.mtree.specs.declared.tree.Binary.TheVariants as binary
use Rattle.mtree.specs.declared.tree.Keyword.{Keyword}
use Rattle.mtree.specs.declared.tree.Keyword.TheVariants as keyword
use Rattle.mtree.specs.declared.intrinsic.SpecialVariable.{SpecialVariable}
use Rattle.mtree.specs.declared.intrinsic.SpecialVariable.TheVariants as special_variable
use Rattle.mtree.specs.declared.tree.Repeated.{Repeated, fold-Repeated}
use Rattle.mtree.specs.declared.tree.Repeated.TheOpen.{Repeated-F, Alternative-F, Atom-F}
use Rattle.mtree.specs.declared.tree.Alternative.{Alternative, fold-Alternative}
use Rattle.mtree.specs.declared.tree.Atom.{Atom, fold-Atom}
use Rattle.mtree.specs.declared.tree.Expr.{Expr, fold-Expr}
use Rattle.mtree.specs.declared.tree.Tail.{Tail, fold-Tail}
use Rattle.mtree.specs.declared.tree.Operand.{Operand, fold-Operand}
use Rattle.mtree.specs.declared.tree.Primary.{Primary, fold-Primary}
use Rattle.mtree.specs.declared.tree.Choice.{Choice, fold-Choice}
use Rattle.mtree.specs.declared.tree.Reference.{Reference, fold-Reference}
use Rattle.mtree.specs.declared.tree.Referring.{Referring, fold-Referring}
use Rattle.mtree.specs.declared.tree.Actual.{Actual, fold-Actual}
use Rattle.mtree.specs.declared.tree.Called.{Called, fold-Called}
use Rattle.mtree.specs.declared.tree.Actual.TheOpen.{Primary-F, Expr-F, Operand-F, Tail-F, Choice-F, Reference-F, Referring-F, Actual-F, Called-F}
use Rattle.mtree.specs.declared.tree.PartTarget.{PartTarget}
use Rattle.mtree.specs.declared.tree.Target.{Target}
use Rattle.mtree.specs.declared.tree.Target.TheVariants as target
use Rattle.mtree.specs.declared.tree.Destination.{Destination}
use Rattle.mtree.specs.declared.tree.Destination.TheVariants as destination
use Rattle.mtree.specs.declared.tree.Parameter.{Parameter}
use Rattle.mtree.specs.declared.tree.Parameter.TheVariants as parameter
use Rattle.mtree.specs.declared.tree.SharedRoutine.{SharedRoutine}
use Rattle.mtree.specs.declared.tree.RoutineRef.{RoutineRef}
use Rattle.mtree.specs.declared.tree.RoutineRef.TheVariants as routine_ref
use Rattle.mtree.specs.declared.tree.Entry.{Entry}
use Rattle.mtree.specs.declared.tree.Entry.TheVariants as entry
use Rattle.mtree.specs.declared.tree.LockKind.{LockKind}
use Rattle.mtree.specs.declared.tree.LockKind.TheVariants as lock_kind
use Rattle.mtree.specs.declared.tree.Locked.{Locked}
use Rattle.mtree.specs.declared.tree.Locked.TheVariants as locked_names
use Rattle.mtree.specs.declared.tree.Arg.{Arg}
use Rattle.mtree.specs.declared.tree.Arg.TheVariants as arg
use Rattle.mtree.specs.declared.tree.Command.{Command}
use Rattle.mtree.specs.declared.tree.Spaced.{Spaced}
use Rattle.mtree.specs.declared.tree.Line.{Line}
use Rattle.mtree.specs.declared.tree.Body.{Body}
use Rattle.mtree.specs.declared.tree.Body.TheVariants as body
use Rattle.mtree.specs.declared.tree.RoutineLine.{RoutineLine}

abbrev pub sign_tree : Sign → SignTree
sign_tree sign.Plus = grammar.plus
sign_tree sign.Minus = grammar.minus
sign_tree sign.Not = grammar.negate

abbrev pub truth_tree : Truth → TruthTree
truth_tree truth.Equals = grammar.equals
truth_tree truth.Less = grammar.less
truth_tree truth.Greater = grammar.greater
truth_tree truth.Contains = grammar.contains
truth_tree truth.Follows = grammar.follows
truth_tree truth.SortsAfter = grammar.sorts_after
truth_tree truth.Both = grammar.both
truth_tree truth.Either = grammar.either

abbrev pub binary_tree : Binary → BinaryTree
binary_tree binary.Add = grammar.add
binary_tree binary.Subtract = grammar.subtract
binary_tree binary.Multiply = grammar.multiply
binary_tree binary.Divide = grammar.divide
binary_tree binary.DivideWhole = grammar.divide_whole
binary_tree binary.Remainder = grammar.remainder
binary_tree binary.Join = grammar.join
binary_tree (binary.Is t) = grammar.is (truth_tree t)
binary_tree (binary.IsNot t) = grammar.is_not (truth_tree t)

abbrev pub keyword_tree : Keyword → KeywordTree
keyword_tree keyword.Set = grammar.set_word
keyword_tree keyword.Kill = grammar.kill_word
keyword_tree keyword.New = grammar.new_word
keyword_tree keyword.If = grammar.if_word
keyword_tree keyword.Else = grammar.else_word
keyword_tree keyword.For = grammar.for_word
keyword_tree keyword.Quit = grammar.quit_word
keyword_tree keyword.Write = grammar.write_word
keyword_tree keyword.Do = grammar.do_word
keyword_tree keyword.Goto = grammar.goto_word
keyword_tree keyword.Execute = grammar.execute_word
keyword_tree keyword.Lock = grammar.lock_word
keyword_tree keyword.Merge = grammar.merge_word
keyword_tree keyword.Halt = grammar.halt_word
keyword_tree keyword.Hang = grammar.hang_word
keyword_tree keyword.HaltOrHang = grammar.halt_or_hang_word

abbrev pub special_tree : SpecialVariable → SpecialTree
special_tree special_variable.Test = specials.test_special
special_tree special_variable.Io = specials.io_special
special_tree special_variable.Job = specials.job_special
special_tree special_variable.Principal = specials.principal_special
special_tree special_variable.Storage = specials.storage_special
special_tree special_variable.Column = specials.column_special
special_tree special_variable.Row = specials.row_special
special_tree special_variable.Quit = specials.quit_special

-- one level of a pattern
abbrev pub repeated_layer : Repeated-F RepeatedTree (List AtomTree) AtomTree → RepeatedTree
repeated_layer (Repeated-F.Classes letters) = grammar.classes letters
repeated_layer (Repeated-F.Copies t) = grammar.copies t
repeated_layer (Repeated-F.Group patterns) = grammar.group (patterns_of patterns.items)

abbrev pub alternative_layer : Alternative-F RepeatedTree (List AtomTree) AtomTree → List AtomTree
alternative_layer p = p.atoms.items

abbrev pub atom_layer : Atom-F RepeatedTree (List AtomTree) AtomTree → AtomTree
atom_layer a = record { count = a.count; repeated = a.repeated }

abbrev pub repeated_tree : Repeated → RepeatedTree
repeated_tree = fold-Repeated RepeatedTree (List AtomTree) AtomTree repeated_layer alternative_layer atom_layer

abbrev pub alternative_trees : Alternative → List AtomTree
alternative_trees = fold-Alternative RepeatedTree (List AtomTree) AtomTree repeated_layer alternative_layer atom_layer

abbrev pub atom_tree : Atom → AtomTree
atom_tree = fold-Atom RepeatedTree (List AtomTree) AtomTree repeated_layer alternative_layer atom_layer

abbrev pub shared_tree : SharedRoutine → RoutineTree
shared_tree r = grammar.shared_routine r.account r.name

abbrev pub routine_tree : RoutineRef → RoutineTree
routine_tree (routine_ref.Own name) = grammar.own_routine name
routine_tree (routine_ref.Shared r) = shared_tree r.value

abbrev pub entry_tree : Entry → EntryTree
entry_tree (entry.Label label) = grammar.at_label label
entry_tree (entry.LabelIn label r) = grammar.at_label_in label (routine_tree r)
entry_tree (entry.Routine r) = grammar.at_routine (routine_tree r)

-- an entry with its actuals
abbrev pub CalledTree : Type 0
CalledTree = EntryTree × ActualsTree

-- a condition, and its value
abbrev pub ChoiceTree : Type 0
ChoiceTree = ExprTree × ExprTree

-- one level of a tree, with what each part stands for in its place
abbrev pub expr_layer : Expr-F ActualTree PrimaryTree ReferenceTree TailTree CalledTree ChoiceTree ExprTree OperandTree PrimaryTree → ExprTree
expr_layer e = grammar.expr e.first (tails_of e.rest.items)

abbrev pub tail_layer : Tail-F ActualTree PrimaryTree ReferenceTree TailTree CalledTree ChoiceTree ExprTree OperandTree PrimaryTree → TailTree
tail_layer (Tail-F.Apply b o) = grammar.apply (binary_tree b) o
tail_layer (Tail-F.Matches atoms) = grammar.matches (map atom_tree atoms.items)
tail_layer (Tail-F.MatchesNot atoms) = grammar.matches_not (map atom_tree atoms.items)
tail_layer (Tail-F.Raise o) = grammar.raise o
tail_layer (Tail-F.MatchesIndirect p) = grammar.matches_indirect p.value
tail_layer (Tail-F.MatchesNotIndirect p) = grammar.matches_not_indirect p.value

abbrev pub operand_layer : Operand-F ActualTree PrimaryTree ReferenceTree TailTree CalledTree ChoiceTree ExprTree OperandTree PrimaryTree → OperandTree
operand_layer o = grammar.operand (map sign_tree o.signs.items) o.primary

abbrev pub primary_layer : Primary-F ActualTree PrimaryTree ReferenceTree TailTree CalledTree ChoiceTree ExprTree OperandTree PrimaryTree → PrimaryTree
primary_layer (Primary-F.Number literal) = grammar.number literal
primary_layer (Primary-F.Text t) = grammar.text t
primary_layer (Primary-F.Special word) = grammar.special word
primary_layer (Primary-F.Reference r) = grammar.reference r
primary_layer (Primary-F.Bracket e) = grammar.bracket e.value
primary_layer (Primary-F.Call word args) = grammar.call word (exprs_of args.items)
primary_layer (Primary-F.Select word choices) = grammar.select word (choices_of choices.items)
primary_layer (Primary-F.Refer r) = r.value
primary_layer (Primary-F.Extrinsic c) = grammar.extrinsic c.value.0 c.value.1

abbrev pub reference_layer : Reference-F ActualTree PrimaryTree ReferenceTree TailTree CalledTree ChoiceTree ExprTree OperandTree PrimaryTree → ReferenceTree
reference_layer (Reference-F.Variable name) = grammar.local name grammar.no_exprs
reference_layer (Reference-F.Node name subscript) = grammar.local name (grammar.exprs subscript.value grammar.no_exprs)
reference_layer (Reference-F.Local name subscripts) = grammar.local name (exprs_of subscripts.items)
reference_layer (Reference-F.Global name subscripts) = grammar.global name (exprs_of subscripts.items)
reference_layer (Reference-F.Naked subscripts) = grammar.naked (exprs_of subscripts.items)
reference_layer (Reference-F.Indirect p subscripts) = grammar.indirect p.value (exprs_of subscripts.items)
reference_layer (Reference-F.Extended e name subscripts) = grammar.extended e.value name (exprs_of subscripts.items)

abbrev pub referring_layer : Referring-F ActualTree PrimaryTree ReferenceTree TailTree CalledTree ChoiceTree ExprTree OperandTree PrimaryTree → PrimaryTree
referring_layer r = grammar.refer r.word r.reference (exprs_of r.more.items)

abbrev pub choice_layer : Choice-F ActualTree PrimaryTree ReferenceTree TailTree CalledTree ChoiceTree ExprTree OperandTree PrimaryTree → ChoiceTree
choice_layer c = (c.condition, c.value)

abbrev pub actual_layer : Actual-F ActualTree PrimaryTree ReferenceTree TailTree CalledTree ChoiceTree ExprTree OperandTree PrimaryTree → ActualTree
actual_layer Actual-F.Missing = grammar.missing_actual
actual_layer (Actual-F.Value e) = grammar.value_actual e
actual_layer (Actual-F.Name name) = grammar.name_actual name
actual_layer (Actual-F.IndirectName p) = grammar.indirect_actual p.value

abbrev pub called_layer : Called-F ActualTree PrimaryTree ReferenceTree TailTree CalledTree ChoiceTree ExprTree OperandTree PrimaryTree → CalledTree
called_layer c = (entry_tree c.entry, actuals_of c.actuals.items)

abbrev pub expr_tree : Expr → ExprTree
expr_tree = fold-Expr ActualTree PrimaryTree ReferenceTree TailTree CalledTree ChoiceTree ExprTree OperandTree PrimaryTree actual_layer primary_layer reference_layer tail_layer called_layer choice_layer expr_layer operand_layer referring_layer

abbrev pub tail_tree : Tail → TailTree
tail_tree = fold-Tail ActualTree PrimaryTree ReferenceTree TailTree CalledTree ChoiceTree ExprTree OperandTree PrimaryTree actual_layer primary_layer reference_layer tail_layer called_layer choice_layer expr_layer operand_layer referring_layer

abbrev pub operand_tree : Operand → OperandTree
operand_tree = fold-Operand ActualTree PrimaryTree ReferenceTree TailTree CalledTree ChoiceTree ExprTree OperandTree PrimaryTree actual_layer primary_layer reference_layer tail_layer called_layer choice_layer expr_layer operand_layer referring_layer

abbrev pub primary_tree : Primary → PrimaryTree
primary_tree = fold-Primary ActualTree PrimaryTree ReferenceTree TailTree CalledTree ChoiceTree ExprTree OperandTree PrimaryTree actual_layer primary_layer reference_layer tail_layer called_layer choice_layer expr_layer operand_layer referring_layer

abbrev pub choice_tree : Choice → ChoiceTree
choice_tree = fold-Choice ActualTree PrimaryTree ReferenceTree TailTree CalledTree ChoiceTree ExprTree OperandTree PrimaryTree actual_layer primary_layer reference_layer tail_layer called_layer choice_layer expr_layer operand_layer referring_layer

abbrev pub reference_tree : Reference → ReferenceTree
reference_tree = fold-Reference ActualTree PrimaryTree ReferenceTree TailTree CalledTree ChoiceTree ExprTree OperandTree PrimaryTree actual_layer primary_layer reference_layer tail_layer called_layer choice_layer expr_layer operand_layer referring_layer

abbrev pub referring_tree : Referring → PrimaryTree
referring_tree = fold-Referring ActualTree PrimaryTree ReferenceTree TailTree CalledTree ChoiceTree ExprTree OperandTree PrimaryTree actual_layer primary_layer reference_layer tail_layer called_layer choice_layer expr_layer operand_layer referring_layer

abbrev pub actual_tree : Actual → ActualTree
actual_tree = fold-Actual ActualTree PrimaryTree ReferenceTree TailTree CalledTree ChoiceTree ExprTree OperandTree PrimaryTree actual_layer primary_layer reference_layer tail_layer called_layer choice_layer expr_layer operand_layer referring_layer

abbrev pub called_tree : Called → CalledTree
called_tree = fold-Called ActualTree PrimaryTree ReferenceTree TailTree CalledTree ChoiceTree ExprTree OperandTree PrimaryTree actual_layer primary_layer reference_layer tail_layer called_layer choice_layer expr_layer operand_layer referring_layer

abbrev pub part_tree : PartTarget → TargetTree
part_tree p = grammar.part p.word (reference_tree p.reference) (exprs_of (map expr_tree p.more.items))

abbrev pub target_tree : Target → TargetTree
target_tree (target.Variable r) = grammar.variable (reference_tree r)
target_tree (target.Part p) = part_tree p.value

abbrev pub destination_tree : Destination → DestinationTree
destination_tree (destination.One t) = grammar.one (target_tree t)
destination_tree (destination.Several ts) = grammar.several (map target_tree ts.items)

abbrev pub parameter_tree : Parameter → ParameterTree
parameter_tree (parameter.Once e) = grammar.once (expr_tree e)
parameter_tree (parameter.Onward e by) = grammar.onward (expr_tree e) (expr_tree by)
parameter_tree (parameter.Until e by to) = grammar.until (expr_tree e) (expr_tree by) (expr_tree to)

abbrev pub condition_tree : {G : Type 0} → Option (Box Expr G) → Option ExprTree
condition_tree = option_map (λ e. expr_tree e.value)

abbrev pub kind_tree : LockKind → LockKindTree
kind_tree lock_kind.Anew = grammar.anew
kind_tree lock_kind.Adding = grammar.adding
kind_tree lock_kind.GivingBack = grammar.giving_back

abbrev pub locked_tree : Locked → LockedTree
locked_tree (locked_names.One r) = grammar.lock_one (reference_tree r)
locked_tree (locked_names.Several rs) = grammar.lock_several (map reference_tree rs.items)

abbrev pub arg_tree : Arg → ArgTree
arg_tree (arg.Assign d e) = grammar.assign (destination_tree d) (expr_tree e)
arg_tree (arg.Formats run tab) = grammar.formats run (condition_tree tab)
arg_tree (arg.Coded e) = grammar.coded (expr_tree e)
arg_tree (arg.Value e) = grammar.shown (expr_tree e)
arg_tree (arg.KillOne r) = grammar.kill_one (reference_tree r)
arg_tree (arg.KillOthers names) = grammar.kill_others names.items
arg_tree (arg.NewOne name) = grammar.new_one name
arg_tree (arg.NewOthers names) = grammar.new_others names.items
arg_tree (arg.Tested e) = grammar.tested (expr_tree e)
arg_tree (arg.Loop index parameters) = grammar.loop index (map parameter_tree parameters.items)
arg_tree (arg.DoOne x c) = grammar.do_one (called_tree x).0 (called_tree x).1 (condition_tree c)
arg_tree (arg.GoTo e c) = grammar.go_to (entry_tree e) (condition_tree c)
arg_tree (arg.Executed e c) = grammar.executed (expr_tree e) (condition_tree c)
arg_tree (arg.Lock k names t) = grammar.locked (kind_tree k) (locked_tree names) (condition_tree t)
arg_tree (arg.HangFor e) = grammar.hang_for (expr_tree e)
arg_tree (arg.Returned e) = grammar.returned (expr_tree e)
arg_tree (arg.MergeOne target source) = grammar.merge_one (reference_tree target) (reference_tree source)
arg_tree (arg.Indirect k p) = grammar.indirect_args (form_of (keyword_tree k)) (primary_tree p)

abbrev pub command_tree : Command → CommandTree
command_tree c = record { keyword = keyword_tree c.keyword; word = c.word; condition = condition_tree c.condition; args = map arg_tree c.args.items }

abbrev pub spaced_tree : Spaced → SpacedTree
spaced_tree s = (command_tree s.command, s.spaces)

abbrev pub line_tree : Line → LineTree
line_tree l = record { lead = l.lead; commands = map spaced_tree l.commands.items; comment = l.comment }

abbrev pub body_tree : Body → BodyTree
body_tree (body.Short comment) = routine.short comment
body_tree (body.Spaced dots l) = routine.spaced_out dots.items (line_tree l.value)

abbrev pub formals_tree : {A G : Type 0} → Option (Vec A G) → Option (List A)
formals_tree = option_map (λ names. names.items)

abbrev pub routine_line_tree : RoutineLine → RoutineLineTree
routine_line_tree l = record { label = l.label; formals = formals_tree l.formals; body = body_tree l.body }

-- the first language that a line tells is the one that has all forms of its tree
abbrev pub IsCounted : Line → Type 0
IsCounted l = l.since ≡ since_line (line_tree l)

abbrev pub IsBodyCounted : Body → Type 0
IsBodyCounted (body.Short comment) = Unit {0}
IsBodyCounted (body.Spaced dots l) = IsCounted l.value
