-- SPDX-License-Identifier: Apache-2.0
-- Reading a tree back from its text. The meaning of a line reads its text in this way; the law `reads_its_tree` ties what is read to
-- the grammar, which a reader checks in its place.
use Rattle.std.specs.Prelude.{ℕ, suc, ◌-◌, Bool, true, false, not, ◌&&◌, ◌||◌, ◌==◌, nat_le, if◌then◌else◌, List, [], ◌∷◌, length, drop, Option, Some, None}
use Rattle.mspec.specs.Names.{is_letter, is_character}
use Rattle.mgrammar.specs.Grammar.{ExprTree, exprs_of, PrimaryTree, ReferenceTree, TargetTree, variable, part, DestinationTree, one, several, ParameterTree}
use Rattle.mgrammar.specs.Grammar.{once, onward, until, EntryTree, ActualsTree, ArgTree, assign, formats, coded, shown, kill_one, kill_others, new_one}
use Rattle.mgrammar.specs.Grammar.{new_others, tested, loop, do_one, go_to, executed, locked, hang_for, returned, merge_one, indirect_args, LockKindTree, anew}
use Rattle.mgrammar.specs.Grammar.{adding}
use Rattle.mgrammar.specs.Grammar.{giving_back, LockedTree, lock_one, lock_several, CommandTree, SpacedTree, LineTree, KeywordTree, FormTree, set_argument}
use Rattle.mgrammar.specs.Grammar.{kill_argument, new_argument, if_argument, for_argument, write_argument, do_argument, goto_argument, xecute_argument}
use Rattle.mgrammar.specs.Grammar.{lock_argument, hang_argument, quit_argument, merge_argument, no_argument, is_format}
use Rattle.mgrammar.specs.Commands.{keyword_of, form_of, takes_args, takes_condition}
use Rattle.mgrammar.specs.Functions.{FunctionTree, of_values, of_variable, of_choices, function_of, takes, is_part}
use Rattle.mgrammar.specs.WellFormed.{bare_reference, bare_destination, is_named, bare_arg, settled, least_gap, max_depth}
use Rattle.mgrammar.specs.ReadingWords.{Read, ◌>>=◌, run_of, after_run, after_sign, name_at, past, many, after_comma, list_at}
use Rattle.mgrammar.specs.ReadingExpressions.{Readers, reference_with, called_with, readers_at, expr_at}
pub use Rattle.mgrammar.specs.ReadingExpressions.{label_by, entry_by}
unfoldable pub use Rattle.mgrammar.specs.ReadingExpressions.{entry_at}

-- ---- arguments

module _ (r : Readers) where
  -- a variable and the values after it, of a function that takes at least `least` values and at most `most`, the variable among them
  unfoldable pub part_with : ℕ → Option ℕ → List ℕ → List ℕ → Read TargetTree
  part_with least most w cs =
      r.within cs >>= λ v. many (after_comma (r.inner)) (length v.1) v.1 >>= λ x. past 41 x.1 >>= λ rest.
      if takes least most (suc (length x.0)) then Some (part w v.0 (exprs_of x.0), rest) else None

  abbrev pub part_by : List ℕ → Option FunctionTree → List ℕ → Read TargetTree
  part_by w None cs = None
  part_by w (Some (of_values f least most)) cs = if is_part f then part_with least most w cs else None
  part_by w (Some (of_variable f most)) cs = None
  part_by w (Some of_choices) cs = None

  unfoldable pub target_with : List ℕ → Read TargetTree
  target_with [] = None
  target_with (c ∷ cs) =
      if c == 36
      then (past 40 (after_run is_letter cs) >>= part_by (run_of is_letter cs) (function_of (run_of is_letter cs)))
      else (reference_with r (c ∷ cs) >>= λ v. Some (variable v.0, v.1))

unfoldable pub destination_at : List ℕ → Read DestinationTree
destination_at [] = None
destination_at (c ∷ cs) =
    if c == 40
    then (list_at (target_with (readers_at (max_depth - 1))) cs >>= λ x. past 41 x.1 >>= λ rest. Some (several x.0, rest))
    else (target_with (readers_at max_depth) (c ∷ cs) >>= λ t. Some (one t.0, t.1))

-- arguments that a text gives, if the operand of an `@` was read
abbrev pub given_by : FormTree → List ℕ → Option PrimaryTree → Read ArgTree
given_by f cs None = None
given_by f cs (Some p) = Some (indirect_args f p, cs)

-- a destination is read, and this text comes after a `=`, or none does
abbrev pub set_argument_by : DestinationTree → List ℕ → Option (List ℕ) → Read ArgTree
set_argument_by d cs None = given_by set_argument cs (bare_destination d)
set_argument_by d cs (Some rest) = expr_at max_depth rest >>= λ e. Some (assign d e.0, e.1)

unfoldable pub set_argument_at : List ℕ → Read ArgTree
set_argument_at cs = destination_at cs >>= λ d. set_argument_by d.0 d.1 (past 61 d.1)

-- a value, or what comes after a `*`
abbrev pub value_by : List ℕ → Option (List ℕ) → Read ArgTree
value_by cs None = expr_at max_depth cs >>= λ e. Some (shown e.0, e.1)
value_by cs (Some rest) = expr_at max_depth rest >>= λ e. Some (coded e.0, e.1)

-- after this run of formats, with what comes after a `?`
abbrev pub write_argument_by : List ℕ → List ℕ → Option (List ℕ) → Read ArgTree
write_argument_by run cs (Some rest) = expr_at max_depth rest >>= λ e. Some (formats run (Some e.0), e.1)
write_argument_by [] cs None = value_by cs (past 42 cs)
write_argument_by (f ∷ fs) cs None = Some (formats (f ∷ fs) None, cs)

unfoldable pub write_argument_at : List ℕ → Read ArgTree
write_argument_at cs = write_argument_by (run_of is_format cs) (after_run is_format cs) (past 63 (after_run is_format cs))

-- names, after the bracket in front of them
unfoldable pub names_at : List ℕ → Read (List (List ℕ))
names_at cs = list_at name_at cs >>= λ x. past 41 x.1 >>= λ rest. Some (x.0, rest)

unfoldable pub kill_argument_at : List ℕ → Read ArgTree
kill_argument_at [] = None
kill_argument_at (c ∷ cs) =
    if c == 40 then (names_at cs >>= λ x. Some (kill_others x.0, x.1))
    else (reference_with (readers_at max_depth) (c ∷ cs) >>= λ v. Some (kill_one v.0, v.1))

unfoldable pub new_argument_at : List ℕ → Read ArgTree
new_argument_at [] = None
new_argument_at (c ∷ cs) =
    if c == 40 then (names_at cs >>= λ x. Some (new_others x.0, x.1))
    else (name_at (c ∷ cs) >>= λ n. Some (new_one n.0, n.1))

unfoldable pub if_argument_at : List ℕ → Read ArgTree
if_argument_at cs = expr_at max_depth cs >>= λ e. Some (tested e.0, e.1)

-- a parameter whose expressions in front are read, with what comes after a colon
abbrev pub limit_by : ExprTree → ExprTree → List ℕ → Option (List ℕ) → Read ParameterTree
limit_by e by cs None = Some (onward e by, cs)
limit_by e by cs (Some rest) = expr_at max_depth rest >>= λ to. Some (until e by to.0, to.1)

abbrev pub increment_by : ExprTree → List ℕ → Option (List ℕ) → Read ParameterTree
increment_by e cs None = Some (once e, cs)
increment_by e cs (Some rest) = expr_at max_depth rest >>= λ by. limit_by e by.0 by.1 (past 58 by.1)

unfoldable pub parameter_at : List ℕ → Read ParameterTree
parameter_at cs = expr_at max_depth cs >>= λ e. increment_by e.0 e.1 (past 58 e.1)

unfoldable pub for_argument_at : List ℕ → Read ArgTree
for_argument_at cs =
    name_at cs >>= λ n. past 61 n.1 >>= λ rest. list_at parameter_at rest >>= λ x. Some (loop n.0 x.0, x.1)

-- an expression after the colon in front of it, or none
abbrev pub postcondition_by : List ℕ → Option (List ℕ) → Read (Option ExprTree)
postcondition_by cs None = Some (None, cs)
postcondition_by cs (Some rest) = expr_at max_depth rest >>= λ e. Some (Some e.0, e.1)

-- an item with a postconditional of its own
abbrev pub conditioned : {A : Type 0} → (A → Option ExprTree → ArgTree) → A × List ℕ → Read ArgTree
conditioned made x = postcondition_by x.1 (past 58 x.1) >>= λ c. Some (made x.0 c.0, c.1)

abbrev pub doing_called : EntryTree × ActualsTree → Option ExprTree → ArgTree
doing_called x c = do_one x.0 x.1 c

unfoldable pub do_argument_at : List ℕ → Read ArgTree
do_argument_at cs = called_with (readers_at max_depth) cs >>= conditioned doing_called

unfoldable pub goto_argument_at : List ℕ → Read ArgTree
goto_argument_at cs = entry_at cs >>= conditioned go_to

unfoldable pub xecute_argument_at : List ℕ → Read ArgTree
xecute_argument_at cs = expr_at max_depth cs >>= conditioned executed

unfoldable pub lock_ref_with : Readers → List ℕ → Read ReferenceTree
lock_ref_with r cs = reference_with r cs >>= λ v. if is_named v.0 then Some v else None

unfoldable pub locked_at : List ℕ → Read LockedTree
locked_at [] = None
locked_at (c ∷ cs) =
    if c == 40 then (list_at (lock_ref_with (readers_at (max_depth - 1))) cs >>= λ x. past 41 x.1 >>= λ rest. Some (lock_several x.0, rest))
    else (lock_ref_with (readers_at max_depth) (c ∷ cs) >>= λ v. Some (lock_one v.0, v.1))

abbrev pub kind_of : List ℕ → LockKindTree
kind_of [] = anew
kind_of (c ∷ cs) = if c == 43 then adding else (if c == 45 then giving_back else anew)

unfoldable pub lock_argument_at : List ℕ → Read ArgTree
lock_argument_at cs = locked_at (after_sign cs) >>= conditioned (locked (kind_of cs))

unfoldable pub hang_argument_at : List ℕ → Read ArgTree
hang_argument_at cs = expr_at max_depth cs >>= λ e. Some (hang_for e.0, e.1)

unfoldable pub quit_argument_at : List ℕ → Read ArgTree
quit_argument_at cs = expr_at max_depth cs >>= λ e. Some (returned e.0, e.1)

-- the target is read, and this text comes after a `=`, or none does
abbrev pub merge_argument_by : ReferenceTree → List ℕ → Option (List ℕ) → Read ArgTree
merge_argument_by target cs None = given_by merge_argument cs (bare_reference target)
merge_argument_by target cs (Some rest) = reference_with (readers_at max_depth) rest >>= λ v. Some (merge_one target v.0, v.1)

unfoldable pub merge_argument_at : List ℕ → Read ArgTree
merge_argument_at cs = reference_with (readers_at max_depth) cs >>= λ v. merge_argument_by v.0 v.1 (past 61 v.1)

-- ---- argument indirection

-- one that begins as a variable or an expression may be an `@` with its operand alone
abbrev pub settled_with : (List ℕ → Read ArgTree) → FormTree → List ℕ → Read ArgTree
settled_with read f cs = read cs >>= λ a. Some (settled f a.0 (bare_arg a.0), a.1)

-- one that begins as neither
abbrev pub operand_by : (List ℕ → Read ArgTree) → FormTree → List ℕ → Option (List ℕ) → Read ArgTree
operand_by read f cs None = read cs
operand_by read f cs (Some behind) = (readers_at max_depth).below behind >>= λ p. Some (indirect_args f p.0, p.1)

abbrev pub operand_or : (List ℕ → Read ArgTree) → FormTree → List ℕ → Read ArgTree
operand_or read f cs = operand_by read f cs (past 64 cs)

abbrev pub arg_at : FormTree → List ℕ → Read ArgTree
arg_at set_argument = set_argument_at
arg_at kill_argument = settled_with kill_argument_at kill_argument
arg_at new_argument = operand_or new_argument_at new_argument
arg_at if_argument = settled_with if_argument_at if_argument
arg_at for_argument = for_argument_at
arg_at write_argument = settled_with write_argument_at write_argument
arg_at do_argument = operand_or do_argument_at do_argument
arg_at goto_argument = operand_or goto_argument_at goto_argument
arg_at xecute_argument = settled_with xecute_argument_at xecute_argument
arg_at lock_argument = settled_with lock_argument_at lock_argument
arg_at hang_argument = settled_with hang_argument_at hang_argument
arg_at quit_argument = quit_argument_at
arg_at merge_argument = merge_argument_at
arg_at no_argument = λ cs. None

-- ---- commands and lines

-- arguments follow a word: a space, and after it no space, no comment and no end
abbrev pub has_args : List ℕ → Bool
has_args [] = false
has_args (c ∷ []) = false
has_args (c ∷ d ∷ cs) = c == 32 && not (d == 32 || d == 59)

unfoldable pub args_at : FormTree → List ℕ → Read (List ArgTree)
args_at f cs = if has_args cs then list_at (arg_at f) (drop 1 cs) else Some ([], cs)

-- after a word of this keyword
unfoldable pub postcondition_at : KeywordTree → List ℕ → Read (Option ExprTree)
postcondition_at k cs = if takes_condition k then postcondition_by cs (past 58 cs) else Some (None, cs)

-- a command of this word and keyword, of which the text after the word is left
abbrev pub command_by : List ℕ → Option KeywordTree → List ℕ → Read CommandTree
command_by w None cs = None
command_by w (Some k) cs =
    postcondition_at k cs >>= λ c. args_at (form_of k) c.1 >>= λ x.
    if takes_args k (length x.0) then Some (record { keyword = k; word = w; condition = c.0; args = x.0 }, x.1) else None

unfoldable pub command_at : List ℕ → Read CommandTree
command_at cs = command_by (run_of is_letter cs) (keyword_of (run_of is_letter cs)) (after_run is_letter cs)

abbrev pub is_space : ℕ → Bool
is_space c = c == 32

-- the end, or a comment
abbrev pub at_end : List ℕ → Bool
at_end [] = true
at_end (c ∷ cs) = c == 59

-- a command with these spaces after it: enough of them, unless nothing more than a comment follows
abbrev pub spaced : CommandTree → List ℕ → List ℕ → Option (Option (SpacedTree × List ℕ))
spaced c spaces rest =
    if at_end rest || nat_le (least_gap c.args) (length spaces) then Some (Some ((c, length spaces), rest)) else None

unfoldable pub spaced_at : List ℕ → Option (Option (SpacedTree × List ℕ))
spaced_at cs =
    if at_end cs then Some None
    else (command_at cs >>= λ c. spaced c.0 (run_of is_space c.1) (after_run is_space c.1))

-- a comment, unless something is left after it
abbrev pub comment_by : List ℕ → List ℕ → Option (Option (List ℕ))
comment_by t [] = Some (Some t)
comment_by t (c ∷ cs) = None

unfoldable pub comment_at : List ℕ → Option (Option (List ℕ))
comment_at [] = Some None
comment_at (c ∷ cs) = if c == 59 then comment_by (run_of is_character cs) (after_run is_character cs) else None

unfoldable pub line_at : List ℕ → Option LineTree
line_at cs =
    many spaced_at (length (after_run is_space cs)) (after_run is_space cs) >>= λ x. comment_at x.1 >>= λ c.
    Some (record { lead = length (run_of is_space cs); commands = x.0; comment = c })
