-- SPDX-License-Identifier: Apache-2.0
-- Line meaning: what the commands of a line do, one after another.
--
-- Restates "Commands" and "Extrinsic function" of ISO/IEC 11756:1999, "Do", "Else", "For", "Goto", "Halt", "Hang", "If", "Kill", "New",
-- "Quit", "Set", "Write" and "Xecute" among them, and what "Indirection" says of arguments: arguments are done from left to right, each as if
-- it stood in a command of its own, and those that a text gives as if they stood in its place. A DO without arguments does the lines after
-- its own that have one dot more, and keeps $TEST. LOCK is in Locking, MERGE in Merging. Each text is read in the language that the line is given.
use Rattle.std.specs.Prelude.{ℕ, zero, suc, ◌+◌, ℤ, pos, negsuc, ◌+ℤ◌, Bool, true, not, cond, nat_lt, nat_le, ◌==◌, List, [], ◌∷◌, ◌++◌, length, drop, Option}
use Rattle.std.specs.Prelude.{Some, None, is_none}
use Rattle.mspec.specs.Number.{sum_of}
use Rattle.mspec.specs.NumberText.{number_text}
use Rattle.mspec.specs.TextFunctions.{set_piece_of, has_places, set_range_of}
pub use Rattle.mspec.specs.Cursor.{line_end}
use Rattle.mspec.specs.Cursor.{is_column, spaces_to}
use Rattle.mspec.specs.Scopes.{Binding, killed_except, newed, newed_except}
use Rattle.mgrammar.specs.Grammar.{ExprTree, EntryTree, ActualsTree, ReferenceTree, TargetTree, variable, part, DestinationTree, one, several, ParameterTree}
use Rattle.mgrammar.specs.Grammar.{once, onward, until, KeywordTree, set_word, kill_word, new_word, if_word, else_word, for_word, quit_word, write_word}
use Rattle.mgrammar.specs.Grammar.{do_word, goto_word, execute_word, lock_word, merge_word, halt_word, hang_word, halt_or_hang_word, ArgTree, assign, formats}
use Rattle.mgrammar.specs.Grammar.{coded}
use Rattle.mgrammar.specs.Grammar.{shown, kill_one, kill_others, new_one, new_others, tested, loop, do_one, go_to, executed, locked, hang_for, returned}
use Rattle.mgrammar.specs.Grammar.{merge_one, indirect_args, FormTree, PrimaryTree, CommandTree, LineTree}
use Rattle.mgrammar.specs.Functions.{ValueFunctionTree, FunctionTree, of_values, extract_function, piece_function, function_of}
use Rattle.mgrammar.specs.Languages.{line_in, routine_line_in, args_in}
use Rattle.mgrammar.specs.RoutineLine.{formals_of, dots_of}
use Rattle.mspec.specs.Code.{M11, M15, M16, M17, Halting, Zarg, Zchar, Zsteps, Zsyntax}
use Rattle.mspec.specs.Plan.{Release}
use Rattle.mspec.specs.Act.{Text, Act, Locals, level_begun, ◌>>=◌, ◌>>◌, give, give_some, read_so, in_language, fail, unless, ask, charge, write}
use Rattle.mspec.specs.Act.{write_formats, with_locals, test_is, set_test, cursor_is}
use Rattle.mmeaning.specs.Operators.{outcome, as_number, as_truth, as_text}
use Rattle.mmeaning.specs.Functions.{as_whole, text_at, whole_at}
use Rattle.mmeaning.specs.Variables.{Evaluated, at_local, writing, resolve, found_at, read_or, put_at, kill_at}
use Rattle.mmeaning.specs.Expression.{Depth, Inside, inside, an_indirection_free, primary_value, value, values, evaluated}
pub use Rattle.mmeaning.specs.Expression.{optional_value}
use Rattle.mmeaning.specs.Locking.{locking}
use Rattle.mmeaning.specs.Merging.{merging}
pub use Rattle.mmeaning.specs.Levels.{Level, Position, top_level, Target, Closing, stays, leaves, restores, answers}
use Rattle.mmeaning.specs.Levels.{target, a_level_free, deeper, within_indirection, closing, commands_of, commands_in}
use Rattle.mmeaning.specs.Parameters.{bare_list, handed_over, formals_of_target, formals_for, with_formals}
use Rattle.mmeaning.specs.Courses.{Course, last_turn, endless, limited, forever, is_past}

-- ---- how a line goes on

-- with what is next; with what comes after the rest of the line; out of its turn or its level; with another line; or out of its level
-- with a value
pub data Completion : Type 0 where
  Go_on : Completion
  Skips : Completion
  Quits : Completion
  Goes : Target → Completion
  Returns : Text → Completion

-- what is next, unless a completion passes it by
abbrev pub after : Completion → Act Completion → Act Completion
after Go_on p = p
after Skips p = give Skips
after Quits p = give Quits
after (Goes t) p = give (Goes t)
after (Returns v) p = give (Returns v)

-- a FOR under way: its index, how its parameter goes on, the parameters after that, and the rest of the line
pub record Turning : Type 0 where
  pub index : Text
  pub course : Course
  pub parameters : List ParameterTree
  pub body : List CommandTree

-- what runs commands once more, or commands or arguments of a text that is no part of the tree, once its step is spent
pub record Texts : Type 0 where
  pub turn : Position → Turning → Act Completion
  pub list : Position → List ArgTree → Act Completion
  pub enter : Position → List CommandTree → Act Completion

pub record Context : Type 0 where
  pub account : Text
  pub fuel : ℕ
  pub position : Position
  pub texts : Texts

-- the same in another level
abbrev pub at_level : Context → Level → Context
at_level x l = record x { position = record { depth = x.position.depth; level = l } }

-- and as deep
abbrev pub at_depth : Context → Depth → Context
at_depth x d = record x { position = record { depth = d; level = x.position.level } }

-- ---- SET

-- a target with everything evaluated that it has to evaluate: a variable, or a part of one, with what the target's word says and the
-- values after the variable
pub data Prepared : Type 0 where
  whole : Evaluated → Prepared
  partial : Option FunctionTree → Evaluated → List Text → Prepared

abbrev pub prepared : Inside → TargetTree → Act Prepared
prepared i (variable r) = do
  v ← evaluated i r
  give (whole v)
prepared i (part word r more) = do
  v ← evaluated i r
  xs ← values i [] more
  give (partial (function_of word) v xs)

-- some targets, appended to those before them
abbrev pub all_prepared : Inside → List Prepared → List TargetTree → Act (List Prepared)
all_prepared i ps [] = give ps
all_prepared i ps (t ∷ ts) = do
  p ← prepared i t
  all_prepared i (ps ++ p ∷ []) ts

-- one piece: its place becomes a whole number once the variable is found
abbrev pub piece_assigned : Text → Evaluated → List Text → Act (Unit {0})
piece_assigned x v xs = do
  p ← resolve writing v
  n ← whole_at 1 xs
  old ← read_or [] p
  new ← outcome (set_piece_of old (text_at 0 xs) n x)
  put_at p new

-- characters, or pieces if there is a delimiter, from a place up to a place
abbrev pub range_put : Text → Evaluated → Option Text → Option ℤ → Option ℤ → Act (Unit {0})
range_put x v d from to = do
  p ← resolve writing v
  old ← read_or [] p
  new ← outcome (set_range_of old d from to x)
  put_at p new

-- if there is no place from the one up to the other, the variable is not referred to
abbrev pub range_assigned : Text → Evaluated → Option Text → Option ℤ → Option ℤ → Act (Unit {0})
range_assigned x v d from to = cond (has_places from to) (range_put x v d from to) (give tt)

-- the same, of values that become places first
abbrev pub characters_assigned : Text → Evaluated → List Text → Act (Unit {0})
characters_assigned x v xs = do
  from ← whole_at 0 xs
  to ← whole_at 1 xs
  range_assigned x v None from to

abbrev pub pieces_assigned : Text → Evaluated → List Text → Act (Unit {0})
pieces_assigned x v xs = do
  from ← whole_at 1 xs
  to ← whole_at 2 xs
  range_assigned x v (Some (text_at 0 xs)) from to

-- a part of a variable; a function that has none is in no target of the grammar
abbrev pub part_assigned : Text → ValueFunctionTree → Evaluated → List Text → Act (Unit {0})
part_assigned x piece_function v xs = cond (nat_lt 2 (length xs)) (pieces_assigned x v xs) (piece_assigned x v xs)
part_assigned x extract_function v xs = characters_assigned x v xs
part_assigned x f v xs = fail Zsyntax

abbrev pub named_part : Text → Option FunctionTree → Evaluated → List Text → Act (Unit {0})
named_part x (Some (of_values f least most)) v xs = part_assigned x f v xs
named_part x f v xs = fail Zsyntax

abbrev pub assigned : Text → Prepared → Act (Unit {0})
assigned x (whole v) = do
  p ← resolve writing v
  put_at p x
assigned x (partial f v xs) = named_part x f v xs

abbrev pub all_assigned : Text → List Prepared → Act (Unit {0})
all_assigned x [] = give tt
all_assigned x (p ∷ ps) = assigned x p >> all_assigned x ps

abbrev pub targets : DestinationTree → List TargetTree
targets (one t) = t ∷ []
targets (several ts) = ts

-- each target's parts, then the right side, which each target is then given: an error leaves those before it set
abbrev pub setting : Inside → DestinationTree → ExprTree → Act (Unit {0})
setting i d e = do
  ps ← all_prepared i [] (targets d)
  x ← value i e
  all_assigned x ps

-- ---- WRITE

abbrev pub showing : Inside → ExprTree → Act (Unit {0})
showing i e = do
  x ← value i e
  write x

-- after a `?`: spaces up to a column, unless the line is there; one that no text is as long as is refused
abbrev pub spaced_to : Text → Act (Unit {0})
spaced_to x = do
  n ← as_whole x
  unless Zarg (is_column n)
  c ← cursor_is
  write (spaces_to n c.column)

abbrev pub tabbing : Inside → Option ExprTree → Act (Unit {0})
tabbing i None = give tt
tabbing i (Some e) = do
  x ← value i e
  spaced_to x

-- formats in front of that
abbrev pub formatting : Inside → List ℕ → Option ExprTree → Act (Unit {0})
formatting i run tab = write_formats run >> tabbing i tab

-- the character of a code
abbrev pub coded_character : ℤ → Option ℕ
coded_character (pos n) = cond (nat_le n 127) (Some n) None
coded_character (negsuc n) = None

abbrev pub character_written : Text → Act (Unit {0})
character_written x = do
  n ← as_whole x
  c ← give_some Zchar (coded_character n)
  write (c ∷ [])

abbrev pub coding : Inside → ExprTree → Act (Unit {0})
coding i e = do
  x ← value i e
  character_written x

-- ---- KILL

abbrev pub killing : Inside → ReferenceTree → Act (Unit {0})
killing i r = do
  v ← evaluated i r
  p ← resolve writing v
  kill_at p

-- ---- QUIT

abbrev pub returning : Inside → ExprTree → Act Completion
returning i e = do
  x ← value i e
  give (Returns x)

-- ---- conditions

-- the truth of the condition, if there is one
abbrev pub holds : Inside → Option ExprTree → Act Bool
holds i None = give true
holds i (Some e) = do
  x ← value i e
  as_truth x

-- what is next if this is true, and otherwise what comes after the rest of the line
abbrev pub where_true : Bool → Completion
where_true b = cond b Go_on Skips

-- IF: each argument sets $TEST
abbrev pub truth_tested : Text → Act Completion
truth_tested x = do
  b ← as_truth x
  set_test b
  give (where_true b)

abbrev pub testing : Inside → ExprTree → Act Completion
testing i e = do
  x ← value i e
  truth_tested x

-- ---- lines of a routine

-- the commands of a line that is entered; it is read when it is reached, and not before
abbrev pub line_entered : Context → ℕ → Text → Act Completion
line_entered x n text = do
  l ← read_so Zsyntax (λ n. routine_line_in n text)
  x.texts.enter (record { depth = x.position.depth; level = record x.position.level { next = Some (n + 1) } }) (commands_in l.body)

-- one that no DO names: it has no formal list
abbrev pub line_reached : Context → ℕ → Text → Act Completion
line_reached x n text = do
  in_language (λ l. unless M11 (is_none (formals_of l text)))
  line_entered x n text

-- The lines from a place on, which are these. One with more dots than the level's is passed over; one with fewer ends the level, as does
-- the end of the lines. A line that is entered or passed over costs a step.
abbrev pub lines_reached : Context → ℕ → List Text → Act Completion
lines_reached x n [] = give Go_on
lines_reached x n (text ∷ rest) =
    in_language (λ l.
    cond (nat_lt x.position.level.dots (dots_of l text)) (charge >> lines_reached x (n + 1) rest)
    (cond (dots_of l text == x.position.level.dots) (charge >> line_reached x n text) (give Go_on)))

abbrev pub lines_from : Context → Option ℕ → Act Completion
lines_from x None = give Go_on
lines_from x (Some n) = lines_reached x n (drop n x.position.level.copy)

-- the line that comes next in a level, and those after it; a level that ends gives Go_on
abbrev pub lines_next : Context → Act Completion
lines_next x = lines_from x x.position.level.next

-- the first of these lines, which a DO names, and those after it
abbrev pub first_called : Context → ℕ → List Text → Act Completion
first_called x n [] = give Go_on
first_called x n (text ∷ rest) = charge >> line_entered x n text

abbrev pub called_from : Context → Option ℕ → Act Completion
called_from x None = give Go_on
called_from x (Some n) = first_called x n (drop n x.position.level.copy)

abbrev pub lines_called : Context → Act Completion
lines_called x = called_from x x.position.level.next

-- What follows a line of a level. GOTO goes on with the line that it names, in the same level.
abbrev pub after_level : Context → Completion → Act Completion
after_level x Go_on = lines_next x
after_level x Skips = lines_next x
after_level x Quits = give Go_on
after_level x (Goes t) = lines_next (at_level x (record x.position.level { copy = t.copy; next = Some t.line }))
after_level x (Returns v) = give (Returns v)

-- ---- levels that DO, functions and XECUTE open

-- a value that a level is left with is wanted of a function alone, which cannot do without
abbrev pub closed : Closing → Completion → Act Completion
closed (answers b) (Returns v) = closing (answers b) >> give (Returns v)
closed (answers b) s = fail M17
closed c (Returns v) = fail M16
closed c s = closing c >> give s

-- what is done in a level of its own, once its scope is there; the level then closes
abbrev pub in_level : Context → Level → Closing → (Locals → Locals) → (Context → Act Completion) → Act Completion
in_level x l c begins act = with_locals begins >> (act (record x { position = deeper c x.position l }) >>= closed c)

-- the lines from the one that an entry names on, in a level with the formal parameters of that line, for what these actuals handed over
abbrev pub entering : Context → EntryTree → ActualsTree → List Binding → Closing → Act Completion
entering x e xs bs c = do
  a_level_free x.position.depth
  t ← target x.position.level.copy 0 e
  names ← formals_of_target t
  formals ← formals_for xs names bs
  in_level x (record { copy = t.copy; next = Some t.line; dots = 0 }) c (with_formals formals) lines_called

-- the value that a function's level is left with, which no other completion of it lacks
abbrev pub returned_value : Completion → Act Text
returned_value (Returns v) = give v
returned_value s = fail M17

-- a function, once its actuals are evaluated
abbrev pub answer : Context → EntryTree → List Binding → Bool → Act Text
answer x e bs b = do
  s ← entering x e bare_list bs (answers b)
  returned_value s

-- a function: $TEST is afterwards what it was before its actuals, and the naked indicator is not
abbrev pub answering : Context → Depth → EntryTree → Act (List Binding) → Act Text
answering x d e hands = do
  b ← test_is
  bs ← hands
  answer (at_depth x d) e bs b

-- an expression of a line may call functions, however deep it is in indirections
abbrev pub inside_of : Context → Inside
inside_of x = record (inside x.account x.fuel x.position.depth) { calls = answering x }

-- the actuals come first, so what they do stands even if there is no such line
abbrev pub calling : Context → EntryTree → ActualsTree → Closing → Act Completion
calling x e xs c = do
  bs ← handed_over (inside_of x) xs
  entering x e xs bs c

-- DO with an argument
abbrev pub doing : Context → EntryTree → ActualsTree → Act Completion
doing x e xs = calling x e xs leaves

-- argumentless DO: the lines after this one that have one dot more
abbrev pub doing_block : Context → Act Completion
doing_block x = do
  a_level_free x.position.depth
  b ← test_is
  in_level x (record x.position.level { dots = x.position.level.dots + 1 }) (restores b) level_begun lines_next

-- XECUTE: a text, whose labels are sought where those of its line are
abbrev pub text_executed : Context → Text → Act Completion
text_executed x text = do
  a_level_free x.position.depth
  l ← read_so Zsyntax (λ n. line_in n text)
  in_level x (record { copy = x.position.level.copy; next = None; dots = 0 }) leaves level_begun (λ y. y.texts.enter y.position (commands_of l))

abbrev pub executing : Context → ExprTree → Act Completion
executing x e = do
  text ← value (inside_of x) e
  text_executed x text

-- GOTO: a line with as many dots as the level
abbrev pub going : Context → EntryTree → Act Completion
going x e = do
  t ← target x.position.level.copy x.position.level.dots e
  give (Goes t)

-- ---- FOR

-- the index as a number; it may have been killed meanwhile
abbrev pub index_number : Text → Act ℤ
index_number index = do
  found ← found_at (at_local index [])
  x ← give_some M15 found
  as_number x

abbrev pub number_of : Inside → ExprTree → Act ℤ
number_of i e = do
  x ← value i e
  as_number x

-- HANG: a line waits for nothing, so that it is answered alike whenever it is run; what is evaluated has to be a number all the same
abbrev pub hanging : Inside → ExprTree → Act (Unit {0})
hanging i e = do
  seconds ← number_of i e
  give tt

-- a turn costs a step, once its index is set
abbrev pub begin_turn : Context → Turning → Act Completion
begin_turn x t = charge >> x.texts.turn x.position t

-- with this text as index
abbrev pub turn_with : Context → Text → Turning → Act Completion
turn_with x index t = put_at (at_local t.index []) index >> begin_turn x t

-- the turns of these parameters: each is evaluated when it is reached
abbrev pub next_parameter : Context → Text → List CommandTree → List ParameterTree → Act Completion
next_parameter x index body [] = give Skips
next_parameter x index body (once e ∷ rest) = do
  a ← value (inside_of x) e
  turn_with x a (record { index = index; course = last_turn; parameters = rest; body = body })
next_parameter x index body (onward e by ∷ rest) = do
  a ← number_of (inside_of x) e
  b ← number_of (inside_of x) by
  turn_with x (number_text a) (record { index = index; course = endless b; parameters = rest; body = body })
next_parameter x index body (until e by to ∷ rest) = do
  a ← number_of (inside_of x) e
  b ← number_of (inside_of x) by
  c ← number_of (inside_of x) to
  put_at (at_local index []) (number_text a)
  cond (is_past b a c) (next_parameter x index body rest) (begin_turn x (record { index = index; course = limited b c; parameters = rest; body = body }))

-- one more turn, with the increment added
abbrev pub stepped : Context → Turning → ℤ → ℤ → Act Completion
stepped x t n by = do
  next ← as_text (sum_of n by)
  turn_with x next t

abbrev pub after_course : Context → Turning → Course → Act Completion
after_course x t last_turn = next_parameter x t.index t.body t.parameters
after_course x t (endless by) = do
  n ← index_number t.index
  stepped x t n by
after_course x t (limited by limit) = do
  n ← index_number t.index
  cond (is_past by (n +ℤ by) limit) (next_parameter x t.index t.body t.parameters) (stepped x t n by)
after_course x t forever = begin_turn x t

-- QUIT ends the FOR with all its parameters; the rest of the line was the FOR's. No value is wanted of a turn.
abbrev pub after_turn : Context → Turning → Completion → Act Completion
after_turn x t Go_on = after_course x t t.course
after_turn x t Skips = after_course x t t.course
after_turn x t Quits = give Skips
after_turn x t (Goes g) = give (Goes g)
after_turn x t (Returns v) = fail M16

abbrev pub turns_forever : Context → List CommandTree → Act Completion
turns_forever x body = begin_turn x (record { index = []; course = forever; parameters = []; body = body })

-- ---- commands

-- if its own condition holds
abbrev pub where_holds : Context → Option ExprTree → Act Completion → Act Completion
where_holds x c p = do
  b ← holds (inside_of x) c
  cond b p (give Go_on)

-- arguments that this text gives. The indirection stays open until the last of them is done, a DO or an XECUTE among them too.
abbrev pub given_by : Context → FormTree → Text → Act Completion
given_by x f text = do
  an_indirection_free x.position.depth
  args ← read_so Zsyntax (λ n. args_in f n text)
  x.texts.list (within_indirection x.position) args

abbrev pub given : Context → FormTree → PrimaryTree → Act Completion
given x f p = do
  text ← primary_value (inside_of x) p
  given_by x f text

-- what an argument does, of whichever command; that of FOR takes the rest of the line, and is done elsewhere
abbrev pub argument : Context → ArgTree → Act Completion
argument x (assign d e) = setting (inside_of x) d e >> give Go_on
argument x (formats run tab) = formatting (inside_of x) run tab >> give Go_on
argument x (coded e) = coding (inside_of x) e >> give Go_on
argument x (shown e) = showing (inside_of x) e >> give Go_on
argument x (kill_one r) = killing (inside_of x) r >> give Go_on
argument x (kill_others names) = with_locals (killed_except names) >> give Go_on
argument x (new_one name) = with_locals (newed (name ∷ [])) >> give Go_on
argument x (new_others names) = with_locals (newed_except names) >> give Go_on
argument x (tested e) = testing (inside_of x) e
argument x (loop index parameters) = give Go_on
argument x (do_one e xs c) = where_holds x c (doing x e xs)
argument x (go_to e c) = where_holds x c (going x e)
argument x (executed e c) = where_holds x c (executing x e)
argument x (locked k names t) = locking (inside_of x) k names t >> give Go_on
argument x (hang_for e) = hanging (inside_of x) e >> give Go_on
argument x (returned e) = returning (inside_of x) e
argument x (merge_one target source) = merging (inside_of x) target source >> give Go_on
argument x (indirect_args f p) = given x f p

abbrev pub arguments : Context → List ArgTree → Act Completion
arguments x [] = give Go_on
arguments x (a ∷ rest) = argument x a >>= (λ s. after s (arguments x rest))

-- a command without arguments, before the rest of its line: KILL and NEW affect all variables, LOCK gives up all names, DO does a block,
-- and those that need some do nothing
abbrev pub bare : Context → KeywordTree → List CommandTree → Act Completion
bare x set_word rest = give Go_on
bare x kill_word rest = with_locals (killed_except []) >> give Go_on
bare x new_word rest = with_locals (newed_except []) >> give Go_on
bare x if_word rest = do
  b ← test_is
  give (where_true b)
bare x else_word rest = do
  b ← test_is
  give (where_true (not b))
bare x for_word rest = turns_forever x rest
bare x quit_word rest = give Quits
bare x write_word rest = give Go_on
bare x do_word rest = doing_block x
bare x goto_word rest = give Go_on
bare x execute_word rest = give Go_on
bare x lock_word rest = ask Release >> give Go_on
bare x merge_word rest = give Go_on
bare x halt_word rest = fail Halting
bare x hang_word rest = give Go_on
bare x halt_or_hang_word rest = fail Halting

-- a command, before the rest of its line, which FOR does in its turns
abbrev pub effect : Context → KeywordTree → List ArgTree → List CommandTree → Act Completion
effect x k [] rest = bare x k rest
effect x k (loop index parameters ∷ more) rest = next_parameter x index rest parameters
effect x k (a ∷ more) rest = arguments x (a ∷ more)

-- if its condition holds
abbrev pub conditional : Context → CommandTree → List CommandTree → Act Completion
conditional x c rest = where_holds x c.condition (effect x c.keyword c.args rest)

-- a command's word costs a step, before the command is done
abbrev pub commands : Context → List CommandTree → Act Completion
commands x [] = give Go_on
commands x (c ∷ rest) = charge >> (conditional x c rest >>= (λ s. after s (commands x rest)))

-- ---- texts

-- with at most this many texts
abbrev pub texts : Text → ℕ → Texts
texts a zero = record { turn = λ _ _. fail Zsteps; list = λ _ _. fail Zsteps; enter = λ _ _. fail Zsteps }
texts a (suc n) =
    let at : Position → Context = λ p. record { account = a; fuel = n; position = p; texts = texts a n } in
    record {
      turn = λ p t. commands (at p) t.body >>= after_turn (at p) t;
      list = λ p args. arguments (at p) args;
      enter = λ p cs. commands (at p) cs >>= after_level (at p);
    }

abbrev pub context : Text → ℕ → Position → Context
context a n p = record { account = a; fuel = n; position = p; texts = texts a n }

-- as many texts can be entered as there are steps, since each costs one; no value is wanted of a terminal's line
abbrev pub run_within : Text → ℕ → List CommandTree → Act Completion
run_within a n cs = (texts a (suc n)).enter top_level cs >>= closed stays

abbrev pub run : Text → LineTree → Act Completion
run a l s = run_within a s.steps (commands_of l) s
