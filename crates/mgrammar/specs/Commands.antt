-- SPDX-License-Identifier: Apache-2.0
-- The commands, one row each: the word, its first letter, the form of its arguments, how many there may be at least and at most, whether
-- a `postcond` may follow the word, and the first language that has the command.
--
-- Restates "Command definitions" of ISO/IEC 11756:1999, of those that some language has. `H` without arguments is HALT, and with some it is
-- HANG: so it has a row of its own, which has no other word, and each of the two has its whole word alone.
use Rattle.std.specs.Prelude.{ℕ, Bool, true, false, ◌&&◌, nat_le, if◌then◌else◌, Option, Some, None, List, [], ◌∷◌, codes}
use Rattle.mgrammar.specs.Grammar.{is_at_most, is_either, KeywordTree, set_word, kill_word, new_word, if_word, else_word, for_word, quit_word, write_word}
use Rattle.mgrammar.specs.Grammar.{do_word, goto_word, execute_word, lock_word, merge_word, halt_word, hang_word, halt_or_hang_word}
use Rattle.mgrammar.specs.Grammar.{FormTree, set_argument, kill_argument, new_argument, if_argument, for_argument, write_argument, do_argument, goto_argument}
use Rattle.mgrammar.specs.Grammar.{xecute_argument, lock_argument, hang_argument, quit_argument, merge_argument, no_argument}

pub record CommandRow : Type 0 where
  pub short : List ℕ
  pub whole : List ℕ
  pub form : FormTree
  pub least : ℕ
  pub most : Option ℕ
  pub is_conditioned : Bool
  pub since : ℕ

abbrev row : List ℕ → List ℕ → FormTree → ℕ → Option ℕ → Bool → ℕ → CommandRow
row short whole form least most is_conditioned since =
    record { short = short; whole = whole; form = form; least = least; most = most; is_conditioned = is_conditioned; since = since }

abbrev pub command_row : KeywordTree → CommandRow
command_row set_word = row (codes "s") (codes "set") set_argument 1 None true 0
command_row kill_word = row (codes "k") (codes "kill") kill_argument 0 None true 0
command_row new_word = row (codes "n") (codes "new") new_argument 0 None true 0
command_row if_word = row (codes "i") (codes "if") if_argument 0 None false 0
command_row else_word = row (codes "e") (codes "else") no_argument 0 (Some 0) false 0
command_row for_word = row (codes "f") (codes "for") for_argument 0 (Some 1) false 0
command_row quit_word = row (codes "q") (codes "quit") quit_argument 0 (Some 1) true 0
command_row write_word = row (codes "w") (codes "write") write_argument 1 None true 0
command_row do_word = row (codes "d") (codes "do") do_argument 0 None true 0
command_row goto_word = row (codes "g") (codes "goto") goto_argument 1 None true 0
command_row execute_word = row (codes "x") (codes "xecute") xecute_argument 1 None true 0
command_row lock_word = row (codes "l") (codes "lock") lock_argument 0 None true 0
command_row merge_word = row (codes "m") (codes "merge") merge_argument 1 None true 1
command_row halt_word = row (codes "halt") (codes "halt") no_argument 0 (Some 0) true 0
command_row hang_word = row (codes "hang") (codes "hang") hang_argument 1 None true 1
command_row halt_or_hang_word = row (codes "h") (codes "h") hang_argument 0 None true 0

-- those that there are
abbrev pub keywords : List KeywordTree
keywords =
    set_word ∷ kill_word ∷ new_word ∷ if_word ∷ else_word ∷ for_word ∷ quit_word ∷ write_word ∷ do_word ∷ goto_word ∷ execute_word ∷ lock_word ∷
    merge_word ∷ halt_word ∷ hang_word ∷ halt_or_hang_word ∷ []

abbrev pub keyword_named : List ℕ → List KeywordTree → Option KeywordTree
keyword_named w [] = None
keyword_named w (k ∷ ks) = if is_either (command_row k).short (command_row k).whole w then Some k else keyword_named w ks

-- `commandword`: the whole word or its first letter
unfoldable pub keyword_of : List ℕ → Option KeywordTree
keyword_of w = keyword_named w keywords

abbrev pub form_of : KeywordTree → FormTree
form_of k = (command_row k).form

-- whether a command takes this many arguments
abbrev pub takes_args : KeywordTree → ℕ → Bool
takes_args k n = nat_le (command_row k).least n && is_at_most (command_row k).most n

-- whether a `postcond` may follow its word
abbrev pub takes_condition : KeywordTree → Bool
takes_condition k = (command_row k).is_conditioned

-- the first language that has the command with this many arguments: QUIT has its value later
abbrev pub since_keyword : KeywordTree → ℕ → ℕ
since_keyword quit_word n = if nat_le 1 n then 1 else 0
since_keyword halt_or_hang_word n = if nat_le 1 n then (command_row hang_word).since else (command_row halt_word).since
since_keyword k n = (command_row k).since
