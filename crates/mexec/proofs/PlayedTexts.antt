-- SPDX-License-Identifier: Apache-2.0
-- What a text is read as in a language that there is, and the commands and the arguments in it: each call of a function in them stands where it
-- can be carried out a step at a time.
use Rattle.mexec.proofs.ExecWords.{◌≡◌, ◌≤◌, ◌<◌, ◌-◌, ℕ, zero, suc, Bool, true, false, List, [], ◌∷◌, map, length, get_or, slice_get, Some, refl, arith, drop}
use Rattle.mexec.proofs.ExecWords.{commands_from, Line, line_tree, arg_tree, command_tree, spaced_tree, line_in, routine_line_in, args_before, source_args}
use Rattle.std.specs.Prelude.{◌&&◌}
use Rattle.std.specs.List.{list_any, list_all}
use Rattle.mgrammar.specs.CallsIn.{has_call_arg, has_call_spaced, has_call_line}
use Rattle.mgrammar.specs.ProgramsIn.{in_steps_optional, in_steps_arg, in_steps_args, in_steps_spaced, in_steps_line}
use Rattle.mgrammar.specs.Languages.{since_line, since_formals, since_body}
use Rattle.mgrammar.proofs.ReadingLanguages.{reads_its_tree_in, reads_its_routine_tree_in}
use Rattle.mtree.specs.Tree.{IsCounted, IsBodyCounted, body_tree, routine_line_tree}
use Rattle.mtree.specs.declared.tree.Arg.{Arg}
use Rattle.mtree.specs.declared.tree.Body.{Body}
use Rattle.mtree.specs.declared.tree.Body.TheVariants as body
use Rattle.mtree.specs.declared.tree.RoutineLine.{RoutineLine}
use Rattle.mtree.specs.declared.tree.Spaced.{Spaced}
use Rattle.mexec.specs.Frames.{source_since}
use Rattle.mexec.specs.Loops.{args_of}
use Rattle.mexec.specs.Uncalled.{IsPlayed, IsBodyPlayed, in_steps_command}
use Rattle.mexec.specs.declared.source.Source.{Source}
use Rattle.mexec.specs.declared.source.Source.TheVariants as source
use Rattle.mgrammar.proofs.ProfileCalls.{profile_has_no_call}
use Rattle.mgrammar.proofs.StepsEarly.{first_is_in_steps}
use Rattle.mgrammar.proofs.StepsUncalled.{both}
use Rattle.mmeaning.proofs.ProgramSteps.{each_of}

-- ---- texts

pub line_played : (language : ℕ) (text : List ℕ) (l : Line) → language ≤ 1 → line_in language text ≡ Some (line_tree l) → IsCounted l → IsPlayed l
line_played language text l known e counted =
    let read = (reads_its_tree_in language text (line_tree l)).0 e in
    let since = read.2 in
    (counted, omega (arith, known, since, counted))

body_played : (b : Body) → IsBodyCounted b → since_body (body_tree b) ≤ 1 → IsBodyPlayed b
body_played (body.Short comment) counted early = tt
body_played (body.Spaced dots l) counted early = (counted, rw counted early)

pub routine_line_played : (language : ℕ) (text : List ℕ) (l : RoutineLine) → language ≤ 1 → routine_line_in language text ≡ Some (routine_line_tree l)
    → IsBodyCounted l.body → IsBodyPlayed l.body
routine_line_played language text l known e counted =
    let read = (reads_its_routine_tree_in language text (routine_line_tree l)).0 e in
    let since = read.2 in
    body_played l.body counted (omega (arith, known, since))

-- ---- what is in them

-- one of a list
pub one_stepped : {A B : Type 0} (is : B → Bool) (tree : A → B) (all : List A) (k : ℕ) (x : A) → k < length all → x ≡ get_or all k x
    → list_all is (map tree all) ≡ true → is (tree x) ≡ true
one_stepped is tree [] k x less at h = absurd (omega arith)
one_stepped is tree (y ∷ all) zero x less at h = rw at (each_of (is (tree y)) (list_all is (map tree all)) h).0
one_stepped is tree (y ∷ all) (suc k) x less at h = one_stepped is tree all k x (omega arith) at (each_of (is (tree y)) (list_all is (map tree all)) h).1

-- those from one on
pub rest_stepped : {A B : Type 0} (is : B → Bool) (tree : A → B) (all : List A) (k : ℕ) → list_all is (map tree all) ≡ true
    → list_all is (map tree (drop k all)) ≡ true
rest_stepped is tree [] zero h = refl
rest_stepped is tree [] (suc k) h = refl
rest_stepped is tree (x ∷ all) zero h = h
rest_stepped is tree (x ∷ all) (suc k) h = rest_stepped is tree all k (each_of (is (tree x)) (list_all is (map tree all)) h).1

-- the commands of a line from one on
from_stepped : (all : List Spaced) (k : ℕ) → list_all in_steps_spaced (map spaced_tree all) ≡ true
    → list_all in_steps_command (map (λ c. c.0) (map spaced_tree (drop k all))) ≡ true
from_stepped [] zero h = refl
from_stepped [] (suc k) h = refl
from_stepped (x ∷ all) zero h =
    let here = each_of (in_steps_spaced (spaced_tree x)) (list_all in_steps_spaced (map spaced_tree all)) h in
    both (in_steps_spaced (spaced_tree x)) (list_all in_steps_command (map (λ c. c.0) (map spaced_tree all))) here.0 (from_stepped all zero here.1)
from_stepped (x ∷ all) (suc k) h = from_stepped all k (each_of (in_steps_spaced (spaced_tree x)) (list_all in_steps_spaced (map spaced_tree all)) h).1

-- the arguments of a command of a line
args_stepped : (at : ℕ) (commands : List Spaced) → list_all in_steps_spaced (map spaced_tree commands) ≡ true
    → list_all in_steps_arg (map arg_tree (args_of (slice_get commands at))) ≡ true
args_stepped at [] h = refl
args_stepped zero (x ∷ commands) h =
    let one = (each_of (in_steps_spaced (spaced_tree x)) (list_all in_steps_spaced (map spaced_tree commands)) h).0 in
    (each_of (in_steps_optional (command_tree x.command).condition) (in_steps_args (command_tree x.command).args) one).1
args_stepped (suc at) (x ∷ commands) h =
    args_stepped at commands (each_of (in_steps_spaced (spaced_tree x)) (list_all in_steps_spaced (map spaced_tree commands)) h).1

-- a line as a whole
pub played_stepped : (l : Line) → IsPlayed l → in_steps_line (line_tree l) ≡ true
played_stepped l played = first_is_in_steps (line_tree l) (let counted = played.0 in let early = played.1 in omega (arith, counted, early))

pub played_plain : (l : Line) → IsPlayed l → l.since ≡ 0 → has_call_line (line_tree l) ≡ false
played_plain l played none = profile_has_no_call (line_tree l) (let counted = played.0 in omega (arith, counted, none))

pub before_stepped : (l : Line) (at : ℕ) → IsPlayed l → list_all in_steps_arg (map arg_tree (args_before l at)) ≡ true
before_stepped l at played = args_stepped (at - 1) l.commands.items (played_stepped l played)

pub commands_stepped : (l : Line) (at : ℕ) → IsPlayed l → list_all in_steps_command (commands_from l at) ≡ true
commands_stepped l at played = from_stepped l.commands.items at (played_stepped l played)

pub source_stepped : (s : Source) → list_all in_steps_arg (map arg_tree (source_args s)) ≡ true
source_stepped (source.Line behind) = before_stepped behind.now.line.value behind.now.at behind.now.played
source_stepped (source.Text given) = given.now.value.stepped
