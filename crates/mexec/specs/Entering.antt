-- SPDX-License-Identifier: Apache-2.0
-- Lines and texts that are entered, as the code does it: the place of a line first, then its step, then its commands.
use Rattle.std.specs.Prelude.{ℕ, ◌+◌, Bool, false, cond, nat_lt, ◌==◌, List, [], ◌∷◌, drop, Option, Some, None}
use Rattle.mspec.specs.Scopes.{Binding}
use Rattle.mspec.specs.Code.{Zsyntax}
use Rattle.mspec.specs.Act.{Text, Act, level_begun, ◌>>=◌, ◌>>◌, give, read_so, in_language, charge}
use Rattle.mgrammar.specs.Grammar.{ActualsTree, LineTree}
use Rattle.mgrammar.specs.Languages.{line_in}
use Rattle.mgrammar.specs.RoutineLine.{BodyTree, short, spaced_out, dots_of}
use Rattle.mmeaning.specs.Expression.{Depth}
use Rattle.mmeaning.specs.Levels.{Position, Target, Closing, leaves, commands_of}
use Rattle.mmeaning.specs.Parameters.{formals_of_target, formals_for}
use Rattle.mmeaning.specs.LineMeaning.{Completion, Context, line_entered, line_reached, closed, in_level}
use Rattle.mmeaning.specs.Frames.{View, Rests, Levels}

-- the place of the line that is entered, if these are the lines from a place on; none if the level ends
abbrev pub reached : ℕ → ℕ → List Text → Act (Option ℕ)
reached dots n [] = give None
reached dots n (text ∷ rest) =
    in_language (λ l. cond (nat_lt dots (dots_of l text)) (charge >> reached dots (n + 1) rest) (give (cond (dots_of l text == dots) (Some n) None)))

-- from the line that comes next on
abbrev pub next_reached : ℕ → List Text → Option ℕ → Act (Option ℕ)
next_reached dots copy None = give None
next_reached dots copy (Some n) = reached dots n (drop n copy)

-- a line does what it does, once its step is spent, and then its level closes or goes on
abbrev pub line_then : Context → Closing → ℕ → Text → Act Completion
line_then x c n text = line_entered x n text >>= closed c

-- the line that a DO names is entered
abbrev pub entering : Context → Closing → ℕ → Text → Act Completion
entering x c n text = charge >> line_then x c n text

-- one that no DO names is
abbrev pub reaching : Context → Closing → ℕ → Text → Act Completion
reaching x c n text = charge >> (line_reached x n text >>= closed c)

-- the same level, with another line coming next
abbrev pub at_next : Position → ℕ → Position
at_next p n = record p { level = record p.level { next = Some n } }

-- and where a GOTO leads
abbrev pub at_target : Position → Target → Position
at_target p t = record p { level = record p.level { copy = t.copy; next = Some t.line } }

-- one level deeper, of which a value is wanted or not
abbrev pub one_level_deeper : Bool → Depth → Depth
one_level_deeper wanted d = record { levels = d.levels + 1; indirections = d.indirections; wants_value = wanted }

-- of which none is
abbrev pub level_deeper : Depth → Depth
level_deeper = one_level_deeper false

-- the formal parameters of the line that a DO names, for what its actuals hand over
abbrev pub formals_handed : Target → ActualsTree → List Binding → Act (Option (List (Text × Binding)))
formals_handed t xs bs = do
  names ← formals_of_target t
  formals_for xs names bs

-- the same level, at this depth
abbrev pub so_deep : Depth → Position → Position
so_deep depth p = record { depth = depth; level = p.level }

-- a text of XECUTE is in a level at this depth that has the lines of its own level
abbrev pub text_position : Depth → Position → Position
text_position depth p = record { depth = depth; level = record { copy = p.level.copy; next = None; dots = 0 } }

-- once its tree is known
abbrev pub tree_entered : Context → LineTree → Act Completion
tree_entered x l =
    in_level x (record { copy = x.position.level.copy; next = None; dots = 0 }) leaves level_begun (λ y. y.texts.enter y.position (commands_of l))

-- a text of XECUTE is read and entered
abbrev pub text_entered : Context → Text → Act Completion
text_entered x text = read_so Zsyntax (λ l. line_in l text) >>= tree_entered x

-- what comes after a label, on top of its level
abbrev pub on_body : Position → Closing → BodyTree → List View → List View
on_body p c (short comment) fs = Levels p c ∷ fs
on_body p c (spaced_out dots l) fs = Rests p (commands_of l) ∷ Levels p c ∷ fs
