-- SPDX-License-Identifier: Apache-2.0
-- Within a command, whose own step is spent, one text more may be entered than steps are left.
use Rattle.std.proofs.Common.{suc}
use Rattle.mcommand.proofs.CommandWords.{◌≡◌, ◌∷◌, ◌>>=◌, List, Option, Result, Ok, arith, Text, Act, give, Inside, Ghosts, Code, Parts, Does}
use Rattle.meval.specs.Acts.{named_within}
use Rattle.meval.specs.Evaluates.{depth_of}
use Rattle.mcommand.proofs.Calls.{does_gives}
use Rattle.mgrammar.specs.Grammar.{ExprsTree, no_exprs}
use Rattle.mmeaning.specs.Expression.{Depth, finds, indirected}
use Rattle.mmeaning.specs.Programs.{Item, Named, outside}
use Rattle.mmeaning.specs.Variables.{Evaluated}
use Rattle.mcommand.specs.Does.{DoesWithin}
use Rattle.mcommand.specs.Steps.{step_in, named_step, deeper_step, deeper_within}

-- what is done whatever may be entered is done there
pub within_any : {S A X : Type 0} {g : Ghosts S} {p : Inside → Act A} {f : X → A} {old new : Parts S} {r : Result X Code}
    → Does g p f old r new → DoesWithin g p f old r new
within_any d = record {
  at = λ sure. let did = d.at sure in record { at = λ n le. did.at (suc n) (omega arith); fewer = did.fewer };
  doubt = d.doubt;
  keeps = d.keeps;
  depth = d.depth;
}

-- what a text names is one text more
pub within_named : {S X : Type 0} {g : Ghosts S} (subscripts : ExprsTree) (st : List Item) {f : X → Option (List Item)} {old new : Parts S} {r : Result X Code}
    → Does g (λ i. named_step i subscripts st) f old r new → DoesWithin g (λ i. step_in i (Named subscripts) st) f old r new
unfolding finds
within_named subscripts st d = record {
  at = λ sure. d.at sure;
  doubt = d.doubt;
  keeps = d.keeps;
  depth = d.depth;
}

pub within_deeper : {S X : Type 0} {g : Ghosts S} (st : List Item) {f : X → Depth × List Item} {old new : Parts S} {r : Result X Code}
    → Does g (λ i. deeper_within i st) f old r new → DoesWithin g (λ i. deeper_step i st) f old r new
unfolding finds
within_deeper st d = record {
  at = λ sure. d.at sure;
  doubt = d.doubt;
  keeps = d.keeps;
  depth = d.depth;
}

-- ---- an indirection deeper

-- with what is found below the subscripts
abbrev pub gone_deeper : List Item → Inside → Evaluated → Act (Depth × List Item)
gone_deeper st i r = give (indirected i.depth, outside i.depth r ∷ st)

-- once the text is taken
abbrev pub going_deeper : Inside → Text × List Item → Act (Depth × List Item)
going_deeper i v = named_within i no_exprs v.0 >>= gone_deeper v.1 i

pub gives_deeper : {S X : Type 0} {g : Ghosts S} {parts : Parts S} (st : List Item) (r : Evaluated) (f : X → Depth × List Item) (x : X)
    → f x ≡ (indirected (depth_of parts.eval.depth), outside (depth_of parts.eval.depth) r ∷ st)
    → Does g (λ i. gone_deeper st i r) f parts (Ok x) parts
gives_deeper {g = g} {parts = parts} st r f x same =
    let d = depth_of parts.eval.depth in
    let done = does_gives {g = g} {parts = parts} (indirected d, outside d r ∷ st) f x same in
    record {
      at = λ sure. done.at sure;
      doubt = done.doubt;
      keeps = done.keeps;
      depth = done.depth;
    }
