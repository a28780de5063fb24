-- SPDX-License-Identifier: Apache-2.0
-- Histories with the worlds between their transitions written out.
use Rattle.std.specs.Prelude.{List, [], ◌∷◌, map}
use Rattle.std.specs.List.{filter}
use Rattle.mspec.specs.Access.{Settings}
use Rattle.mmeaning.specs.Transition.{World, Event, Reply, Transition}
use Rattle.misolation.specs.Reach.{Accounts}
use Rattle.misolation.specs.Cut.{is_inside, cut_world}

-- a line, its reply, and what its transition leaves
pub record Moment : Type 0 where
  pub event : Event
  pub reply : Reply
  pub after : World

-- one transition after another
abbrev pub Trace : Settings → World → List Moment → Type 0
Trace settings world [] = Unit {0}
Trace settings world (m ∷ ms) = Transition settings m.event m.reply world m.after × Trace settings m.after ms

-- the lines with their replies
abbrev pub lines_of : List Moment → List (Event × Reply)
lines_of ms = map (λ m. (m.event, m.reply)) ms

-- what the last transition leaves
abbrev pub left_by : World → List Moment → World
left_by world [] = world
left_by world (m ∷ ms) = left_by m.after ms

abbrev pub cut_moment : Accounts → Settings → Moment → Moment
cut_moment s settings m = record m { after = cut_world s settings m.after }

-- the moments at the members' terminals, with the cuts of what they leave
abbrev pub cut_trace : Accounts → Settings → List Moment → List Moment
cut_trace s settings ms = map (cut_moment s settings) (filter (λ m. is_inside s settings m.event.terminal) ms)
