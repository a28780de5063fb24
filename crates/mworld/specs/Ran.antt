-- SPDX-License-Identifier: Apache-2.0
-- What a call that runs a text over a session says of the text's meaning.
use Rattle.std.specs.Prelude.{◌≡◌, ℕ, []}
use Rattle.mspec.specs.Access.{Settings, name_at, steps_at, language_at}
use Rattle.mspec.specs.LockConflict.{Locks}
use Rattle.mspec.specs.Act.{Text, level_begun, Given, given_to}
use Rattle.mgrammar.specs.Languages.{line_in}
use Rattle.mmeaning.specs.Transition.{text_run}
use Rattle.mmeaning.specs.Calls.{Standing, point}
use Rattle.mnodes.specs.Over.{DoubtsOver}
use Rattle.mnodes.specs.Steady.{IsSteady}
use Rattle.mnodes.specs.declared.store.NodeStore.{Ghosts}
use Rattle.meval.specs.Sessions.{cursor_of}
use Rattle.meval.specs.declared.session.Session.{Session}
use Rattle.mexec.specs.Runs.{EndsBy, is_kept_by}
use Rattle.mworld.specs.declared.reply.Reply.{Reply}
use Rattle.mworld.specs.View.{shared}

-- what a line of a terminal of the account at a place is given
abbrev pub given_at : Settings → (terminal place : ℕ) → Given
given_at settings terminal place = given_to terminal (language_at settings place)

-- a line of a terminal of that account
abbrev pub standing_at : Settings → (terminal place : ℕ) → Standing
standing_at settings terminal place = record { settings = settings; terminal = terminal; account = name_at settings place; given = given_at settings terminal place }

-- the reply is that of the text, as a level of its own, with the steps and in the language of the account at this place
pub record Ran {S : Type 0} (g : Ghosts S) (settings : Settings) (terminal place : ℕ) (text : Text) (session : Session) (store : S) (locks : Locks) (reply : Reply) (session' : Session) (store' : S) (locks' : Locks) : Type 0 where
  pub left : ℕ
  pub doubt : DoubtsOver g store store' (is_kept_by reply.ending)
  pub at :
      g.doubt store' ≡ 0 →
      EndsBy (standing_at settings terminal place) (IsSteady g store') (text_run (name_at settings place) (line_in (language_at settings place) text))
      (point (level_begun session.locals) session.naked session.test (cursor_of session.cursor) [] (steps_at settings place) (given_at settings terminal place) (shared g store locks)) reply.ending
      (point session'.locals session'.naked session'.test (cursor_of session'.cursor) reply.out.items left (given_at settings terminal place) (shared g store' locks'))
