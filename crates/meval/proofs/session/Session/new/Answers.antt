-- SPDX-License-Identifier: Apache-2.0
use Rattle.meval.proofs.EvalWords.{ap, ◌∙◌, no_locals, Locals}
use Rattle.mspec.specs.Cursor.{Cursor}
use Rattle.mmeaning.specs.Transition.{new_session}
use Rattle.meval.specs.Sessions.{cursor_of}
use Rattle.meval.proofs.session.Session.new.Goals as goal

pub returns : goal.returns
unfolding no_locals
returns c =
    ap (λ (l : Locals). record new_session { locals = l; cursor = cursor_of c.home.result }) c.new.ensures
    ∙ ap (λ (k : Cursor). record new_session { cursor = k }) c.home.ensures
