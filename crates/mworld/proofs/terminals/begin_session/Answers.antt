-- SPDX-License-Identifier: Apache-2.0
use Rattle.mworld.proofs.WorldWords.{sym, ◌∙◌}
use Rattle.mworld.proofs.Sessions.{had_one, had_none}
use Rattle.mworld.proofs.terminals.begin_session.Goals as goal

pub returns-then-contains_key-clause-session : goal.returns-then-contains_key-clause-session
returns-then-contains_key-clause-session c = had_one c.args.terminal c.args.sessions.now (sym c.if-contains_key.true ∙ c.contains_key.ensures)

pub put_session-requires : goal.put_session-requires
put_session-requires c = had_none c.args.terminal c.args.sessions.now (sym c.if-contains_key.false ∙ c.contains_key.ensures)
