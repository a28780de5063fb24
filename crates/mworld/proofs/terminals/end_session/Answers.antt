-- SPDX-License-Identifier: Apache-2.0
use Rattle.mworld.proofs.Sessions.{taken_away}
use Rattle.mworld.proofs.terminals.end_session.Goals as goal

pub returns-clause-session : goal.returns-clause-session
returns-clause-session c = taken_away c.args.sessions.now c.remove.new.self c.args.terminal c.remove.ensures.updates
