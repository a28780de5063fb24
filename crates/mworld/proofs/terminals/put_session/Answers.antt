-- SPDX-License-Identifier: Apache-2.0
use Rattle.mworld.proofs.WorldWords.{map, sym, ap, ◌∙◌, nat_cmp, from_entries, session_of, sessions_of}
use Rattle.std.proofs.lemmas.Result.{err_from_is_err_and}
use Rattle.mworld.proofs.Sessions.{begun_at, others_kept, remove-none}
use Rattle.mworld.proofs.terminals.put_session.Goals as goal

pub returns-clause-session : goal.returns-clause-session
returns-clause-session c = begun_at c.args.terminal c.args.sessions.now c.insert.new.self c.new.result c.in_ok-insert.ensures.updates c.new.ensures c.requires

pub returns-clause-others : goal.returns-clause-others
returns-clause-others c = others_kept c.args.terminal c.args.sessions.now c.insert.new.self c.new.result c.in_ok-insert.ensures.updates

pub returns-in_err-insert-clause-none : goal.returns-in_err-insert-clause-none
returns-in_err-insert-clause-none c =
    let p = err_from_is_err_and c.from_residual.result c.from_residual.ensures.1 in
    rw p.1
    (ap (λ es. from_entries {R = nat_cmp} (map (λ e. (e.0, session_of e.1)) es)) c.in_err-insert.ensures.err
    ∙ sym (remove-none (sessions_of c.args.sessions.now) c.args.terminal c.requires))
