-- SPDX-License-Identifier: Apache-2.0
use Rattle.mhost.proofs.HostWords.{refl, settings_of, seen_of}
use Rattle.mhost.proofs.Ported.{told}
use Rattle.mhost.proofs.serve_job.serve_job.Goals as goal

pub returns-in_default-clause-serves : goal.returns-in_default-clause-serves
returns-in_default-clause-serves g c = (refl, λ t. c.in_default.ensures.taken t refl)

pub returns-in-Ok-clause-serves : goal.returns-in-Ok-clause-serves
returns-in-Ok-clause-serves g c =
    let served =
    told g.S.NodeStore (settings_of c.args.world.now) (seen_of g.S.NodeStore c.args.world.now) (seen_of g.S.NodeStore c.serve_each-served.new.world) g.P.Port.Listener.tells g.P.Ports.tells
    (λ t. c.in-Some.ensures.tells t refl) (g.P.Port.Listener.waiting c.in-Some.listener) (g.P.Port.Listener.waiting c.serve_each-served.new.listener)
    (g.P.Port.Listener.answered c.in-Some.listener) (g.P.Port.Listener.answered c.serve_each-served.new.listener) c.args.connections c.serve_each-served.result
    c.serve_each-served.ensures.served in
    record {
      waiting = g.P.Port.Listener.waiting c.in-Some.listener;
      waiting' = g.P.Port.Listener.waiting c.serve_each-served.new.listener;
      answered = g.P.Port.Listener.answered c.in-Some.listener;
      answered' = g.P.Port.Listener.answered c.serve_each-served.new.listener;
      came = λ t. (c.in-Some.ensures.waiting t, c.in-Some.ensures.answered t);
      went = λ t. (c.close.ensures.waiting t, c.close.ensures.answered t);
      serves = rw c.in-Ok.is at served;
    }

pub returns-in-Err-clause-serves : goal.returns-in-Err-clause-serves
returns-in-Err-clause-serves g c =
    let served =
    told g.S.NodeStore (settings_of c.args.world.now) (seen_of g.S.NodeStore c.args.world.now) (seen_of g.S.NodeStore c.serve_each-served.new.world) g.P.Port.Listener.tells g.P.Ports.tells
    (λ t. c.in-Some.ensures.tells t refl) (g.P.Port.Listener.waiting c.in-Some.listener) (g.P.Port.Listener.waiting c.serve_each-served.new.listener)
    (g.P.Port.Listener.answered c.in-Some.listener) (g.P.Port.Listener.answered c.serve_each-served.new.listener) c.args.connections c.serve_each-served.result
    c.serve_each-served.ensures.served in (
      _,
      record {
        waiting = g.P.Port.Listener.waiting c.in-Some.listener;
        waiting' = g.P.Port.Listener.waiting c.serve_each-served.new.listener;
        answered = g.P.Port.Listener.answered c.in-Some.listener;
        answered' = g.P.Port.Listener.answered c.serve_each-served.new.listener;
        came = λ t. (c.in-Some.ensures.waiting t, c.in-Some.ensures.answered t);
        went = λ t. (c.close.ensures.waiting t, c.close.ensures.answered t);
        serves = rw c.in-Err.is at served;
      },
    )
