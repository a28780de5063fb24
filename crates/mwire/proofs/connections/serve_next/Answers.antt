-- SPDX-License-Identifier: Apache-2.0
use Rattle.mwire.proofs.WireWords.{sym, ap, ◌∙◌, map, Some, [], ◌∷◌, ◌++◌}
use Rattle.mwire.proofs.Visits.{none_served, one_served}
use Rattle.mwire.proofs.connections.serve_next.Goals as goal

pub returns-in-Err-clause-served : goal.returns-in-Err-clause-served
returns-in-Err-clause-served g c = none_served _ _ _ _ _ _ _ _ _ c.in-Err.ensures.nobody c.in-Err.ensures.answered

pub returns-clause-served : goal.returns-clause-served
returns-clause-served g c =
    let accepted = c.in-Ok.ensures in
    one_served _ _ _ _ _ _ _ _ _ _ _ (g.L.Listener.waiting c.accept.new.self) _ _ (g.L.Listener.answered c.accept.new.self) _ c.serve-outcome.ensures.serves
    (λ t. accepted.came t ∙ ap (λ (r : _). g.L.Reader.Read.remaining r ∷ map Some (g.L.Listener.waiting c.accept.new.self)) (sym c.new-reader.ensures.inner))
    c.close.ensures.waiting
    (λ t. ap g.L.Writer.Write.contents c.new-writer.ensures.inner ∙ accepted.fresh t)
    accepted.answered
    (λ t. c.close.ensures.went t ∙ ap (λ (w : _). map Some (g.L.Listener.answered c.accept.new.self) ++ g.L.Writer.Write.contents w ∷ []) c.into_inner-2.ensures)
