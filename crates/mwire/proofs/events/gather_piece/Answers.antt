-- SPDX-License-Identifier: Apache-2.0
use Rattle.mwire.proofs.WireWords.{◌++◌, ◌∷◌, [], append_assoc}
use Rattle.mwire.proofs.Gathers.{Gathered-open}
use Rattle.mwire.proofs.Progresses.{taken_more}
use Rattle.mwire.proofs.events.gather_piece.Goals as goal

pub loop-end-preserved : goal.loop-end-preserved
loop-end-preserved c =
    let i = c.loop-end.invariant in
    record {
      taken = i.taken ++ (c.in-Some.end.now ++ 10 ∷ []);
      whole = taken_more _ _ _ _ _ i.whole c.in-Some.ensures.1;
      gathered = λ past s. rw (← append_assoc past i.taken (c.in-Some.end.now ++ 10 ∷ [])) (c.in_ok-gather_end.ensures (past ++ i.taken) (i.gathered past s));
    }

pub returns : goal.returns
returns c = λ past s.
    let i = c.loop-end.invariant in
    rw (i.whole, ← append_assoc past i.taken c.loop-end.rest.now) (Gathered-open (past ++ i.taken) _ _ c.loop-end.rest.now _ c.in_default.ensures c.extend.ensures (i.gathered past s))
