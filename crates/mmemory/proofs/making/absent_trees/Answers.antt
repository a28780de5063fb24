-- SPDX-License-Identifier: Apache-2.0
use Rattle.mmemory.proofs.MemoryWords.{◌≡◌, ◌++◌, ◌∷◌, [], map, ap, ◌∙◌, map-append, replicate_more, plain, no_plain}
use Rattle.mmemory.proofs.making.absent_trees.Goals as goal

pub loop-preserved : goal.loop-preserved
loop-preserved c =
    let trees = c.loop.trees.items in
    let it = c.absent.result in
    let pushed : map plain c.push.new.self.items ≡ map plain trees ++ plain it ∷ [] = ap (map plain) c.in_ok-push.ensures.items ∙ map-append plain trees (it ∷ []) in
    let none = c.absent.ensures in
    pushed ∙ ap (λ p. map plain trees ++ p ∷ []) none ∙ ap (λ l. l ++ no_plain ∷ []) c.loop.invariant ∙ replicate_more c.loop.counter no_plain
