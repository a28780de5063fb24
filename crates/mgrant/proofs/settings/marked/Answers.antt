-- SPDX-License-Identifier: Apache-2.0
use Rattle.mgrant.proofs.GrantWords.{◌≡◌, ◌++◌, [], ◌∷◌, true, false, get_or, sym, ap, ◌∙◌, rules}
use Rattle.mgrant.proofs.IslandsFound.{marked_more, unmarked_more}
use Rattle.mgrant.proofs.settings.marked.Goals.{then-marks-place+in_ok-push, else-marks-place}

pub loop-place-preserved : Rattle.mgrant.proofs.settings.marked.Goals.loop-place-preserved
loop-place-preserved c =
    let marks = c.args.marks.now in
    let k = c.loop-place.place in
    elim c.if-marks-place.branch [
      | then-marks-place+in_ok-push w ↦
          let on : get_or marks k false ≡ true = search rules in
          let pushed : c.if-marks-place.ids.items ≡ c.loop-place.ids.items ++ k ∷ [] = search rules in
          pushed ∙ ap (λ xs. xs ++ k ∷ []) c.loop-place.invariant ∙ sym (marked_more marks k on)
      | else-marks-place w ↦
          let off : get_or marks k false ≡ false = search rules in
          let same : c.if-marks-place.ids.items ≡ c.loop-place.ids.items = search rules in
          same ∙ c.loop-place.invariant ∙ sym (unmarked_more marks k off)
    ]
