-- SPDX-License-Identifier: Apache-2.0
use Rattle.mlocal.proofs.LocalLaws.{◌≤◌, ◌<◌, get_or, length, ap, ◌∙◌, sym, arith, kill-step, kill-done}
use Rattle.mlocal.proofs.scopes.spare.Goals as goal

pub loop-place-preserved : goal.loop-place-preserved
loop-place-preserved c =
    let at : c.loop-place.place < length c.args.levels.now.items = omega arith in
    kill-step c.args.names.now c.args.levels.now.items c.loop-place.levels.items c.loop-place.place c.replace-level.result c.replace-level.new.dest c.keep_spared.new.self c.levels_above.result.now at
    c.loop-place.invariant c.levels_above.ensures (c.replace-level.ensures.value ∙ c.index_mut.ensures.value ∙ ap (get_or c.loop-place.levels.items c.loop-place.place) (sym c.replace-level.ensures.value)) c.keep_spared.ensures

pub returns : goal.returns
returns c =
    let at : length c.loop-place.levels.items ≤ c.loop-place.place = omega arith in
    kill-done c.args.names.now c.args.levels.now.items c.loop-place.levels.items c.loop-place.place at c.loop-place.invariant.1
