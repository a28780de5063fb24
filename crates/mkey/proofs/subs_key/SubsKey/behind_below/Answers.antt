-- SPDX-License-Identifier: Apache-2.0
use Rattle.mkey.proofs.KeyWords.{◌++◌, ◌∷◌, [], ◌∙◌, ap, subscripts_bytes, significant_digits, one_list, behind_below, IsSubsKeyOf}
use Rattle.mkey.proofs.SubsKeys.{beyond_key}
use Rattle.mkey.proofs.subs_key.SubsKey.behind_below.Goals as goal

pub of_bytes-requires : goal.of_bytes-requires
of_bytes-requires c =
    let pushed = c.in_ok-push_values.ensures ∙ ap (λ b. b ++ subscripts_bytes significant_digits c.args.subs.now) c.in_ok-bound.ensures.items in
    let all = c.in_ok-extend_from_slice.ensures.items ∙ ap (λ b. b ++ 2 ∷ 255 ∷ 0 ∷ []) pushed in
    let key : IsSubsKeyOf (behind_below c.args.subs.now) c.extend_from_slice.new.self.items = beyond_key c.args.subs.now _ (c.requires, c.values_room.ensures.ascii) all in
    (behind_below c.args.subs.now, key)

pub returns-clause-key : goal.returns-clause-key
unfolding of_bytes-requires
returns-clause-key c =
    let made = of_bytes-requires c.before in
    one_list c.of_bytes.result made.0 c.extend_from_slice.new.self.items c.of_bytes.ensures made.1
