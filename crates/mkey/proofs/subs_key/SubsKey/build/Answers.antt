-- SPDX-License-Identifier: Apache-2.0
use Rattle.mkey.proofs.KeyWords.{◌++◌, ◌∙◌, ap, subscripts_bytes, significant_digits, one_list}
use Rattle.mkey.proofs.SubsKeys.{key_of_subs}
use Rattle.mkey.proofs.subs_key.SubsKey.build.Goals as goal

pub returns-clause-key : goal.returns-clause-key
returns-clause-key c =
    one_list c.of_bytes.result c.args.subs.now _ c.of_bytes.ensures
    (key_of_subs c.args.subs.now _ (c.requires, c.values_room.ensures.ascii) (c.in_ok-push_values.ensures ∙ ap (λ b. b ++ subscripts_bytes significant_digits c.args.subs.now) c.in_ok-bytes.ensures.items))
