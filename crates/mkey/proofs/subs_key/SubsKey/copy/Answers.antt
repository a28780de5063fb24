-- SPDX-License-Identifier: Apache-2.0
use Rattle.mkey.proofs.KeyWords.{◌∙◌, sym, each_same, one_list}
use Rattle.mkey.proofs.subs_key.SubsKey.copy.Goals as goal

pub returns : goal.returns
returns c =
    let own = c.self.inside.of_subs in
    one_list c.of_bytes.result own.0 _ c.of_bytes.ensures (own.1.0, own.1.1 ∙ sym (each_same _ _ c.in_ok-clone.ensures.cases.0)) ∙ c.self.view_is
