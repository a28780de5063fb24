-- SPDX-License-Identifier: Apache-2.0
use Rattle.mkey.proofs.KeyWords.{◌∙◌, sym, each_same, one_node}
use Rattle.mkey.proofs.key.NodeKey.copy.Goals as goal

pub returns-clause-key : goal.returns-clause-key
returns-clause-key c =
    let own = c.self.inside.of_node in
    let given = c.result-1.given.0 in
    one_node given.0 own.0 _ given.1.0 own.1.0 given.1.1 (own.1.1 ∙ sym (each_same _ _ c.in_ok-bytes.ensures.cases.0)) ∙ c.self.view_is
