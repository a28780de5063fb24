-- SPDX-License-Identifier: Apache-2.0
use Rattle.mlocal.proofs.LocalLaws.{Bool, rules, ap, ◌∙◌, nat_list_cmp_total, retain_keys, Text, stays, names_exact, retain_same, retain-hash_map_of}
use Rattle.mlocal.proofs.table.Table.keep_spared.Goals as goal

pub returns : goal.returns
returns c =
    let p : Text → Bool = stays c.args.names.now c.args.above.now in
    retain-hash_map_of nat_list_cmp_total names_exact c.self.inside.variables c.retain.new.self p (retain_same _ _ (λ e. p e.0) (λ k v b w g call. search rules) _ _ c.retain.ensures.filtered)
    ∙ ap (λ ts. retain_keys ts p) c.self.view_is
