-- SPDX-License-Identifier: Apache-2.0
use Rattle.mlocal.proofs.LocalLaws.{cond, None, ◌||◌, All, take, ap, sym, subst, ◌∙◌, is_eq, keys_of, list_any_more, All-map-remove_entry, subscripts_cmp}
use Rattle.mlocal.proofs.LocalLaws.{significant_digits, AreSomeSubs, is_one_of, one_more}
use Rattle.std.specs.BTreeMap.{get}
use Rattle.mlocal.proofs.subtree.remove_all.Goals as goal

pub loop-key-preserved : goal.loop-key-preserved
loop-key-preserved c =
    let R = subscripts_cmp significant_digits in
    let k = c.key-item.result in
    let found = c.args.found.now in
    record {
      taken = λ q. c.remove.ensures.updates.0 q ∙ ap (cond (is_eq (R k q)) None) (c.loop-key.invariant.taken q) ∙ one_more (is_eq (R k q)) _ _
          ∙ ap (λ b. cond b None (get R c.args.values.now q)) (sym (list_any_more (λ k. is_eq (R k q)) found c.loop-key.key-index k c.loop-key-test.true ∙ ap (λ x. is_one_of (take c.loop-key.key-index found) q || is_eq (R x q)) (sym c.key-item.is)));
      subs = λ all. subst (λ es. All AreSomeSubs (keys_of es)) (sym c.remove.ensures.entries) (All-map-remove_entry _ (λ e. e.0) AreSomeSubs c.loop-key.values.entries (c.loop-key.invariant.subs all));
    }
