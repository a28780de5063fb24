-- SPDX-License-Identifier: Apache-2.0
use Rattle.mgrant.proofs.GrantWords.{◌≡◌, ◌+◌, ◌++◌, [], ◌∷◌, get_or, take, sym, ap, subst, ◌∙◌, arith, rules, common_steps, is_grant, mode_of, grants_seen}
use Rattle.mgrant.proofs.GrantWords.{grant_view, AreGranted, IsPlacing, names_in}
use Rattle.mgrant.proofs.Parts.{all_more, grants_more}
use Rattle.mgrant.proofs.checks.grants_of.Goals as goal

pub loop-entry-preserved : goal.loop-entry-preserved
loop-entry-preserved c =
    let e = c.entry-item.result in
    let at : get_or c.args.entries.now c.loop-entry.entry-index e ≡ e = grind (arith, common_steps) in
    let is : IsPlacing (names_in c.args.accounts.now) (grant_view e) c.in-Some.field-0 = search rules in
    let global : c.in_ok-global.global.items ≡ e.global.items = search rules in (
      subst (AreGranted (names_in c.args.accounts.now) (grants_seen (take (c.loop-entry.entry-index + 1) c.args.entries.now)))
          (sym (c.in_ok-grants.ensures ∙ ap (λ t. c.loop-entry.grants ++ (record { from = c.in-Some.field-0.from; to = c.in-Some.field-0.to; global = t; mode = mode_of c.in-Some.field-0.mode }) ∷ []) global))
          (grants_more (names_in c.args.accounts.now) c.args.entries.now c.loop-entry.entry-index e c.loop-entry-test.true at c.loop-entry.grants c.loop-entry.invariant.0 c.in-Some.field-0 is),
      all_more grant_view (is_grant (names_in c.args.accounts.now)) c.args.entries.now c.loop-entry.entry-index e c.loop-entry-test.true c.loop-entry.invariant.1 (rw at is.good),
    )
