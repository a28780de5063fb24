-- SPDX-License-Identifier: Apache-2.0
use Rattle.mgrant.proofs.GrantWords.{◌≡◌, ◌<◌, true, false, Some, rules, All, length, map, sym, ap, subst, ◌∙◌, account_of, names_of, are_names, are_grants}
use Rattle.mgrant.proofs.GrantWords.{names_in, entries_view, entries_seen, grants_seen, claims, HasTerminals, AreGranted, IsAmong, IsIndex, settings_view}
use Rattle.mgrant.specs.Document.{fault_of}
use Rattle.mgrant.specs.declared.fault.SettingsFault.TheVariants.{Grant}
use Rattle.mgrant.proofs.Assembled.{assembled_is, grants_judged, names_are, placed_within}
use Rattle.mgrant.proofs.Seen.{length_seen}
use Rattle.mgrant.proofs.settings.assembled.Goals as goal

pub new-accounts-requires : goal.new-accounts-requires
new-accounts-requires c =
    let names = ap names_in c.in_ok-accounts_of.ensures.1 ∙ names_are (entries_seen c.as_slice-written.result.now) in
    subst (λ ns. IsIndex ns c.in_ok-places.places) (sym names) c.in_ok-places.ensures.1

pub invariant_of-result : goal.invariant_of-result
invariant_of-result c =
    let written = entries_seen c.as_slice-written.result.now in
    let accounts = c.new-accounts.result in
    let names : names_in accounts ≡ names_of written = ap names_in (c.new-accounts.ensures ∙ c.in_ok-accounts_of.ensures.1) ∙ names_are written in
    record {
      named = ap are_names names ∙ c.in_ok-places.ensures.0;
      placed = λ t i at. subst (λ n. i < n) (ap length (sym names) ∙ length_seen accounts) (placed_within written c.in_ok-terminals.terminals.items c.in_ok-terminals.ensures.1 t i at);
      granted = subst (λ n. All (IsAmong n) c.in_ok-grants.grants) (length_seen accounts) c.in_ok-grants.ensures.1.among;
    }

pub returns-clause-good : goal.returns-clause-good
returns-clause-good c =
    grants_judged (entries_view c.args.entries.now) (entries_seen c.as_slice-written.result.now) (grants_seen c.deref.result.now) c.new-accounts.result (ap entries_seen c.as_slice-written.ensures.value) (ap grants_seen c.deref.ensures.value)
    (c.new-accounts.ensures ∙ c.in_ok-accounts_of.ensures.1) c.in_ok-places.ensures.0 c.in_ok-terminals.ensures.0 c.in_ok-accounts_of.ensures.0 true c.in_ok-grants.ensures.0

pub returns-in_err-grants-clause-err : goal.returns-in_err-grants-clause-err
returns-in_err-grants-clause-err c =
    let known : are_grants (names_in c.new-accounts.result) (grants_seen c.deref.result.now) ≡ false → fault_of (entries_view c.args.entries.now) ≡ Some Grant =
    grants_judged (entries_view c.args.entries.now) (entries_seen c.as_slice-written.result.now) (grants_seen c.deref.result.now) c.new-accounts.result (ap entries_seen c.as_slice-written.ensures.value) (ap grants_seen c.deref.ensures.value)
    (c.new-accounts.ensures ∙ c.in_ok-accounts_of.ensures.1) c.in_ok-places.ensures.0 c.in_ok-terminals.ensures.0 c.in_ok-accounts_of.ensures.0 false in
    search (known, rules)

pub returns-clause-ok : goal.returns-clause-ok
returns-clause-ok c =
    let w = entries_view c.args.entries.now in
    let written = ap entries_seen c.as_slice-written.ensures.value in
    let accounts : c.new-accounts.result ≡ map account_of w.accounts = c.new-accounts.ensures ∙ c.in_ok-accounts_of.ensures.1 ∙ ap (map account_of) written in
    let names : names_in c.new-accounts.result ≡ names_of w.accounts = ap names_in accounts ∙ names_are w.accounts in
    let has : HasTerminals (claims 0 w.accounts) c.in_ok-terminals.terminals.items = subst (λ all. HasTerminals (claims 0 all) c.in_ok-terminals.terminals.items) written c.in_ok-terminals.ensures.1 in
    let granted : AreGranted (names_of w.accounts) w.grants c.in_ok-grants.grants =
    subst (λ ns. AreGranted ns w.grants c.in_ok-grants.grants) names (subst (λ gs. AreGranted (names_in c.new-accounts.result) (grants_seen gs) c.in_ok-grants.grants) c.deref.ensures.value c.in_ok-grants.ensures.1) in
    ap (λ all. settings_view all c.in_ok-terminals.terminals.items c.in_ok-grants.grants) accounts ∙ assembled_is w c.in_ok-terminals.terminals.items c.in_ok-grants.grants has granted
