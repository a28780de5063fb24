-- SPDX-License-Identifier: Apache-2.0
-- The part of a history at a smaller set of accounts, before and after the cut to a greater one.
use Rattle.misolation.proofs.IsolationWords.{◌≡◌, ℕ, true, false, cond, List, Option, Some, None, refl, sym, ap, ◌∙◌, nat_cmp_total, false_from_ne_true}
use Rattle.misolation.proofs.IsolationWords.{bytes_decides, get, nat_cmp-IsAntisymmetric, Text, Account, Settings, get_cut, by_test, Event, Reply, Accounts}
use Rattle.misolation.proofs.IsolationWords.{is_member, is_inside, cut_settings, part, only, filter_agree}
use Rattle.misolation.proofs.CutMaps.{filter_absorbed}

module _ (r s : Accounts) (settings : Settings) (among : (x : Text) → r x ≡ true → s x ≡ true) where
  member_among : (o : Option Account) → is_member r o ≡ true → is_member s o ≡ true
  member_among None e = e
  member_among (Some account) e = among account.name e

  -- its lines are among those of the greater
  pub part_of_part : (es : List (Event × Reply)) → part r settings (part s settings es) ≡ part r settings es
  part_of_part es =
      filter_absorbed (λ e. is_inside r settings e.0.terminal) (λ e. is_inside s settings e.0.terminal) (λ e h. member_among (get settings.terminals e.0.terminal) h) es

  -- and its terminals are its own after the cut
  pub terminal_kept : (t : ℕ) → is_inside r (cut_settings s settings) t ≡ is_inside r settings t
  terminal_kept t =
      let cut = get_cut nat_cmp_total nat_cmp-IsAntisymmetric settings.terminals (is_inside s settings) t in
      by_test (is_inside s settings t)
      (λ here. ap (is_member r) (cut ∙ ap (λ b. cond b (get settings.terminals t) None) here))
      (λ away.
      ap (is_member r) (cut ∙ ap (λ b. cond b (get settings.terminals t) None) away)
      ∙ sym (false_from_ne_true (is_inside r settings t) (λ own. let no : true ≡ false = sym (member_among (get settings.terminals t) own) ∙ away in absurd (cc))))

  -- so its part is too
  pub part_kept : (es : List (Event × Reply)) → part r (cut_settings s settings) (part s settings es) ≡ part r settings es
  part_kept es =
      filter_agree (λ e. is_inside r (cut_settings s settings) e.0.terminal) (λ e. is_inside r settings e.0.terminal) (λ e. terminal_kept e.0.terminal) (part s settings es)
      ∙ part_of_part es

-- an account alone is among the members of any set that has it
pub only_among : (s : Accounts) (a : Text) → s a ≡ true → (x : Text) → only a x ≡ true → s x ≡ true
only_among s a m x e = ap s (sym ((bytes_decides a x).0 e)) ∙ m

-- sets of the same accounts have the same part
same_member : (r r' : Accounts) → ((x : Text) → r x ≡ r' x) → (o : Option Account) → is_member r o ≡ is_member r' o
same_member r r' same None = refl
same_member r r' same (Some account) = same account.name

pub same_part : (r r' : Accounts) (settings : Settings) → ((x : Text) → r x ≡ r' x) → (es : List (Event × Reply)) → part r settings es ≡ part r' settings es
same_part r r' settings same es =
    filter_agree (λ e. is_inside r settings e.0.terminal) (λ e. is_inside r' settings e.0.terminal) (λ e. same_member r r' same (get settings.terminals e.0.terminal)) es
