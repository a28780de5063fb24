-- SPDX-License-Identifier: Apache-2.0
-- Over the cut to a closed set, the same accounts reach its members.
use Rattle.misolation.proofs.IsolationWords.{◌≡◌, Bool, true, ◌&&◌, List, [], ◌∷◌, sym, ap, ◌∙◌, ⊎_elim, or_cases, and_parts, and_from, or_left, or_right}
use Rattle.misolation.proofs.IsolationWords.{any-filter_same, bytes_decides, list_any, filter, Text, text_eq, Grant, Settings, Write, allows, carries, Reaches}
use Rattle.misolation.proofs.IsolationWords.{itself, through, Accounts, IsClosed, reachers, is_between, cut_settings, by_test, one_truth, ReachIsKept}
use Rattle.misolation.proofs.Reaching.{reach_is_chains}

any_of_filter : {X : Type 0} (p q : X → Bool) (xs : List X) → list_any p (filter q xs) ≡ true → list_any p xs ≡ true
any_of_filter p q [] e = e
any_of_filter p q (x ∷ xs) e = by_test (q x)
    (λ h. let f : list_any p (x ∷ filter q xs) ≡ true = rw h at e in
    ⊎_elim (λ a. or_left _ _ a) (λ a. or_right (p x) _ (any_of_filter p q xs a)) (or_cases (p x) _ f))
    (λ h. let f : list_any p (filter q xs) ≡ true = rw h at e in or_right (p x) _ (any_of_filter p q xs f))

module _ (s : Accounts) (settings : Settings) where
  -- a grant that carries from member to member is between members
  carried_between : (x y : Text) → s x ≡ true → s y ≡ true → (g : Grant) → carries x y g ≡ true → is_between s g ≡ true
  carried_between x y m n g e = ⊎_elim
      (λ a.
      let ends = and_parts (text_eq x g.from) (text_eq y g.to) a in
      and_from _ _ (ap s (sym ((bytes_decides x g.from).0 ends.0)) ∙ m) (ap s (sym ((bytes_decides y g.to).0 ends.1)) ∙ n))
      (λ a.
      let ends = and_parts (text_eq x g.to) (text_eq y g.from) (and_parts (text_eq x g.to && text_eq y g.from) (allows g.mode Write) a).0 in
      and_from _ _ (ap s (sym ((bytes_decides y g.from).0 ends.1)) ∙ n) (ap s (sym ((bytes_decides x g.to).0 ends.0)) ∙ m))
      (or_cases (text_eq x g.from && text_eq y g.to) _ e)

  -- a flow between members is kept
  flow_kept : (x y : Text) → s x ≡ true → s y ≡ true → list_any (carries x y) (filter (is_between s) settings.grants) ≡ list_any (carries x y) settings.grants
  flow_kept x y m n = any-filter_same (carries x y) (is_between s) true (carried_between x y m n) settings.grants

  chain_of_cut : (x y : Text) → Reaches (cut_settings s settings) x y → Reaches settings x y
  chain_of_cut x y (itself z) = itself z
  chain_of_cut x y (through {y = z} f rest) = through (any_of_filter (carries x z) (is_between s) settings.grants f) (chain_of_cut z y rest)

  -- a chain to a member goes from member to member
  chain_kept : IsClosed settings s → (x y : Text) → s y ≡ true → Reaches settings x y → Reaches (cut_settings s settings) x y × (s x ≡ true)
  chain_kept closed x y m (itself z) = (itself z, m)
  chain_kept closed x y m (through {y = z} f rest) =
      let further = chain_kept closed z y m rest in
      let member : s x ≡ true = closed x z f further.1 in
      (through (flow_kept x z member further.1 ∙ f) further.0, member)

pub reach_is_kept : ReachIsKept
reach_is_kept s settings a closed m x = one_truth (reachers (cut_settings s settings) a x) (reachers settings a x)
    (λ e. (reach_is_chains settings a x).1 (chain_of_cut s settings x a ((reach_is_chains (cut_settings s settings) a x).0 e)))
    (λ e. (reach_is_chains (cut_settings s settings) a x).1 (chain_kept s settings closed x a m ((reach_is_chains settings a x).0 e)).0)
