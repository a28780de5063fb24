-- SPDX-License-Identifier: Apache-2.0
-- What may be done, among the members of a closed set and past them.
use Rattle.misolation.proofs.IsolationWords.{◌≡◌, Bool, true, false, cond, ◌&&◌, ◌||◌, List, [], ◌∷◌, sym, ap, ◌∙◌, ⊎_elim, or_cases, and_parts, and_from}
use Rattle.misolation.proofs.IsolationWords.{or_left, or_right, false_from_ne_true, any-filter_same, bytes_decides, list_any, Text, text_eq, carries, LockName}
use Rattle.misolation.proofs.IsolationWords.{may_write, may_lock, Accounts, IsClosed, is_between, cut_settings, by_test, Mode, Write, Grant, Settings, allows}
use Rattle.misolation.proofs.IsolationWords.{lets, may}

pub any_more : {X : Type 0} (p q : X → Bool) → ((x : X) → p x ≡ true → q x ≡ true) → (xs : List X) → list_any p xs ≡ true → list_any q xs ≡ true
any_more p q h [] e = e
any_more p q h (x ∷ xs) e = ⊎_elim (λ a. or_left _ _ (h x a)) (λ a. or_right (q x) _ (any_more p q h xs a)) (or_cases (p x) _ e)

-- who is allowed to use what, and by whom
pub let_by : (me owner name : Text) (mode : Mode) (g : Grant) → lets me owner name mode g ≡ true → (owner ≡ g.from) × (me ≡ g.to) × (allows g.mode mode ≡ true)
let_by me owner name mode g e =
    let parts = and_parts (text_eq owner g.from && text_eq me g.to) _ e in
    let ends = and_parts (text_eq owner g.from) (text_eq me g.to) parts.0 in
    let rest = and_parts (text_eq name g.global) (allows g.mode mode) parts.1 in
    ((bytes_decides owner g.from).0 ends.0, (bytes_decides me g.to).0 ends.1, rest.1)

-- a grant is a flow from its giver to its taker
lets_flow : (me owner name : Text) (mode : Mode) (g : Grant) → lets me owner name mode g ≡ true → carries owner me g ≡ true
lets_flow me owner name mode g e = or_left _ _ (and_parts (text_eq owner g.from && text_eq me g.to) _ e).0

-- and one to write flows back as well
writes_flow : (me owner name : Text) (g : Grant) → lets me owner name Write g ≡ true → carries me owner g ≡ true
writes_flow me owner name g e =
    let parts = and_parts (text_eq owner g.from && text_eq me g.to) _ e in
    let ends = and_parts (text_eq owner g.from) (text_eq me g.to) parts.0 in
    or_right (text_eq me g.from && text_eq owner g.to) _ (and_from _ _ (and_from _ _ ends.1 ends.0) (let_by me owner name Write g e).2)

module _ (s : Accounts) (settings : Settings) (closed : IsClosed settings s) where
  -- whom a member may use is a member
  pub giver_inside : (me owner name : Text) (mode : Mode) → s me ≡ true → may settings me owner name mode ≡ true → s owner ≡ true
  giver_inside me owner name mode m e =
      ⊎_elim
      (λ a. ap s ((bytes_decides owner me).0 a) ∙ m)
      (λ a. closed owner me (any_more (lets me owner name mode) (carries owner me) (lets_flow me owner name mode) settings.grants a) m)
      (or_cases (text_eq owner me) _ e)

  -- who may write at a member is a member
  pub writer_inside : (me owner name : Text) → s owner ≡ true → may settings me owner name Write ≡ true → s me ≡ true
  writer_inside me owner name m e =
      ⊎_elim
      (λ a. ap s (sym ((bytes_decides owner me).0 a)) ∙ m)
      (λ a. closed me owner (any_more (lets me owner name Write) (carries me owner) (writes_flow me owner name) settings.grants a) m)
      (or_cases (text_eq owner me) _ e)

  -- so an outsider writes at outsiders
  pub written_outside : (me owner name : Text) → s me ≡ false → may settings me owner name Write ≡ true → s owner ≡ false
  written_outside me owner name m e = false_from_ne_true (s owner) (λ h. let no : s me ≡ true = writer_inside me owner name h e in absurd (cc))

  let_inside : (me owner name : Text) (mode : Mode) → s me ≡ true → (g : Grant) → lets me owner name mode g ≡ true → is_between s g ≡ s owner
  let_inside me owner name mode m g e =
      let ends = let_by me owner name mode g e in
      ap (λ x. s x && s g.to) (sym ends.0) ∙ ap (λ x. s owner && s x) (sym ends.1) ∙ by_test (s owner) (λ a. ap (λ b. b && s me) a ∙ m ∙ sym a) (λ a. ap (λ b. b && s me) a ∙ sym a)

  granted_inside : (me owner name : Text) (mode : Mode) → s me ≡ true → (s owner && list_any (lets me owner name mode) settings.grants) ≡ list_any (lets me owner name mode) settings.grants
  granted_inside me owner name mode m = by_test (s owner)
      (λ a. ap (λ b. b && list_any (lets me owner name mode) settings.grants) a)
      (λ a.
      let none : list_any (lets me owner name mode) settings.grants ≡ false =
      false_from_ne_true _ (λ h. let no : s owner ≡ true = giver_inside me owner name mode m (or_right (text_eq owner me) _ h) in absurd (cc)) in
      ap (λ b. b && list_any (lets me owner name mode) settings.grants) a ∙ sym none)

  -- what a member may do is the same among members
  pub may_cut : (me owner name : Text) (mode : Mode) → s me ≡ true → may (cut_settings s settings) me owner name mode ≡ may settings me owner name mode
  may_cut me owner name mode m =
      ap (λ b. text_eq owner me || b) (any-filter_same (lets me owner name mode) (is_between s) (s owner) (let_inside me owner name mode m) settings.grants ∙ granted_inside me owner name mode m)

  pub lock_cut : (me : Text) (n : LockName) → s me ≡ true → may_lock (cut_settings s settings) me n ≡ may_lock settings me n
  lock_cut me n m = ap (λ b. cond n.global b (text_eq n.node.account me)) (may_cut me n.node.account n.node.name Write m)

  -- what a member may lock is a member's
  pub locked_inside : (me : Text) (n : LockName) → s me ≡ true → may_lock settings me n ≡ true → s n.node.account ≡ true
  locked_inside me n m e = by_test n.global
      (λ g. giver_inside me n.node.account n.node.name Write m (sym (ap (λ b. cond b (may_write settings me n.node) (text_eq n.node.account me)) g) ∙ e))
      (λ g. ap s ((bytes_decides n.node.account me).0 (sym (ap (λ b. cond b (may_write settings me n.node) (text_eq n.node.account me)) g) ∙ e)) ∙ m)

  -- who may lock a member's name is a member
  pub locker_inside : (me : Text) (n : LockName) → s n.node.account ≡ true → may_lock settings me n ≡ true → s me ≡ true
  locker_inside me n m e = by_test n.global
      (λ g. writer_inside me n.node.account n.node.name m (sym (ap (λ b. cond b (may_write settings me n.node) (text_eq n.node.account me)) g) ∙ e))
      (λ g. ap s (sym ((bytes_decides n.node.account me).0 (sym (ap (λ b. cond b (may_write settings me n.node) (text_eq n.node.account me)) g) ∙ e))) ∙ m)
