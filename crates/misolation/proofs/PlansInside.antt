-- SPDX-License-Identifier: Apache-2.0
-- The two laws for every plan, by one induction each over what its operations keep.
use Rattle.misolation.proofs.IsolationWords.{◌≡◌, true, false, ◌∷◌, Option, Some, None, refl, ap, ◌∙◌, subst, Account, Settings, get, nat_cmp-IsAntisymmetric}
use Rattle.misolation.proofs.IsolationWords.{nat_cmp_total, Held, held_cmp_total, held_cmp_exact, Shared, Accounts, IsClosed, is_member, is_inside}
use Rattle.misolation.proofs.IsolationWords.{cut_settings, cut_shared, holds_by, IsFit, Plan, Done, Ask, Ops, exchanges, Actor, ops_of, cut_ops, InsidePlan}
use Rattle.misolation.proofs.IsolationWords.{InsidePlans, OutsidePlan, OutsidePlans, PlansKeepFit, CutIsFit}
use Rattle.mspec.proofs.Plans.{Respects, respects, respects_short, keeps, keeps_short}
use Rattle.misolation.proofs.CutMaps.{had, get_kept}
use Rattle.misolation.proofs.Access.{lock_cut}
use Rattle.misolation.proofs.Operations.{operation_fits, inside_operations, outside_operations}

-- worlds that a relation ties, under operations that answer alike and keep it: all that is done and answered is the same
same_exchanges : {V W A : Type 0} (R : V → W → Type 0) (low : Ops V) (high : Ops W) → Respects R low high → (p : Plan A) (v : V) (w : W) → R v w → exchanges low p v ≡ exchanges high p w
same_exchanges R low high h (Done a) v w r = refl
same_exchanges R low high h (Ask op k) v w r =
    let same = h.answers op v w r in
    let rest = same_exchanges R low high h (k (low op v).0) (low op v).1 (high op w).1 (h.tied op v w r) in
    subst (λ a. record { op = op; answer = (low op v).0 } ∷ exchanges low (k (low op v).0) (low op v).1 ≡ record { op = op; answer = a } ∷ exchanges high (k a) (high op w).1) same (ap (λ es. record { op = op; answer = (low op v).0 } ∷ es) rest)

-- ---- inside

module _ (s : Accounts) (b : Actor) (closed : IsClosed b.settings s) (member : s b.account.name ≡ true) where
  -- the first world is the second's cut, and the second has fitting locks
  abbrev Tied : Shared → Shared → Type 0
  Tied v w = (v ≡ cut_shared s b.settings w) × IsFit b.settings w

  ties : Respects Tied (cut_ops s b) (ops_of b)
  ties = record {
    answers = λ op v w h. ap (λ v. (cut_ops s b op v).0) h.0 ∙ (inside_operations s b op w closed member h.1).answer;
    tied = λ op v w h. (ap (λ v. (cut_ops s b op v).1) h.0 ∙ (inside_operations s b op w closed member h.1).shared, operation_fits b op w h.1);
  }

  pub inside_plan : {A : Type 0} (p : Plan A) (w : Shared) → IsFit b.settings w → InsidePlan s b p w
  inside_plan p w fit =
      let whole = respects Tied (cut_ops s b) (ops_of b) ties p (cut_shared s b.settings w) w (refl, fit) in
      record {
        outcome = whole.0;
        exchanges = same_exchanges Tied (cut_ops s b) (ops_of b) ties p (cut_shared s b.settings w) w (refl, fit);
        shared = whole.1.0;
        short = λ n. (respects_short Tied (cut_ops s b) (ops_of b) ties n p (cut_shared s b.settings w) w (refl, fit)).0;
      }

pub inside_plans : InsidePlans
inside_plans s b p w closed member fit = inside_plan s b closed member p w fit

-- ---- outside

module _ (s : Accounts) (b : Actor) (closed : IsClosed b.settings s) (outsider : s b.account.name ≡ false) where
  pub outside_plan : {A : Type 0} (p : Plan A) (w : Shared) → OutsidePlan s b p w
  outside_plan p w = record {
    shared = keeps (λ v. cut_shared s b.settings v ≡ cut_shared s b.settings w) (ops_of b) (λ op v h. outside_operations s b op v closed outsider ∙ h) p w refl;
    short = λ n. keeps_short (λ v. cut_shared s b.settings v ≡ cut_shared s b.settings w) (ops_of b) (λ op v h. outside_operations s b op v closed outsider ∙ h) n p w refl;
  }

pub outside_plans : OutsidePlans
outside_plans s b p w closed outsider = outside_plan s b closed outsider p w

-- ---- fitting locks

pub plans_keep_fit : PlansKeepFit
plans_keep_fit b p w fit = record {
  whole = keeps (IsFit b.settings) (ops_of b) (λ op v h. operation_fits b op v h) p w fit;
  short = λ n. keeps_short (IsFit b.settings) (ops_of b) (λ op v h. operation_fits b op v h) n p w fit;
}

-- who is inside under the cut settings is a member that holds there what it may hold
member_holds : (s : Accounts) (settings : Settings) → IsClosed settings s → (h : Held) (o : Option Account) → is_member s o ≡ true → holds_by settings o h.name ≡ true → holds_by (cut_settings s settings) o h.name ≡ true
member_holds s settings closed h None m e = e
member_holds s settings closed h (Some account) m e = lock_cut s settings closed account.name h.name m ∙ e

pub cut_is_fit : CutIsFit
cut_is_fit s settings w closed fit h n e =
    let kept = had held_cmp_total held_cmp_exact w.locks (λ h. is_inside s settings h.terminal) h n e in
    let terminal = get_kept nat_cmp_total nat_cmp-IsAntisymmetric settings.terminals (is_inside s settings) h.terminal kept.0 in
    ap (λ o. holds_by (cut_settings s settings) o h.name) terminal ∙ member_holds s settings closed h (get settings.terminals h.terminal) kept.0 (fit h n kept.1)
