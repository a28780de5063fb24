-- SPDX-License-Identifier: Apache-2.0
-- Calls that ask a store, and those that ask or set the session.
use Rattle.meval.proofs.EvalWords.{DoubtsOver, Doubts-same, ◌≡◌, Bool, [], ◌∷◌, Some, Result, Ok, Err, refl, sym, ap, ◌∙◌, subst, arith, ⊎_elim, ◌&&◌, text_eq}
use Rattle.meval.proofs.EvalWords.{false≢true, and_parts, and_from, or_cases, or_left, or_right, Own, Zgrant, Node, AreSubscripts, IsAccountName}
use Rattle.meval.proofs.EvalWords.{is_account_name, are_subscripts, Locks, Act, ◌>>◌, give, ask, unless, naked_is, set_naked, subscripts_test, Standing, Did}
use Rattle.meval.proofs.EvalWords.{ops_of, Yields, Place, at_local, at_node, replaced, beside, allowed, node_place, resolve, of_local, asked, Ghosts, fault_of}
use Rattle.meval.proofs.EvalWords.{Code, Eval, Evaluates, KeepsEval, own_global, standing_of, eval_here, use_of, IsOpen, true, false, List, Option}
use Rattle.std.specs.Cmp.Lexicographic.{bytes_decides}
use Rattle.std.specs.List.{list_any}
use Rattle.mspec.proofs.SubscriptTests.{account_name_test}
use Rattle.mspec.specs.Code as spec
use Rattle.mspec.specs.Access.{Mode, Read, Write, Grant, allows, lets, may}
use Rattle.mspec.specs.Node.{Text}
use Rattle.mspec.specs.Plan.{Op, Answer, May}
use Rattle.mgrant.specs.declared.mode.Mode as grant
use Rattle.mgrant.specs.declared.mode.Mode.TheVariants as mode
use Rattle.mgrant.specs.Placed as placed
use Rattle.mmeaning.specs.Shared.{Shared}
use Rattle.mnodes.specs.Steady.{IsSteady}
use Rattle.moperator.specs.declared.code.Code.TheVariants as code
use Rattle.meval.proofs.Calls.{evaluates_then, evaluates_gives, evaluates_fails, evaluates_yielded, keeps_itself}

-- ---- operations

abbrev pub shared : {S : Type 0} → Ghosts S → Eval S → Locks → Shared
shared g e locks = record { globals = g.content e.store.now; locks = locks }

-- an operation that was carried out
pub asks : {S X : Type 0} {g : Ghosts S} {e new : Eval S} (op : Op) (f : X → Answer op) (x : X) → KeepsEval e new → new.depth ≡ e.depth
    → ((out : Text) (locks : Locks) → (eval_here g new out locks).0 ≡ (eval_here g e out locks).0)
    → DoubtsOver g e.store.now new.store.now true
    → (g.doubt new.store.now ≡ 0 → (locks : Locks) → ops_of (standing_of e) op (shared g e locks) ≡ (f x, shared g new locks)) → Evaluates g (λ i. ask op) f e (Ok x) new
asks {g = g} {e = e} {new = new} op f x keeps depth state doubt answer = record {
  at = λ sure out locks.
      subst (λ s. Did (standing_of e) (IsSteady g new.store.now) fault_of (λ n. ask op) f (eval_here g e out locks) (Ok x) (s, shared g new locks)) (sym (state out locks))
      (asked op f x (shared g new locks) (answer sure locks));
  doubt = doubt;
  keeps = keeps;
  depth = depth;
}

-- ---- tests

abbrev may_use : {S : Type 0} → Eval S → grant.Mode → Node → Bool
may_use e m n = may (standing_of e).settings (standing_of e).account n.account n.name (placed.mode_of m)

-- what a place of a node does, whether it is to be read or written
abbrev node_act : grant.Mode → Node → Act Place
node_act m n = allowed (placed.mode_of m) n >> (unless spec.Zsub (are_subscripts n.subscripts) >> (set_naked (Some n) >> give (at_node n)))

module _ {S : Type 0} {g : Ghosts S} where
  pub passes : {e : Eval S} (c : spec.Code) (b : Bool) → b ≡ true → Evaluates g (λ i. unless c b) (λ (u : Unit {0}). u) e (Ok tt) e
  passes {e = e} c b is = subst (λ b. Evaluates g (λ i. unless c b) (λ (u : Unit {0}). u) e (Ok tt) e) (sym is) (evaluates_gives tt (λ u. u) tt refl)

  pub refused : {X : Type 0} {e : Eval S} (f : X → Unit {0}) (c : spec.Code) (b : Bool) (code : Code) → b ≡ false → fault_of code ≡ Own c → Evaluates g (λ i. unless c b) f e (Err code) e
  refused {e = e} f c b code is own = subst (λ b. Evaluates g (λ i. unless c b) f e (Err code) e) (sym is) (evaluates_fails f c code own)

  -- ---- the session

  pub naked_told : {e : Eval S} → Evaluates g (λ i. naked_is) (λ (n : Option Node). n) e (Ok e.session.now.naked) e
  naked_told {e = e} = record {
    at = λ sure out locks. record { at = λ n le. refl; fewer = omega arith };
    doubt = Doubts-same _;
    keeps = keeps_itself _;
    depth = refl;
  }

  pub beside_found : {X : Type 0} {e : Eval S} {r : Result X Code} (f : X → Node) (xs : List Text) (found : Option Node) → e.session.now.naked ≡ found → Yields fault_of (replaced xs found) f r → Evaluates g (λ i. beside xs) f e r e
  beside_found {e = e} {r = r} f xs found is yields =
      evaluates_then (λ i last. replaced xs last) naked_told (subst (λ last. Evaluates g (λ i. replaced xs last) f e r e) (sym is) (evaluates_yielded yields))

  -- ---- who may use a global

  told : {e : Eval S} (m : grant.Mode) (n : Node) → Evaluates g (λ i. ask (May n.account n.name (placed.mode_of m))) (λ (b : Bool). b) e (Ok (may_use e m n)) e
  told m n = asks (May n.account n.name (placed.mode_of m)) (λ b. b) _ (keeps_itself _) refl (λ out locks. refl) (Doubts-same _) (λ sure locks. refl)

  pub let_in : {e : Eval S} (m : grant.Mode) (n : Node) → (is_account_name n.account && may_use e m n) ≡ true → Evaluates g (λ i. allowed (placed.mode_of m) n) (λ (u : Unit {0}). u) e (Ok tt) e
  let_in m n is = evaluates_then (λ i is_let. unless Zgrant (is_account_name n.account && is_let)) (told m n) (passes Zgrant _ is)

  kept_out : {e : Eval S} (m : grant.Mode) (n : Node) → (is_account_name n.account && may_use e m n) ≡ false → Evaluates g (λ i. allowed (placed.mode_of m) n) (λ (u : Unit {0}). u) e (Err code.Zgrant) e
  kept_out m n is = evaluates_then (λ i is_let. unless Zgrant (is_account_name n.account && is_let)) (told m n) (refused (λ u. u) Zgrant _ code.Zgrant is refl)

  pub no_account : {e : Eval S} (m : grant.Mode) (n : Node) → is_account_name n.account ≡ false → Evaluates g (λ i. allowed (placed.mode_of m) n) (λ (u : Unit {0}). u) e (Err code.Zgrant) e
  no_account {e = e} m n is = kept_out m n (ap (λ b. b && may_use e m n) is)

  -- an account may read what is its own
  pub own_let_in : {e : Eval S} (name : Text) (xs : List Text) → IsAccountName (standing_of e).account → Evaluates g (λ i. allowed Read (own_global e name xs)) (λ (u : Unit {0}). u) e (Ok tt) e
  own_let_in {e = e} name xs is =
      let account = (standing_of e).account in
      let_in mode.Read (own_global e name xs) (and_from _ _ (account_name_test account is) (or_left _ _ ((bytes_decides account account).1 refl)))

  -- ---- checks that reading and writing share

  pub as_node_place : {X : Type 0} {f : X → Place} {e new : Eval S} {r : Result X Code} (m : grant.Mode) (n : Node) → Evaluates g (λ i. node_act m n) f e r new → Evaluates g (λ i. node_place (use_of m) n) f e r new
  as_node_place mode.Read n d = d
  as_node_place mode.Write n d = d

  pub as_local_place : {X : Type 0} {f : X → Place} {e new : Eval S} {r : Result X Code} (m : grant.Mode) (name : Text) (xs : List Text)
      → Evaluates g (λ i. unless spec.Zsub (are_subscripts xs) >> give (at_local name xs)) f e r new → Evaluates g (λ i. resolve (use_of m) (of_local name xs)) f e r new
  as_local_place mode.Read name xs d = d
  as_local_place mode.Write name xs d = d

-- ---- keys

pub not_error : {X E : Type 0} {x : X} {e : E} → ◌≡◌ {A = Result X E} (Ok x) (Err e) → ⊥
not_error same = absurd (cc)

-- if a key could be built, the subscripts are those of a node
pub key_checked : {X : Type 0} (xs : List Text) (x : X) → ((AreSubscripts xs → ⊥) → ⊥) → Yields {E = Code} fault_of (unless spec.Zsub (are_subscripts xs)) (λ (_ : X). tt) (Ok x)
key_checked {X = X} xs x kept = go (are_subscripts xs) refl
  where
    go : (b : Bool) → are_subscripts xs ≡ b → Yields {E = Code} fault_of (unless spec.Zsub (are_subscripts xs)) (λ (_ : X). tt) (Ok x)
    go true e = subst (λ b. Yields {E = Code} fault_of (unless spec.Zsub b) (λ (_ : X). tt) (Ok x)) (sym e) (record { ends = λ s. refl })
    go false e = absurd (kept (λ are. false≢true (sym e ∙ subscripts_test xs are)))

-- who may write may read
allows_read : (m : Mode) → allows m Write ≡ true → allows m Read ≡ true
allows_read Write e = refl
allows_read Read e = absurd (false≢true e)

lets_read : (me owner name : Text) (grant : Grant) → lets me owner name Write grant ≡ true → lets me owner name Read grant ≡ true
lets_read me owner name grant e =
    let parts = and_parts (text_eq owner grant.from && text_eq me grant.to) _ e in
    let rest = and_parts (text_eq name grant.global) (allows grant.mode Write) parts.1 in
    and_from _ _ parts.0 (and_from _ _ rest.0 (allows_read grant.mode rest.1))

one_reads : (me owner name : Text) (grants : List Grant) → list_any (lets me owner name Write) grants ≡ true → list_any (lets me owner name Read) grants ≡ true
one_reads me owner name [] e = e
one_reads me owner name (grant ∷ grants) e =
    ⊎_elim (λ here. or_left _ _ (lets_read me owner name grant here)) (λ later. or_right (lets me owner name Read grant) _ (one_reads me owner name grants later))
    (or_cases (lets me owner name Write grant) _ e)

pub writing_reads : (b : Standing) (p : Place) → IsOpen b Write p → IsOpen b Read p
writing_reads b (at_local name xs) writes = tt
writing_reads b (at_node n) writes =
    ⊎_elim (λ own. or_left _ _ own) (λ granted. or_right (text_eq n.account b.account) _ (one_reads b.account n.account n.name b.settings.grants granted))
    (or_cases (text_eq n.account b.account) _ writes)
