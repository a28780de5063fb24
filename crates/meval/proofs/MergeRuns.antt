-- SPDX-License-Identifier: Apache-2.0
-- MERGE: its places, and its nodes one after another.
use Rattle.meval.proofs.EvalWords.{◌≡◌, ℕ, suc, ◌<◌, ◌≤◌, [], length, None, Some, Option, Result, Ok, Err, refl, sym, ap, ◌∙◌, subst, arith, IsErr}
use Rattle.meval.proofs.EvalWords.{IsErrAnd}
use Rattle.meval.proofs.EvalWords.{Act, ◌>>=◌, ◌>>◌, give, Place, at_local, at_node, of_local, checked, Ghosts, fault_of, Code, Eval, Evaluates, use_of, Text}
use Rattle.meval.proofs.EvalWords.{List, Node, Standing, IsOpen, AreSubscripts, Here, Ends, FailedBy, eval_here, standing_of, walk_view, true, false, Own}
use Rattle.meval.proofs.EvalWords.{unless, are_subscripts, subscripts_test, Yields, Zmem, Zsub, drop, ops_of, assoc, Inside}
use Rattle.std.proofs.lemmas.List.{drop_all, length-take-le}
use Rattle.std.proofs.lemmas.List.Elements.{All-take}
use Rattle.mspec.specs.Code as spec
use Rattle.mspec.specs.KeyBytes.{IsSubscript}
use Rattle.std.specs.Prelude.{Bool, IfOk, cond, is_some, ◌-◌}
use Rattle.mspec.specs.Access.{Mode}
use Rattle.mspec.specs.Code.{Fault, Lost, Memory, Store}
use Rattle.mspec.specs.Plan.{perform, cut_short}
use Rattle.mspec.specs.Trees.{AreQuerySubscripts, is_within}
use Rattle.mgrant.specs.declared.mode.Mode as grant
use Rattle.mgrant.specs.declared.mode.Mode.TheVariants as mode
use Rattle.mgrant.specs.Placed as placed
use Rattle.mmeaning.specs.Variables.{Evaluated, reading, writing, allowed, read_at, put_at}
use Rattle.mmeaning.specs.Merging.{subscripts_at, at_subscripts, node_sought, sought, referred_to, apart, next_after, first_node, counterpart}
use Rattle.mmeaning.specs.Merging.{node_merged, nodes_merged, merged_within, merged, copied}
use Rattle.meval.specs.Copies.{IsCopy, Copies, node_passed}
use Rattle.meval.specs.declared.place.Walk.{Walk}
use Rattle.meval.specs.declared.place.Walk.TheVariants as walk
use Rattle.meval.proofs.Calls.{evaluates_then, evaluates_stopped, evaluates_gives, evaluates_wanting}
use Rattle.mmeaning.proofs.Calls.{ended}

-- ---- places

pub own_again : (p : Place) → at_subscripts p (subscripts_at p) ≡ p
own_again (at_local name xs) = refl
own_again (at_node n) = refl

pub at_own : (p : Place) (ys : List Text) → ys ≡ subscripts_at p → at_subscripts p ys ≡ p
at_own p ys h = ap (at_subscripts p) h ∙ own_again p

pub open_in : (b : Standing) (m : Mode) (p : Place) (ys : List Text) → IsOpen b m p → IsOpen b m (at_subscripts p ys)
open_in b m (at_local name xs) ys h = h
open_in b m (at_node n) ys h = h

pub copy_node : (w : Walk) → IsCopy w → AreSubscripts (subscripts_at (walk_view w))
copy_node (walk.Local name values) h = h
copy_node (walk.Node node) h = h.1

module _ {S : Type 0} {g : Ghosts S} where
  -- the checks are those of reading, whatever the mode
  pub as_node_sought : {X : Type 0} {f : X → Place} {e new : Eval S} {r : Result X Code} (m : grant.Mode) (n : Node)
      → Evaluates g (λ i. allowed (placed.mode_of m) n >> (checked reading n.subscripts >> give (at_node n))) f e r new
      → Evaluates g (λ i. node_sought (use_of m) n) f e r new
  as_node_sought mode.Read n d = d
  as_node_sought mode.Write n d = d

  pub as_local_sought : {X : Type 0} {f : X → Place} {e new : Eval S} {r : Result X Code} (m : grant.Mode) (name : Text) (xs : List Text)
      → Evaluates g (λ i. checked reading xs >> give (at_local name xs)) f e r new → Evaluates g (λ i. sought (use_of m) (of_local name xs)) f e r new
  as_local_sought mode.Read name xs d = d
  as_local_sought mode.Write name xs d = d

-- ---- as many nodes as there are steps, and one more

same_lost : (b : Standing) (steady : Type 0) (p q : Act (Unit {0})) (h h' : Here) (c : Fault) → p h.0 ≡ q h.0 → FailedBy b steady q h c h'
    → FailedBy b steady p h c h'
same_lost b steady p q h h' (Own c) e y = ap (λ plan. perform (ops_of b) plan h.1) e ∙ y
same_lost b steady p q h h' (Lost Memory) e y = (y.0, ap (λ plan. cut_short (ops_of b) y.0 plan h.1) e ∙ y.1)
same_lost b steady p q h h' (Lost Store) e y = (y.0, (y.1.0, ap (λ plan. cut_short (ops_of b) y.1.0 plan h.1) e ∙ y.1.1))

same_ends : (b : Standing) (steady : Type 0) (p q : Act (Unit {0})) (h h' : Here) (r : Result (Unit {0}) Code) → p h.0 ≡ q h.0
    → Ends b steady fault_of q (λ (u : Unit {0}). u) h r h' → Ends b steady fault_of p (λ (u : Unit {0}). u) h r h'
same_ends b steady p q h h' (Ok u) e y = ap (λ plan. perform (ops_of b) plan h.1) e ∙ y
same_ends b steady p q h h' (Err c) e y = same_lost b steady p q h h' (fault_of c) e y

module _ (to from : Place) where
  none_is : (n m : ℕ) → ◌≡◌ {A = Act (Unit {0})} (nodes_merged n to from None) (nodes_merged m to from None)
  unfolding nodes_merged
  none_is n m = refl

  passes_is : (at : List Text) (n : ℕ) (b : Bool)
      → ◌≡◌ {A = Act (Unit {0})} (cond b (node_merged to from at >> (next_after from at >>= nodes_merged n to from)) (give tt))
      (cond b (node_merged to from at >> next_after from at) (give None) >>= nodes_merged n to from)
  unfolding nodes_merged
  passes_is at n true = sym (assoc (node_merged to from at) (λ _. next_after from at) (nodes_merged n to from))
  passes_is at n false = refl

  -- one node, and those after it
  node_is : (at : List Text) (n : ℕ)
      → ◌≡◌ {A = Act (Unit {0})} (nodes_merged (suc n) to from (Some at)) (node_passed to from at >>= nodes_merged n to from)
  unfolding nodes_merged
  node_is at n = passes_is at n (is_within (subscripts_at from) at)

-- there may be one node more than there are steps left, or more than that
abbrev pub Going : {S : Type 0} → Ghosts S → Place → Place → Eval S → Act (Unit {0}) → Eval S → Option (List Text) → Type 0
Going g to from old p e o = (n : ℕ) × ((e.steps ≤ n) × Copies g p old (nodes_merged (suc n) to from o) e)

module _ {S : Type 0} {g : Ghosts S} (to from : Place) where
  pub by_steps : {e new : Eval S} {r : Result (Unit {0}) Code} → Evaluates g (λ i. merged_within (suc e.steps) to from) (λ (u : Unit {0}). u) e r new
      → Evaluates g (λ i. merged to from) (λ (u : Unit {0}). u) e r new
  by_steps {e = e} {new = new} {r = r} d = record {
    at = λ sure out locks.
        let did = d.at sure out locks in
        record {
          at =
              λ n le.
              same_ends (standing_of e) _ (merged to from) (merged_within (suc e.steps) to from) (eval_here g e out locks) (eval_here g new out locks) r refl
              (did.at n le);
          fewer = did.fewer;
        };
    doubt = d.doubt;
    keeps = d.keeps;
    depth = d.depth;
  }

  -- the first node, if there is one
  pub begins : {e mid : Eval S} (first : Option (List Text)) → Evaluates g (λ i. first_node from) (λ (o : Option (List Text)). o) e (Ok first) mid
      → Copies g (merged to from) e (nodes_merged (suc e.steps) to from first) mid
  begins {e = e} first d = record { on = λ r new k. by_steps (evaluates_then (λ i o. nodes_merged (suc e.steps) to from o) d k) }

  pub begins_failed : {X : Type 0} {f : X → Option (List Text)} {e mid : Eval S} {c : Code} {r : Result (Unit {0}) Code}
      → Evaluates g (λ i. first_node from) f e (Err c) mid
      → IsErr r × IsErrAnd r (λ x. x ≡ c) → Evaluates g (λ i. merged to from) (λ (u : Unit {0}). u) e r mid
  begins_failed {e = e} d h = by_steps (evaluates_stopped (λ i o. nodes_merged (suc e.steps) to from o) d h)

  -- no node is left
  pub none_left : {e : Eval S} (n : ℕ) → Evaluates g (λ i. nodes_merged n to from None) (λ (u : Unit {0}). u) e (Ok tt) e
  unfolding nodes_merged
  none_left n = evaluates_gives tt (λ (u : Unit {0}). u) tt refl

  module _ (at : List Text) where
    passes : {e after new : Eval S} {r : Result (Unit {0}) Code} (n : ℕ) (next : Option (List Text))
        → Evaluates g (λ i. node_passed to from at) (λ (o : Option (List Text)). o) e (Ok next) after
        → Evaluates g (λ i. nodes_merged n to from next) (λ (u : Unit {0}). u) after r new
        → Evaluates g (λ i. nodes_merged (suc n) to from (Some at)) (λ (u : Unit {0}). u) e r new
    passes {e = e} {new = new} {r = r} n next d k =
        subst (λ (act : Act (Unit {0})). Evaluates g (λ i. act) (λ (u : Unit {0}). u) e r new) (sym (node_is to from at n))
        (evaluates_then (λ i o. nodes_merged n to from o) d k)

    pub goes_on : {e after : Eval S} (n : ℕ) (next : Option (List Text)) → e.steps ≤ n → (is_some next ≡ true → after.steps < e.steps)
        → Evaluates g (λ i. node_passed to from at) (λ (o : Option (List Text)). o) e (Ok next) after
        → Going g to from e (nodes_merged (suc n) to from (Some at)) after next
    goes_on {e = e} {after = after} n None le less d = (
      after.steps,
      (
        omega arith,
        record {
          on = λ r new k.
              passes n None d
              (subst (λ (act : Act (Unit {0})). Evaluates g (λ i. act) (λ (u : Unit {0}). u) after r new) (none_is to from (suc after.steps) n) k);
        },
      ),
    )
    goes_on {e = e} {after = after} n (Some next) le less d =
        let fewer : after.steps < e.steps = less refl in
        let same : n ≡ suc (n - 1) = omega (arith, le, fewer) in (
          n - 1,
          (
            omega (arith, le, fewer),
            record {
              on = λ r new k.
                  passes n (Some next) d
                  (subst (λ (m : ℕ). Evaluates g (λ i. nodes_merged m to from (Some next)) (λ (u : Unit {0}). u) after r new) (sym same) k);
            },
          ),
        )

    -- one that was not assigned, or after which the next was not found
    pub goes_wrong : {X : Type 0} {f : X → Option (List Text)} {e mid : Eval S} {c : Code} {r : Result (Unit {0}) Code} (n : ℕ)
        → Evaluates g (λ i. node_passed to from at) f e (Err c) mid → IsErr r × IsErrAnd r (λ x. x ≡ c)
        → Evaluates g (λ i. nodes_merged (suc n) to from (Some at)) (λ (u : Unit {0}). u) e r mid
    goes_wrong {e = e} {mid = mid} {r = r} n d h =
        subst (λ (act : Act (Unit {0})). Evaluates g (λ i. act) (λ (u : Unit {0}). u) e r mid) (sym (node_is to from at n))
        (evaluates_stopped (λ i o. nodes_merged n to from o) d h)

    -- one that is past the source
    pub is_past : {e : Eval S} → is_within (subscripts_at from) at ≡ false
        → Evaluates g (λ i. node_passed to from at) (λ (o : Option (List Text)). o) e (Ok None) e
    is_past {e = e} is =
        subst (λ b. Evaluates g (λ i. cond b (node_merged to from at >> next_after from at) (give None)) (λ (o : Option (List Text)). o) e (Ok None) e) (sym is)
        (evaluates_gives None (λ (o : Option (List Text)). o) None refl)

    -- one that is not: what it does
    pub is_there : {X : Type 0} {f : X → Option (List Text)} {e new : Eval S} {r : Result X Code} → is_within (subscripts_at from) at ≡ true
        → Evaluates g (λ i. node_merged to from at >> next_after from at) f e r new → Evaluates g (λ i. node_passed to from at) f e r new
    is_there {f = f} {e = e} {new = new} {r = r} is d =
        subst (λ b. Evaluates g (λ i. cond b (node_merged to from at >> next_after from at) (give None)) f e r new) (sym is) d

-- a step less with each node, and the last one may take none
abbrev pub left : Option (List Text) → ℕ → ℕ
left None steps = steps
left (Some at) steps = suc steps

pub fewer_left : (next : Option (List Text)) (old new : ℕ) → new ≤ old → (is_some next ≡ true → new < old) → left next new < suc old
fewer_left None old new le less = omega (arith, le)
fewer_left (Some at) old new le less = let fewer : new < old = less refl in omega (arith, fewer)

pub each_ok : {X E : Type 0} (P : X → Type 0) (r : Result X E) → ((x : X) → P x) → IfOk r P
each_ok P (Ok x) h = h x
each_ok P (Err e) h = tt

-- ---- what leads on

module _ {S : Type 0} {g : Ghosts S} where
  pub copies_on : {p q s : Act (Unit {0})} {old mid new : Eval S} → Copies g p old q mid → Copies g q mid s new → Copies g p old s new
  copies_on a b = record { on = λ r new d. a.on r new (b.on r new d) }

  -- whether there is something to copy
  pub something_copied : {e new : Eval S} {r : Result (Unit {0}) Code} (b : Bool) (p : Act (Unit {0})) → b ≡ true
      → Evaluates g (λ i. p) (λ (u : Unit {0}). u) e r new → Evaluates g (λ i. cond b p (give tt)) (λ (u : Unit {0}). u) e r new
  something_copied {e = e} {new = new} {r = r} b p is d =
      subst (λ b. Evaluates g (λ i. cond b p (give tt)) (λ (u : Unit {0}). u) e r new) (sym is) d

  pub nothing_copied : {e : Eval S} (b : Bool) (p : Act (Unit {0})) → b ≡ false
      → Evaluates g (λ i. cond b p (give tt)) (λ (u : Unit {0}). u) e (Ok tt) e
  nothing_copied {e = e} b p is =
      subst (λ b. Evaluates g (λ i. cond b p (give tt)) (λ (u : Unit {0}). u) e (Ok tt) e) (sym is) (evaluates_gives tt (λ (u : Unit {0}). u) tt refl)

  -- out of memory once it was asked
  pub asked_in_vain : {A X Y : Type 0} {p : Inside → Act A} {f : X → A} (j : Y → A) {old new : Eval S} {x : X} {r : Result Y Code}
      → Evaluates g p f old (Ok x) new → IsErr r × IsErrAnd r (λ e. e ≡ Zmem) → Evaluates g p j old r new
  asked_in_vain {p = p} {f = f} j {old = old} {new = new} {x = x} {r = r} d h =
      subst (λ act. Evaluates g act j old r new) (λ k i. ended (p i) k) (evaluates_then (λ i a. give a) d (evaluates_wanting (λ i. give (f x)) j r h))

-- ---- subscripts

pub node_passes : (xs : List Text) → AreSubscripts xs → Yields {E = Code} fault_of (checked reading xs) (λ (u : Unit {0}). u) (Ok tt)
node_passes xs are =
    subst (λ b. Yields {E = Code} fault_of (unless spec.Zsub b) (λ (u : Unit {0}). u) (Ok tt)) (sym (subscripts_test xs are)) (record { ends = λ s. refl })

pub no_node : (xs : List Text) → false ≡ are_subscripts xs → Yields fault_of (checked reading xs) (λ (u : Unit {0}). u) (Err Zsub)
no_node xs is = subst (λ b. Yields fault_of (unless spec.Zsub b) (λ (u : Unit {0}). u) (Err Zsub)) is (record { ends = λ s. refl })

-- what may be the subscripts of a node, or may not
pub counted : {X : Type 0} (xs : List Text) (x : X) → are_subscripts xs ≡ true
    → Yields {E = Code} fault_of (unless spec.Zsub (are_subscripts xs)) (λ (_ : X). tt) (Ok x)
counted {X = X} xs x is =
    subst (λ b. Yields {E = Code} fault_of (unless spec.Zsub b) (λ (_ : X). tt) (Ok x)) (sym is) (record { ends = λ s. refl })

pub not_counted : {X : Type 0} (xs : List Text) → are_subscripts xs ≡ false → Yields fault_of (unless spec.Zsub (are_subscripts xs)) (λ (_ : X). tt) (Err Zsub)
not_counted {X = X} xs is = subst (λ b. Yields fault_of (unless spec.Zsub b) (λ (_ : X). tt) (Err Zsub)) (sym is) (record { ends = λ s. refl })

pub never : (b : Bool) → (b ≡ true → false ≡ true) → b ≡ false
never true h = sym (h refl)
never false h = refl

pub behind_none : (n : ℕ) (xs : List Text) → length xs < n → [] ≡ drop n xs
behind_none n xs h = sym (drop_all n xs (omega (arith, h)))

-- subscripts of a node may be asked for the next one
pub are_asked : (xs : List Text) → AreSubscripts xs → AreQuerySubscripts xs
are_asked xs are some = record {
  some = some;
  few = are.few;
  before = record { few = omega (arith, length-take-le (length xs - 1) xs (omega arith), are.few); each = All-take IsSubscript (length xs - 1) xs are.each };
  short = (are.each (length xs - 1) [] (omega (arith, some))).few;
}

-- ---- the whole of it, from each of its parts on

abbrev pub after_target : Evaluated → Place → Act (Unit {0})
after_target v from = sought writing v >>= (λ to. copied to from)

abbrev pub after_source : Evaluated → Place → Act (Unit {0})
after_source v from = referred_to from >> after_target v from

abbrev pub after_apart : Place → Place → Bool → Act (Unit {0})
after_apart to from copies = referred_to to >> cond copies (merged to from) (give tt)

abbrev pub after_one : Place → Place → Bool → Act (Unit {0})
after_one to from one = apart one (subscripts_at to) (subscripts_at from) >>= after_apart to from

abbrev pub after_checked : Place → Place → List Text → Act (Unit {0})
after_checked to from ys = read_at (at_subscripts from ys) >>= put_at (at_subscripts to (counterpart to from ys))

abbrev pub after_charge : Place → Place → List Text → Act (Unit {0})
after_charge to from ys = unless spec.Zsub (are_subscripts (counterpart to from ys)) >> after_checked to from ys
