-- SPDX-License-Identifier: Apache-2.0
-- The two laws, operation by operation.
use Rattle.misolation.proofs.IsolationWords.{◌≡◌, Bool, true, false, not, List, [], Option, Some, None, refl, sym, ap, ◌∙◌, bytes_decides, and_parts}
use Rattle.misolation.proofs.IsolationWords.{retain_keys, list_all, routines_of, Node, text_eq, significant_digits, Read, Write, Settings, LockName, Locks}
use Rattle.misolation.proofs.IsolationWords.{taken, given_back, released, Op, May, Value, Status, Neighbour, Following, Routine, Put, Kill, Take, Give_back}
use Rattle.misolation.proofs.IsolationWords.{Release}
use Rattle.misolation.proofs.IsolationWords.{cut_drops, node_cmp_total, node_cmp_exact, by_test, Accounts, IsClosed, is_member, is_inside, cut_settings}
use Rattle.misolation.proofs.IsolationWords.{cut_locks, cut_shared, IsFit, AreFit, option_map, is_node_within, Shared, guarded, may_call, may_read, may_write}
use Rattle.misolation.proofs.IsolationWords.{may_lock, took, Actor, ops_of, cut_ops, InsideOperations, OutsideOperations}
use Rattle.misolation.proofs.CutMaps.{cut_cut, cut_absorbs, cut_insert}
use Rattle.misolation.proofs.Access.{giver_inside, written_outside, may_cut, lock_cut}
use Rattle.misolation.proofs.FittingLocks.{taken_fits, given_back_fits, released_fits}
use Rattle.misolation.proofs.LockCuts.{taken_cut, given_back_cut, released_cut, taken_outside, given_back_outside, released_outside}
use Rattle.misolation.proofs.GlobalCuts.{value_cut, status_cut, order_cut, following_cut, lines_cut}

-- ---- fitting locks

guarded_fits : {A : Type 0} (settings : Settings) (b : Bool) (a : A) (w : Shared) (r : A × Shared) → IsFit settings w → (b ≡ true → IsFit settings r.1) → IsFit settings (guarded b a w r).1
guarded_fits settings true a w r fit h = h refl
guarded_fits settings false a w r fit h = fit

took_fits : (settings : Settings) (w : Shared) (o : Option Locks) → IsFit settings w → ((locks : Locks) → o ≡ Some locks → AreFit settings locks) → IsFit settings (took w o).1
took_fits settings w None fit h = fit
took_fits settings w (Some locks) fit h = h locks refl

pub operation_fits : (b : Actor) (op : Op) (w : Shared) → IsFit b.settings w → IsFit b.settings (ops_of b op w).1
operation_fits b (May owner name mode) w fit = fit
operation_fits b (Value n) w fit = guarded_fits b.settings (may_read b.settings b.account.name n) _ w _ fit (λ _. fit)
operation_fits b (Status n) w fit = guarded_fits b.settings (may_read b.settings b.account.name n) _ w _ fit (λ _. fit)
operation_fits b (Neighbour direction n) w fit = guarded_fits b.settings (may_read b.settings b.account.name n) _ w _ fit (λ _. fit)
operation_fits b (Following direction n) w fit = guarded_fits b.settings (may_read b.settings b.account.name n) _ w _ fit (λ _. fit)
operation_fits b (Routine None name) w fit = fit
operation_fits b (Routine (Some owner) name) w fit = guarded_fits b.settings (may_call b.settings b.account.name owner) _ w _ fit (λ _. fit)
operation_fits b (Put n t) w fit = guarded_fits b.settings (may_write b.settings b.account.name n) _ w _ fit (λ _. fit)
operation_fits b (Kill n) w fit = guarded_fits b.settings (may_write b.settings b.account.name n) _ w _ fit (λ _. fit)
operation_fits b (Take names) w fit =
    guarded_fits b.settings (list_all (may_lock b.settings b.account.name) names) _ w _ fit
    (λ all. took_fits b.settings w (taken w.locks b.terminal names) fit (λ locks e. taken_fits b.settings b.terminal b.account b.known names w.locks locks all fit e))
operation_fits b (Give_back n) w fit = given_back_fits b.settings w.locks b.terminal n fit
operation_fits b Release w fit = released_fits b.settings w.locks b.terminal fit

-- ---- inside

-- the first result is the second's over the cut
pub record Alike (s : Accounts) (settings : Settings) {A : Type 0} (low high : A × Shared) : Type 0 where
  pub answer : low.0 ≡ high.0
  pub shared : low.1 ≡ cut_shared s settings high.1

module _ (s : Accounts) (b : Actor) (closed : IsClosed b.settings s) where
  alike_guarded : {A : Type 0} (p q : Bool) (a : A) (w : Shared) (low high : A × Shared) → p ≡ q → (q ≡ true → Alike s b.settings low high)
      → Alike s b.settings (guarded p a (cut_shared s b.settings w) low) (guarded q a w high)
  alike_guarded true true a w low high e h = h refl
  alike_guarded true false a w low high e h = absurd (cc)
  alike_guarded false true a w low high e h = absurd (cc)
  alike_guarded false false a w low high e h = record { answer = refl; shared = refl }

  alike_took : (w : Shared) (o : Option Locks) → Alike s b.settings (took (cut_shared s b.settings w) (option_map (cut_locks s b.settings) o)) (took w o)
  alike_took w None = record { answer = refl; shared = refl }
  alike_took w (Some locks) = record { answer = refl; shared = refl }

  -- the member's terminal is inside
  pub here : s b.account.name ≡ true → is_inside s b.settings b.terminal ≡ true
  here m = ap (is_member s) b.known ∙ m

  all_cut : s b.account.name ≡ true → (names : List LockName) → list_all (may_lock (cut_settings s b.settings) b.account.name) names ≡ list_all (may_lock b.settings b.account.name) names
  all_cut m names = ap (λ p. list_all p names) (λ i n. lock_cut s b.settings closed b.account.name n m i)

  alike_take : s b.account.name ≡ true → (names : List LockName) (w : Shared) → IsFit b.settings w → list_all (may_lock b.settings b.account.name) names ≡ true
      → Alike s b.settings (took (cut_shared s b.settings w) (taken (cut_locks s b.settings w.locks) b.terminal names)) (took w (taken w.locks b.terminal names))
  alike_take m names w fit all =
      rw (taken_cut s b.settings closed b.terminal b.account.name (here m) m w.locks fit names all) (alike_took w (taken w.locks b.terminal names))

  alike_operation : s b.account.name ≡ true → (op : Op) (w : Shared) → IsFit b.settings w → Alike s b.settings (cut_ops s b op (cut_shared s b.settings w)) (ops_of b op w)
  alike_operation m (May owner name mode) w fit = record { answer = may_cut s b.settings closed b.account.name owner name mode m; shared = refl }
  alike_operation m (Value n) w fit =
      alike_guarded _ _ None w _ _ (may_cut s b.settings closed b.account.name n.account n.name Read m)
      (λ y. record { answer = value_cut s w.globals n (giver_inside s b.settings closed b.account.name n.account n.name Read m y); shared = refl })
  alike_operation m (Status n) w fit =
      alike_guarded _ _ (false, false) w _ _ (may_cut s b.settings closed b.account.name n.account n.name Read m)
      (λ y. record { answer = status_cut s w.globals n (giver_inside s b.settings closed b.account.name n.account n.name Read m y); shared = refl })
  alike_operation m (Neighbour direction n) w fit =
      alike_guarded _ _ None w _ _ (may_cut s b.settings closed b.account.name n.account n.name Read m)
      (λ y. record { answer = order_cut s w.globals direction n (giver_inside s b.settings closed b.account.name n.account n.name Read m y); shared = refl })
  alike_operation m (Following direction n) w fit =
      alike_guarded _ _ None w _ _ (may_cut s b.settings closed b.account.name n.account n.name Read m)
      (λ y. record {
        answer = following_cut s w.globals direction n (giver_inside s b.settings closed b.account.name n.account n.name Read m y);
        shared = refl;
      })
  alike_operation m (Routine None name) w fit = record { answer = lines_cut s w.globals b.account.name name m; shared = refl }
  alike_operation m (Routine (Some owner) name) w fit =
      let of_owner = routines_of owner in
      alike_guarded _ _ [] w _ _ (may_cut s b.settings closed b.account.name of_owner.account of_owner.name Read m)
      (λ y. record { answer = lines_cut s w.globals owner name (giver_inside s b.settings closed b.account.name of_owner.account of_owner.name Read m y); shared = refl })
  alike_operation m (Put n t) w fit =
      alike_guarded _ _ tt w _ _ (may_cut s b.settings closed b.account.name n.account n.name Write m)
      (λ y. record {
        answer = refl;
        shared = λ i. record {
          globals = sym (cut_insert (node_cmp_total significant_digits) (node_cmp_exact significant_digits) w.globals (λ k. s k.account) n t (giver_inside s b.settings closed b.account.name n.account n.name Write m y)) i;
          locks = cut_locks s b.settings w.locks;
        };
      })
  alike_operation m (Kill n) w fit =
      alike_guarded _ _ tt w _ _ (may_cut s b.settings closed b.account.name n.account n.name Write m)
      (λ y. record {
        answer = refl;
        shared = λ i. record {
          globals = cut_cut (node_cmp_total significant_digits) (node_cmp_exact significant_digits) w.globals (λ k. s k.account) (λ k. not (is_node_within n k)) i;
          locks = cut_locks s b.settings w.locks;
        };
      })
  alike_operation m (Take names) w fit = alike_guarded _ _ false w _ _ (all_cut m names) (alike_take m names w fit)
  alike_operation m (Give_back n) w fit = record {
    answer = refl;
    shared = λ i. record { globals = retain_keys w.globals (λ k. s k.account); locks = given_back_cut s b.settings b.terminal (here m) w.locks n i };
  }
  alike_operation m Release w fit = record {
    answer = refl;
    shared = λ i. record { globals = retain_keys w.globals (λ k. s k.account); locks = released_cut s b.settings w.locks b.terminal i };
  }

pub inside_operations : InsideOperations
inside_operations s b op w closed m fit =
    let h = alike_operation s b closed m op w fit in
    record { answer = h.answer; shared = h.shared }

-- ---- outside

module _ (s : Accounts) (b : Actor) (closed : IsClosed b.settings s) where
  abbrev IsLeft : Shared → Shared → Type 0
  IsLeft v w = cut_shared s b.settings v ≡ cut_shared s b.settings w

  left_guarded : {A : Type 0} (p : Bool) (a : A) (w : Shared) (r : A × Shared) → (p ≡ true → IsLeft r.1 w) → IsLeft (guarded p a w r).1 w
  left_guarded true a w r h = h refl
  left_guarded false a w r h = refl

  left_took : (w : Shared) (o : Option Locks) → ((locks : Locks) → o ≡ Some locks → cut_locks s b.settings locks ≡ cut_locks s b.settings w.locks) → IsLeft (took w o).1 w
  left_took w None h = refl
  left_took w (Some locks) h = λ i. record { globals = retain_keys w.globals (λ k. s k.account); locks = h locks refl i }

  with_locks : (w : Shared) (locks : Locks) → cut_locks s b.settings locks ≡ cut_locks s b.settings w.locks → IsLeft (record w { locks = locks }) w
  with_locks w locks e = λ i. record { globals = retain_keys w.globals (λ k. s k.account); locks = e i }

  -- what an outsider may write is no member's
  outsiders : s b.account.name ≡ false → (n : Node) → may_write b.settings b.account.name n ≡ true → s n.account ≡ false
  outsiders m n y = written_outside s b.settings closed b.account.name n.account n.name m y

  -- and so is what is below it
  below_outside : (n k : Node) → s n.account ≡ false → s k.account ≡ true → not (is_node_within n k) ≡ true
  below_outside n k m h = by_test (is_node_within n k)
      (λ e.
      let same = (bytes_decides n.account k.account).0 (and_parts (text_eq n.account k.account) _ e).0 in
      let no : true ≡ false = sym h ∙ ap s (sym same) ∙ m in absurd (cc))
      (λ e. ap not e)

  away : s b.account.name ≡ false → is_inside s b.settings b.terminal ≡ false
  away m = ap (is_member s) b.known ∙ m

  left_operation : s b.account.name ≡ false → (op : Op) (w : Shared) → IsLeft (ops_of b op w).1 w
  left_operation m (May owner name mode) w = refl
  left_operation m (Value n) w = left_guarded (may_read b.settings b.account.name n) _ w _ (λ _. refl)
  left_operation m (Status n) w = left_guarded (may_read b.settings b.account.name n) _ w _ (λ _. refl)
  left_operation m (Neighbour direction n) w = left_guarded (may_read b.settings b.account.name n) _ w _ (λ _. refl)
  left_operation m (Following direction n) w = left_guarded (may_read b.settings b.account.name n) _ w _ (λ _. refl)
  left_operation m (Routine None name) w = refl
  left_operation m (Routine (Some owner) name) w = left_guarded (may_call b.settings b.account.name owner) _ w _ (λ _. refl)
  left_operation m (Put n t) w = left_guarded (may_write b.settings b.account.name n) _ w _ (λ y i. record {
    globals = cut_drops (node_cmp_total significant_digits) (node_cmp_exact significant_digits) w.globals (λ k. s k.account) n t (outsiders m n y) i;
    locks = cut_locks s b.settings w.locks;
  })
  left_operation m (Kill n) w = left_guarded (may_write b.settings b.account.name n) _ w _ (λ y i. record {
    globals =
        cut_absorbs (node_cmp_total significant_digits) (node_cmp_exact significant_digits) w.globals (λ k. not (is_node_within n k)) (λ k. s k.account)
        (λ k h. below_outside n k (outsiders m n y) h) i;
    locks = cut_locks s b.settings w.locks;
  })
  left_operation m (Take names) w =
      left_guarded (list_all (may_lock b.settings b.account.name) names) _ w _
      (λ _. left_took w (taken w.locks b.terminal names) (λ locks e. taken_outside s b.settings b.terminal (away m) names w.locks locks e))
  left_operation m (Give_back n) w = with_locks w (given_back w.locks b.terminal n) (given_back_outside s b.settings b.terminal (away m) w.locks n)
  left_operation m Release w = with_locks w (released w.locks b.terminal) (released_outside s b.settings b.terminal (away m) w.locks)

pub outside_operations : OutsideOperations
outside_operations s b op w closed m = left_operation s b closed m op w
