-- SPDX-License-Identifier: Apache-2.0
-- How the calls of this crate are put together.
use Rattle.mcommand.proofs.CommandWords.{DoubtsOver, Doubts-same, Doubts-then, undoubted, ◌≡◌, ℕ, ◌+◌, ◌<◌, Bool, true, false, cond, List, [], ◌∷◌, ◌++◌}
use Rattle.mcommand.proofs.CommandWords.{length, drop, get_or, map, next_item, Result, Ok, Err, refl, sym, ap, ◌∙◌, subst, arith, IsErr, IsErrAnd}
use Rattle.mcommand.proofs.CommandWords.{into_iter_items, into_iter_steps, Text, Act, Gives, ◌>>=◌, give, write, ExprTree, as_truth, Inside, inside, value}
use Rattle.mcommand.proofs.CommandWords.{Yields, did_then, did_failed, did_gives, did_lost, residual_is, assoc, Ghosts, fault_of, Code, Zmem, truth, Evaluates}
use Rattle.mcommand.proofs.CommandWords.{KeepsEval, standing_of, eval_here, inside_at, depth_of, Parts, Does, DoesAt, KeepsLoans, here_of, append, move_cursor}
use Rattle.mcommand.proofs.CommandWords.{after_characters}
use Rattle.std.specs.Iterator.{Yields as IterYields}
use Rattle.std.specs.declared.vec.IntoIter.{IntoIter}
use Rattle.mmeaning.proofs.Yieldings.{yielded}
use Rattle.meval.specs.declared.eval.Eval.{Eval}
use Rattle.meval.specs.declared.depth.Depth.{Depth}
use Rattle.meval.proofs.Calls.{moved, keeps_at_depth as eval_keeps_at_depth, keeps_itself as eval_keeps_itself, keeps_on as eval_keeps_on}

-- ---- what calls keep to

pub keeps_itself : {S : Type 0} (a : Parts S) → KeepsLoans a a
keeps_itself a = record { eval = eval_keeps_itself a.eval; locks = refl; out = refl }

pub keeps_on : {S : Type 0} {a b c : Parts S} → KeepsLoans a b → KeepsLoans b c → KeepsLoans a c
keeps_on k l = record { eval = eval_keeps_on k.eval l.eval; locks = l.locks ∙ k.locks; out = l.out ∙ k.out }

-- where its line stands plays no part
pub keeps_at_depth : {S : Type 0} {a b : Parts S} (d : Depth) → KeepsLoans (record a { eval = record a.eval { depth = d } }) b → KeepsLoans a b
keeps_at_depth d k = record { eval = eval_keeps_at_depth d k.eval; locks = k.locks; out = k.out }

-- what leaves the evaluation as it is
keeps_same : {S : Type 0} {a b : Parts S} → b.eval ≡ a.eval → b.locks.ghost_name ≡ a.locks.ghost_name → b.out.ghost_name ≡ a.out.ghost_name → KeepsLoans a b
keeps_same {a = a} same locks out = record { eval = subst (λ e. KeepsEval a.eval e) (sym same) (eval_keeps_itself a.eval); locks = locks; out = out }

-- and so the store
same_doubt : {S : Type 0} (g : Ghosts S) (a b : Parts S) (is_done : Bool) → b.eval ≡ a.eval → DoubtsOver g a.eval.store.now b.eval.store.now is_done
same_doubt g a b is_done same = subst (λ e. DoubtsOver g a.eval.store.now e.store.now is_done) (sym same) (Doubts-same _)

-- ---- what they do

pub does_then : {S A B X Y : Type 0} {g : Ghosts S} {p : Inside → Act A} (q : Inside → A → Act B) {f : X → A} {j : Y → B} {old mid new : Parts S} {x : X} {r : Result Y Code}
    → Does g p f old (Ok x) mid → Does g (λ i. q i (f x)) j mid r new → Does g (λ i. p i >>= q i) j old r new
does_then q {f = f} {old = old} {x = x} d k = record {
  at = λ sure. did_then (λ n. q (inside_at old.eval n)) (d.at (undoubted k.doubt sure)) (moved (λ i. q i (f x)) d.keeps.eval.same d.depth (k.at sure));
  doubt = Doubts-then d.doubt k.doubt;
  keeps = keeps_on d.keeps k.keeps;
  depth = k.depth ∙ d.depth;
}

-- if the call returns by a `?`
pub does_stopped : {S A B X Y : Type 0} {g : Ghosts S} {p : Inside → Act A} (q : Inside → A → Act B) {f : X → A} {j : Y → B} {old new : Parts S} {e : Code} {r : Result Y Code}
    → Does g p f old (Err e) new → IsErr r × IsErrAnd r (λ x. x ≡ e) → Does g (λ i. p i >>= q i) j old r new
does_stopped {g = g} {p = p} q {j = j} {old = old} {new = new} {e = e} {r = r} d h =
    subst (λ r. Does g (λ i. p i >>= q i) j old r new) (sym (residual_is r e h)) (record {
      at = λ sure. did_failed (λ n. q (inside_at old.eval n)) (d.at sure);
      doubt = d.doubt;
      keeps = d.keeps;
      depth = d.depth;
    })

pub does_failed : {S A B X Y : Type 0} {g : Ghosts S} {p : Inside → Act A} (q : Inside → A → Act B) {f : X → A} {j : Y → B} {old new : Parts S} {e : Code}
    → Does g p f old (Err e) new → Does g (λ i. p i >>= q i) j old (Err e) new
does_failed q d = does_stopped q d (refl, refl)

pub does_gives : {S A X : Type 0} {g : Ghosts S} {parts : Parts S} (a : A) (f : X → A) (x : X) → f x ≡ a → Does g (λ i. give a) f parts (Ok x) parts
does_gives a f x same = record {
  at = λ sure. did_gives a f x same;
  doubt = Doubts-same _;
  keeps = keeps_itself _;
  depth = refl;
}

-- the same with what a call gives seen in another way
pub does_seen : {S A X Y : Type 0} {g : Ghosts S} {p : Inside → Act A} {f : X → A} {j : Y → A} {old new : Parts S} (x : X) (y : Y) → f x ≡ j y
    → Does g p f old (Ok x) new → Does g p j old (Ok y) new
does_seen {g = g} {new = new} x y is d = record {
  at = λ sure. let did = d.at sure in record { at = λ n le. let h = here_of g new in did.at n le ∙ ap (λ a. (Gives a h.0, h.1)) is; fewer = did.fewer };
  doubt = d.doubt;
  keeps = d.keeps;
  depth = d.depth;
}

-- an evaluation, by the parts that hold it
pub does_evaluated : {S A X : Type 0} {g : Ghosts S} {p : Inside → Act A} {f : X → A} {old : Parts S} {e : Eval S} {r : Result X Code}
    → Evaluates g p f old.eval r e → Does g p f old r (record old { eval = e })
does_evaluated {old = old} d = record {
  at = λ sure. d.at sure old.out.now.items old.locks.now;
  doubt = d.doubt;
  keeps = record { eval = d.keeps; locks = refl; out = refl };
  depth = d.depth;
}

-- an act by another name
pub does_is : {S A X : Type 0} {g : Ghosts S} {p q : Inside → Act A} {f : X → A} {old new : Parts S} {r : Result X Code}
    → ((i : Inside) → ◌≡◌ {A = Act A} (p i) (q i)) → Does g q f old r new → Does g p f old r new
does_is {g = g} {f = f} {old = old} {new = new} {r = r} same k = subst (λ p. Does g p f old r new) (λ j i. sym (same i) j) k

-- one of two acts
module _ {S A X : Type 0} {g : Ghosts S} {f : X → A} {old new : Parts S} {r : Result X Code} (p q : Act A) (b : Bool) where
  pub does_true : b ≡ true → Does g (λ i. p) f old r new → Does g (λ i. cond b p q) f old r new
  does_true is k = subst (λ b. Does g (λ i. cond b p q) f old r new) (sym is) k

  pub does_false : b ≡ false → Does g (λ i. q) f old r new → Does g (λ i. cond b p q) f old r new
  does_false is k = subst (λ b. Does g (λ i. cond b p q) f old r new) (sym is) k

-- what is done with items, one after another, where what each gives is added to what is there
module _ {S T B V : Type 0} {g : Ghosts S} (all : Inside → List V → List B → Act (List V)) (one : Inside → B → Act V) (tree : T → B)
    (is_one : (i : Inside) (vs : List V) (t : B) (ts : List B) → ◌≡◌ {A = Act (List V)} (all i vs (t ∷ ts)) (one i t >>= (λ v. all i (vs ++ v ∷ []) ts)))
    {X : Type 0} (view : X → List V) (items : List T) (k : ℕ) (item : T) (vs : List V) (less : k < length items) (is : item ≡ get_or items k item) where
  from_item : {old new : Parts S} {r : Result X Code}
      → Does g (λ i. one i (tree item) >>= (λ v. all i (vs ++ v ∷ []) (map tree (drop (k + 1) items)))) view old r new
      → Does g (λ i. all i vs (map tree (drop k items))) view old r new
  from_item {old = old} {new = new} {r = r} h =
      subst (λ (xs : List T). Does g (λ i. all i vs (map tree xs)) view old r new) (sym (next_item items k item less is)) (does_is (λ i. is_one i vs (tree item) (map tree (drop (k + 1) items))) h)

  pub item_then : {Y : Type 0} {f : Y → V} {old mid new : Parts S} {r : Result X Code} (y : Y) → Does g (λ i. one i (tree item)) f old (Ok y) mid
      → Does g (λ i. all i (vs ++ f y ∷ []) (map tree (drop (k + 1) items))) view mid r new → Does g (λ i. all i vs (map tree (drop k items))) view old r new
  item_then y h rest = from_item (does_then (λ i v. all i (vs ++ v ∷ []) (map tree (drop (k + 1) items))) h rest)

  pub item_stopped : {Y : Type 0} {f : Y → V} {old new : Parts S} {e : Code} {r : Result X Code} → Does g (λ i. one i (tree item)) f old (Err e) new
      → IsErr r × IsErrAnd r (λ x. x ≡ e)
      → Does g (λ i. all i vs (map tree (drop k items))) view old r new
  item_stopped h stopped = from_item (does_stopped (λ i v. all i (vs ++ v ∷ []) (map tree (drop (k + 1) items))) h stopped)

-- a call that needs no point
pub does_yielded : {S A X : Type 0} {g : Ghosts S} {p : Act A} {f : X → A} {parts : Parts S} {r : Result X Code} → Yields fault_of p f r
    → Does g (λ i. p) f parts r parts
does_yielded {g = g} {parts = parts} y = record {
  at = λ sure. yielded (here_of g parts) y;
  doubt = Doubts-same _;
  keeps = keeps_itself _;
  depth = refl;
}

-- out of memory: the call returns by a `?`, and the store is as it was
pub does_wanting : {S A X : Type 0} {g : Ghosts S} {old new : Parts S} (p : Inside → Act A) (f : X → A) (r : Result X Code)
    → IsErr r × IsErrAnd r (λ x. x ≡ Zmem)
    → new.eval ≡ old.eval → new.locks.now ≡ old.locks.now → new.locks.ghost_name ≡ old.locks.ghost_name → new.out.ghost_name ≡ old.out.ghost_name → Does g p f old r new
does_wanting {g = g} {old = old} {new = new} p f r h same locked locks out = subst (λ r. Does g p f old r new) (sym (residual_is r Zmem h)) (record {
  doubt = same_doubt g old new _ same;
  at = λ sure.
      did_lost (λ n. p (inside_at old.eval n)) f Zmem tt (λ i. record { globals = g.content (sym same i).store.now; locks = sym locked i })
      (let few = ap (λ e. e.steps) same in omega (arith, few));
  keeps = keeps_same same locks out;
  depth = ap (λ e. e.depth) same;
})

-- a text is appended
pub does_append : {S : Type 0} {g : Ghosts S} (old new : Parts S) (x : Text) → new.out.now.items ≡ old.out.now.items ++ x → new.eval ≡ old.eval
    → new.locks ≡ old.locks → new.out.ghost_name ≡ old.out.ghost_name → Does g (λ i. append x) (λ (u : Unit {0}). u) old (Ok tt) new
does_append {g = g} old new x out same locked lent = record {
  doubt = same_doubt g old new _ same;
  at = λ sure. record {
    at = λ n le i. (Gives tt (eval_here g (sym same i) (sym out i) (sym locked i).now).0, (eval_here g (sym same i) (sym out i) (sym locked i).now).1);
    fewer = let few = ap (λ e. e.steps) same in omega (arith, few);
  };
  keeps = keeps_same same (ap (λ locks. locks.ghost_name) locked) lent;
  depth = ap (λ e. e.depth) same;
}

-- a text is written: it is appended, and its characters are counted
pub does_write : {S : Type 0} {g : Ghosts S} (old mid : Parts S) {e : Eval S} (x : Text) (n : ℕ) → mid.out.now.items ≡ old.out.now.items ++ x
    → mid.eval ≡ old.eval → mid.locks ≡ old.locks
    → mid.out.ghost_name ≡ old.out.ghost_name → n ≡ length x → Evaluates g (λ i. move_cursor (after_characters n)) (λ u. u) mid.eval (Ok tt) e → Does g (λ i. write x) (λ (u : Unit {0}). u) old (Ok tt) (record mid { eval = e })
does_write {g = g} old mid {e = e} x n out same locked lent count d =
    does_then (λ i u. move_cursor (after_characters (length x))) (does_append old mid x out same locked lent)
    (does_evaluated (subst (λ n. Evaluates g (λ i. move_cursor (after_characters n)) (λ (u : Unit {0}). u) mid.eval (Ok tt) e) count d))

-- an evaluation, at a depth of its own
pub at_evaluated : {S A X : Type 0} {g : Ghosts S} {p : Inside → Act A} {f : X → A} {old : Parts S} {e : Eval S} {r : Result X Code} (d : _)
    → Evaluates g p f (record old.eval { depth = d }) r e
    → DoesAt g (λ a n. p (inside a n (depth_of d))) f old r (record old { eval = e })
at_evaluated {old = old} d k = record {
  at = λ sure. k.at sure old.out.now.items old.locks.now;
  doubt = k.doubt;
  keeps = record { eval = eval_keeps_at_depth d k.keeps; locks = refl; out = refl };
}

-- a call, at a depth of its own
pub at_done : {S A X : Type 0} {g : Ghosts S} {p : Inside → Act A} {f : X → A} {old new : Parts S} {r : Result X Code} (d : _)
    → Does g p f (record old { eval = record old.eval { depth = d } }) r new
    → DoesAt g (λ a n. p (inside a n (depth_of d))) f old r new
at_done d k = record {
  at = λ sure. k.at sure;
  doubt = k.doubt;
  keeps = keeps_at_depth d k.keeps;
}

-- ---- truths

-- what is done with the truth of an expression
pub truth_then : {S B Y : Type 0} {g : Ghosts S} (e : ExprTree) (q : Bool → Act B) {j : Y → B} {old mid new : Parts S} {b : Bool} {r : Result Y Code}
    → Does g (λ i. truth i e) (λ (b : Bool). b) old (Ok b) mid → Does g (λ i. q b) j mid r new
    → Does g (λ i. value i e >>= (λ x. as_truth x >>= q)) j old r new
truth_then {g = g} e q {j = j} {old = old} {new = new} {r = r} d k = does_is (λ i. sym (assoc (value i e) as_truth q)) (does_then (λ i. q) d k)

pub truth_stopped : {S B Y : Type 0} {g : Ghosts S} (e : ExprTree) (q : Bool → Act B) {j : Y → B} {old new : Parts S} {c : Code} {r : Result Y Code}
    → Does g (λ i. truth i e) (λ (b : Bool). b) old (Err c) new → IsErr r × IsErrAnd r (λ x. x ≡ c)
    → Does g (λ i. value i e >>= (λ x. as_truth x >>= q)) j old r new
truth_stopped e q d h = does_is (λ i. sym (assoc (value i e) as_truth q)) (does_stopped (λ i. q) d h)

-- ---- vectors that are used up

-- what an iterator has given is a front of its items
pub taken_front : {X A : Type 0} (s : IntoIter X A) (xs : List X) (t : IntoIter X A) → IterYields into_iter_steps s xs t
    → into_iter_items s ≡ xs ++ into_iter_items t
taken_front s [] t y = ap into_iter_items y
taken_front s (x ∷ xs) t y = y.1.0 ∙ ap (λ ys. x ∷ ys) (taken_front y.0 xs t y.2)
