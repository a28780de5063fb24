-- SPDX-License-Identifier: Apache-2.0
-- Calls of an indirection: what a text names, evaluated an indirection deeper, and the subscripts after it, with one text more.
use Rattle.meval.proofs.EvalWords.{Doubts-same, Doubts-then, undoubted, ◌≡◌, suc, ◌<◌, Bool, [], Some, None, Result, Ok, Err, subst, refl, sym}
use Rattle.meval.proofs.EvalWords.{◌∙◌, ◌↔◌, IsTrue, IsSome, false≢true, false_from_ne_true, IsErr, IsErrAnd, Act, ◌>>=◌, ◌>>◌, give}
use Rattle.meval.proofs.EvalWords.{arith, give_some, PrimaryTree, ReferenceTree, indirect, ExprsTree, Evaluated}
use Rattle.meval.proofs.EvalWords.{Inside, inside, is_indirection_free, an_indirection_free, indirected, attached, values, primary_value}
use Rattle.meval.proofs.EvalWords.{evaluated, finds, Did, Yields, assoc, did_then, did_spent, Ghosts, fault_of, Code, Depth, Eval, Evaluates}
use Rattle.meval.proofs.EvalWords.{standing_of, eval_here, depth_of, true, false, Option, Text, yielded_so, read_so}
use Rattle.mspec.specs.Code as spec
use Rattle.mmeaning.specs.Variables.{with_more}
use Rattle.meval.specs.Acts.{one_more, through, named_within}
use Rattle.mgrammar.specs.Languages.{ref_in}
use Rattle.mmeaning.specs.Expression as meaning
use Rattle.mmeaning.proofs.Indirections.{did_fail}
use Rattle.mnodes.specs.Steady.{IsSteady}
use Rattle.moperator.specs.declared.code.Code.TheVariants as code
use Rattle.meval.proofs.Calls.{moved, evaluates_stopped, evaluates_read, keeps_itself, keeps_on}

-- ---- one text more

-- what a call does with as many texts as there are steps, or more, it does with one more
pub with_one_more : {S A Y : Type 0} {g : Ghosts S} {j : Y → A} {old new : Eval S} {r : Result Y Code} (p : Inside → Act A)
    → Evaluates g p j old r new → Evaluates g (λ i. p (one_more i)) j old r new
unfolding finds
with_one_more p d = record {
  at = λ sure out locks. let did = d.at sure out locks in record { at = λ n le. did.at (suc n) (omega (arith, le)); fewer = did.fewer };
  doubt = d.doubt;
  keeps = d.keeps;
  depth = d.depth;
}

-- ---- whether an indirection may be evaluated

pub not_free : {X : Type 0} (found : Option X) (b : Bool) → found ≡ None → IsSome found ↔ IsTrue b → b ≡ false
not_free found b none when = false_from_ne_true b (λ is. false≢true (subst IsSome none (when.1 is)))

pub is_free : {X : Type 0} {x : X} (found : Option X) (b : Bool) → found ≡ Some x → IsSome found ↔ IsTrue b → b ≡ true
is_free found b some when = when.0 (subst IsSome (sym some) refl)

-- ---- after the check of the depth

module _ {S A Y : Type 0} {g : Ghosts S} {j : Y → A} where
  -- one too deep
  pub deep_fails : {mid : Eval S} (q : Inside → Act A) → is_indirection_free (depth_of mid.depth) ≡ false → Evaluates g (λ i. an_indirection_free i.depth >> q i) j mid (Err code.Zdepth) mid
  deep_fails {mid = mid} q full = record {
    at = λ sure out locks. rw full (did_fail spec.Zdepth j code.Zdepth refl);
    doubt = Doubts-same _;
    keeps = keeps_itself _;
    depth = refl;
  }

  pub free_then : {mid new : Eval S} {r : Result Y Code} (q : Inside → Act A) → is_indirection_free (depth_of mid.depth) ≡ true → Evaluates g q j mid r new → Evaluates g (λ i. an_indirection_free i.depth >> q i) j mid r new
  free_then {mid = mid} q free d = record {
    at = λ sure out locks. rw free (d.at sure out locks);
    doubt = d.doubt;
    keeps = d.keeps;
    depth = d.depth;
  }

-- one indirection deeper
abbrev lower : Inside → Inside
lower i = record i { depth = indirected i.depth }

-- put together from the left
nested : (subscripts : ExprsTree) (x : Text) (i : Inside)
    → ◌≡◌ {A = Act Evaluated} (an_indirection_free i.depth >> (read_so spec.Zsyntax (λ l. ref_in l x) >>= (λ r. through (lower i) r subscripts))) (named_within i subscripts x)
nested subscripts x i =
    let ask = read_so spec.Zsyntax (λ l. ref_in l x) in
    let rest = λ (v : Evaluated). values (one_more (lower i)) [] subscripts >>= (λ xs. give (with_more xs v)) in
    sym
    (assoc (an_indirection_free i.depth) (λ u. ask >>= evaluated (lower i)) rest
    ∙ (λ k. an_indirection_free i.depth >> assoc ask (evaluated (lower i)) rest k))

module _ {S Y : Type 0} {g : Ghosts S} {j : Y → Evaluated} where
  -- the subscripts after a reference are evaluated with one text more
  pub evaluates_behind : {old new : Eval S} {r : Result Y Code} (es : ExprsTree) (v : Evaluated)
      → Evaluates g (λ i. values i [] es >>= (λ xs. give (with_more xs v))) j old r new
      → Evaluates g (λ i. values (one_more i) [] es >>= (λ xs. give (with_more xs v))) j old r new
  evaluates_behind es v d = with_one_more (λ i. values i [] es >>= (λ xs. give (with_more xs v))) d

  -- ---- what a text names

  evaluates_nested : {old new : Eval S} {r : Result Y Code} (subscripts : ExprsTree) (x : Text)
      → Evaluates g (λ i. an_indirection_free i.depth >> (read_so spec.Zsyntax (λ l. ref_in l x) >>= (λ r. through (lower i) r subscripts))) j old r new
      → Evaluates g (λ i. named_within i subscripts x) j old r new
  evaluates_nested {old = old} {new = new} {r = r} subscripts x d =
      subst (λ (p : Inside → Act Evaluated). Evaluates g p j old r new) (λ k i. nested subscripts x i k) d

  -- one too deep
  pub evaluates_deep : {mid : Eval S} (subscripts : ExprsTree) (x : Text) → is_indirection_free (depth_of mid.depth) ≡ false → Evaluates g (λ i. named_within i subscripts x) j mid (Err code.Zdepth) mid
  evaluates_deep subscripts x full =
      evaluates_nested subscripts x (deep_fails (λ i. read_so spec.Zsyntax (λ l. ref_in l x) >>= (λ r. through (lower i) r subscripts)) full)

  -- one whose text names no variable, or for whose tree memory runs out
  pub evaluates_unnamed : {R : Type 0} {mid : Eval S} {e : Code} {r : Result Y Code} {f : R → ReferenceTree} (subscripts : ExprsTree) (x : Text) → is_indirection_free (depth_of mid.depth) ≡ true
      → Yields fault_of (give_some spec.Zsyntax (ref_in (standing_of mid).given.language x)) f (Err e) → IsErr r × IsErrAnd r (λ c. c ≡ e) → Evaluates g (λ i. named_within i subscripts x) j mid r mid
  evaluates_unnamed subscripts x free none is =
      evaluates_nested subscripts x
      (free_then (λ i. read_so spec.Zsyntax (λ l. ref_in l x) >>= (λ r. through (lower i) r subscripts)) free
      (evaluates_stopped (λ i r. through (lower i) r subscripts) (evaluates_read spec.Zsyntax (λ l. ref_in l x) none) is))

  -- one that names a variable, which is evaluated an indirection deeper
  pub evaluates_within : {R : Type 0} {old within : Eval S} {res : Result Y Code} (subscripts : ExprsTree) (x : Text) (tree : R → ReferenceTree) (r : R) (deeper : Depth)
      → is_indirection_free (depth_of old.depth) ≡ true → depth_of deeper ≡ indirected (depth_of old.depth)
      → Yields {E = Code} fault_of (give_some spec.Zsyntax (ref_in (standing_of old).given.language x)) tree (Ok r) → Evaluates g (λ i. through i (tree r) subscripts) j (record old { depth = deeper }) res within
      → Evaluates g (λ i. named_within i subscripts x) j old res (record within { depth = old.depth })
  evaluates_within {old = old} {within = within} {res = res} subscripts x tree r deeper free is named k =
      let a = (standing_of old).account in
      evaluates_nested subscripts x
      (record {
        at = λ sure out locks.
            let found =
            subst (λ (e : meaning.Depth). Did (standing_of old) (IsSteady g within.store.now) fault_of (λ n. through (inside a n e) (tree r) subscripts) j (eval_here g old out locks) res (eval_here g within out locks)) is
            (k.at sure out locks)
            in
            rw free (did_then {early = IsSteady g within.store.now} (λ n r. through (inside a n (indirected (depth_of old.depth))) r subscripts) (yielded_so spec.Zsyntax (λ l. ref_in l x) (eval_here g old out locks) named) found);
        doubt = k.doubt;
        keeps = record { same = k.keeps.same; session = k.keeps.session; store = k.keeps.store; fewer = k.keeps.fewer };
        depth = refl;
      })

  -- a name indirection: its operand spent a step, so what its text names may enter one text more than there are steps
  pub evaluates_entry : {old mid new : Eval S} {res : Result Y Code} (p : PrimaryTree) (subscripts : ExprsTree) (x : Text)
      → Evaluates g (λ i. primary_value i p) (λ (v : Text). v) old (Ok x) mid → mid.steps < old.steps → Evaluates g (λ i. named_within i subscripts x) j mid res new
      → Evaluates g (λ i. evaluated i (indirect p subscripts)) j old res new
  unfolding finds
  evaluates_entry {old = old} p subscripts x d less k =
      let a = (standing_of old).account in
      record {
        at = λ sure out locks.
            did_spent (λ n x. attached (inside a n (depth_of old.depth)) subscripts x) (d.at (undoubted k.doubt sure) out locks) less
            (moved (λ i. named_within i subscripts x) d.keeps.same d.depth (k.at sure out locks));
        doubt = Doubts-then d.doubt k.doubt;
        keeps = keeps_on d.keeps k.keeps;
        depth = k.depth ∙ d.depth;
      }
