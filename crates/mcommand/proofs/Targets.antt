-- SPDX-License-Identifier: Apache-2.0
-- Targets of SET.
use Rattle.mcommand.proofs.CommandWords.{◌≡◌, List, [], ◌∷◌, Option, Result, Ok, Err, refl, sym, subst, IsErr, IsErrAnd, ap, set_piece_of, set_range_of, Text}
use Rattle.mcommand.proofs.CommandWords.{Act, ◌>>=◌, ◌>>◌, give, TargetTree, ExprTree, one, several, variable, local, exprs, no_exprs, outcome, Evaluated}
use Rattle.mcommand.proofs.CommandWords.{Place, at_local, of_local, read_or, put_at, value, values, evaluated, Answers, Ghosts, fault_of, Code, Zmem, put_act}
use Rattle.mcommand.proofs.CommandWords.{Parts, Prepared, Does, prepared_view, ℤ}
use Rattle.mspec.specs.Code as spec
use Rattle.mgrammar.specs.Functions.{ValueFunctionTree, FunctionTree, function_of}
use Rattle.mmeaning.specs.Functions.{text_at}
use Rattle.mtree.specs.Functions.{IsValueWord}
use Rattle.mmeaning.specs.LineMeaning as meaning
use Rattle.mtext.specs.declared.fault.TextFault.{TextFault}
use Rattle.mtext.specs.declared.fault.TextFault.TheVariants as fault
use Rattle.moperator.specs.Faults.{fault_code}
use Rattle.mcommand.proofs.Calls.{does_then, does_failed, does_stopped, does_yielded, does_gives, does_wanting}

-- the text at a place becomes one that is made of it
abbrev pub made_put : (Text → Result Text spec.Code) → Place → Act (Unit {0})
made_put made p = read_or [] p >>= λ old. outcome (made old) >>= put_at p

-- that of a piece, and of a range
abbrev pub with_piece : (x : Text) → List Text → Option ℤ → Text → Result Text spec.Code
with_piece x xs n old = set_piece_of old (text_at 0 xs) n x

abbrev pub with_range : (x : Text) → Option Text → (from to : Option ℤ) → Text → Result Text spec.Code
with_range x d from to old = set_range_of old d from to x

-- a word that a function of values has
pub named_is : (x w : Text) (f : ValueFunctionTree) (v : Evaluated) (xs : List Text) → IsValueWord w f
    → ◌≡◌ {A = Act (Unit {0})} (meaning.named_part x (function_of w) v xs) (meaning.part_assigned x f v xs)
named_is x w f v xs is = ap (λ (o : Option FunctionTree). meaning.named_part x o v xs) is.2

-- a local variable with one subscript
abbrev node_of : Text → ExprTree → TargetTree
node_of name s = variable (local name (exprs s no_exprs))

module _ {S : Type 0} {g : Ghosts S} where
  -- ---- parts

  text_made : (wanted : Result Text spec.Code) (t : Text) (parts : Parts S) → Answers wanted (Ok t)
      → Does g (λ i. outcome wanted) (λ (t : Text). t) parts (Ok t) parts
  text_made wanted t parts e = subst (λ w. Does g (λ i. outcome w) (λ (t : Text). t) parts (Ok t) parts) (sym e) (does_gives t (λ t. t) t refl)

  refused_by : (wanted : Result Text spec.Code) (f : TextFault) (parts : Parts S) → Answers wanted (Err f)
      → Does g (λ i. outcome wanted) (λ (t : Text). t) parts (Err (fault_code f)) parts
  refused_by wanted fault.Arg parts e =
      subst (λ w. Does g (λ i. outcome w) (λ (t : Text). t) parts (Err (fault_code fault.Arg)) parts) (sym e) (does_yielded (record { ends = λ s. refl }))
  refused_by wanted fault.Format parts e =
      subst (λ w. Does g (λ i. outcome w) (λ (t : Text). t) parts (Err (fault_code fault.Format)) parts) (sym e) (does_yielded (record { ends = λ s. refl }))
  refused_by wanted fault.TooLong parts e =
      subst (λ w. Does g (λ i. outcome w) (λ (t : Text). t) parts (Err (fault_code fault.TooLong)) parts) (sym e) (does_yielded (record { ends = λ s. refl }))
  refused_by wanted fault.Memory parts e = does_yielded (record { ends = tt })

  module _ (made : Text → Result Text spec.Code) (p : Place) where
    pub made_read_failed : {e : Code} {parts new : Parts S} {r : Result (Unit {0}) Code} → Does g (λ i. read_or [] p) (λ (t : Text). t) parts (Err e) new
        → IsErr r × IsErrAnd r (λ x. x ≡ e) → Does g (λ i. made_put made p) (λ (u : Unit {0}). u) parts r new
    made_read_failed found h = does_stopped (λ i old. outcome (made old) >>= put_at p) found h

    module _ (old : Text) {parts mid : Parts S} (found : Does g (λ i. read_or [] p) (λ (t : Text). t) parts (Ok old) mid) where
      pub made_wanting : {r : Result (Unit {0}) Code} → IsErr r × IsErrAnd r (λ e. e ≡ Zmem) → Does g (λ i. made_put made p) (λ (u : Unit {0}). u) parts r mid
      made_wanting {r = r} h =
          does_then (λ i old. outcome (made old) >>= put_at p) found (does_wanting (λ i. outcome (made old) >>= put_at p) (λ u. u) r h refl refl refl refl)

      pub made_assigned : (text : Text) (new : Parts S) (r : Result (Unit {0}) Code) → Answers (made old) (Ok text)
          → Does g (λ i. put_at p text) (λ (u : Unit {0}). u) mid r new → Does g (λ i. made_put made p) (λ u. u) parts r new
      made_assigned text new r made_is k =
          does_then (λ i old. outcome (made old) >>= put_at p) found (does_then (λ i. put_at p) (text_made (made old) text mid made_is) k)

      pub made_refused : (f : TextFault) (r : Result (Unit {0}) Code) → Answers (made old) (Err f) → IsErr r × IsErrAnd r (λ e. e ≡ fault_code f)
          → Does g (λ i. made_put made p) (λ u. u) parts r mid
      made_refused f r refused e =
          does_then (λ i old. outcome (made old) >>= put_at p) found (does_stopped (λ i. put_at p) (refused_by (made old) f mid refused) e)

  -- ---- one target

  -- its parts, as those of a list of one
  one_prepared : {X : Type 0} {old new : Parts S} (t : TargetTree) (view : X → meaning.Prepared) (x : X)
      → Does g (λ i. meaning.prepared i t) view old (Ok x) new → Does g (λ i. meaning.all_prepared i [] (t ∷ [])) (λ x. view x ∷ []) old (Ok x) new
  one_prepared t view x d = does_then (λ i p. meaning.all_prepared i (p ∷ []) []) d (does_gives (view x ∷ []) (λ x. view x ∷ []) x refl)

  -- what is done for it alone
  only_one : {a b : Parts S} {p : Act (Unit {0})} (r : Result (Unit {0}) Code) → Does g (λ i. p) (λ u. u) a r b → Does g (λ i. p >> give tt) (λ u. u) a r b
  only_one (Ok u) h = does_then (λ i _. give tt) h (does_gives tt (λ u. u) u refl)
  only_one (Err c) h = does_failed (λ i _. give tt) h

  -- a local variable without subscripts: its parts are nothing, and its checks let it through
  pub plain_assigned : {old mid new : Parts S} (name : Text) (e : ExprTree) (v : Text) (r : Result (Unit {0}) Code)
      → Does g (λ i. value i e) (λ (t : Text). t) old (Ok v) mid
      → Does g (λ i. put_at (at_local name []) v) (λ (u : Unit {0}). u) mid r new → Does g (λ i. meaning.setting i (one (variable (local name no_exprs))) e) (λ u. u) old r new
  plain_assigned name e v r k h = does_then (λ i v. meaning.all_assigned v (meaning.whole (of_local name []) ∷ [])) k (only_one r h)

  pub plain_failed : {old new : Parts S} (name : Text) (e : ExprTree) (c : Code) → Does g (λ i. value i e) (λ (t : Text). t) old (Err c) new
      → Does g (λ i. meaning.setting i (one (variable (local name no_exprs))) e) (λ (u : Unit {0}). u) old (Err c) new
  plain_failed name e c k = does_failed (λ i v. meaning.all_assigned v (meaning.whole (of_local name []) ∷ [])) k

  -- a local variable with one subscript
  module _ (name : Text) (s e : ExprTree) where
    node_prepared : {old mid : Parts S} (x : Text) → Does g (λ i. value i s) (λ (t : Text). t) old (Ok x) mid
        → Does g (λ i. meaning.all_prepared i [] (node_of name s ∷ [])) (λ (ps : List meaning.Prepared). ps) old (Ok (meaning.whole (of_local name (x ∷ [])) ∷ [])) mid
    node_prepared x d =
        let values_given = does_then (λ i x. give (x ∷ [])) d (does_gives (x ∷ []) (λ (xs : List Text). xs) (x ∷ []) refl) in
        let evaluated_given = does_then (λ i xs. give (of_local name xs)) values_given (does_gives (of_local name (x ∷ [])) (λ (v : Evaluated). v) _ refl) in
        let prepared_given = does_then (λ i v. give (meaning.whole v)) evaluated_given (does_gives (meaning.whole (of_local name (x ∷ []))) (λ (p : meaning.Prepared). p) _ refl) in
        does_then (λ i p. meaning.all_prepared i (p ∷ []) []) prepared_given (does_gives (meaning.whole (of_local name (x ∷ [])) ∷ []) (λ (ps : List meaning.Prepared). ps) _ refl)

    pub node_assigned : {old mid last new : Parts S} (x v : Text) (r : Result (Unit {0}) Code) → Does g (λ i. value i s) (λ (t : Text). t) old (Ok x) mid
        → Does g (λ i. value i e) (λ (t : Text). t) mid (Ok v) last
        → Does g (λ i. put_act (of_local name (x ∷ [])) v) (λ (u : Unit {0}). u) last r new → Does g (λ i. meaning.setting i (one (node_of name s)) e) (λ u. u) old r new
    node_assigned x v r d k h =
        does_then (λ i ps. value i e >>= λ v. meaning.all_assigned v ps) (node_prepared x d)
        (does_then (λ i v. meaning.all_assigned v (meaning.whole (of_local name (x ∷ [])) ∷ [])) k (only_one r h))

    pub node_value_failed : {old mid new : Parts S} (x : Text) (c : Code) → Does g (λ i. value i s) (λ (t : Text). t) old (Ok x) mid
        → Does g (λ i. value i e) (λ (t : Text). t) mid (Err c) new
        → Does g (λ i. meaning.setting i (one (node_of name s)) e) (λ (u : Unit {0}). u) old (Err c) new
    node_value_failed x c d k =
        does_then (λ i ps. value i e >>= λ v. meaning.all_assigned v ps) (node_prepared x d)
        (does_failed (λ i v. meaning.all_assigned v (meaning.whole (of_local name (x ∷ [])) ∷ [])) k)

    pub node_subscript_failed : {old new : Parts S} (c : Code) → Does g (λ i. value i s) (λ (t : Text). t) old (Err c) new
        → Does g (λ i. meaning.setting i (one (node_of name s)) e) (λ (u : Unit {0}). u) old (Err c) new
    node_subscript_failed {old = old} {new = new} c d =
        let values_failed : Does g (λ i. values i [] (exprs s no_exprs)) (λ (xs : List Text). xs) old (Err c) new = does_failed (λ i x. give (x ∷ [])) d in
        let evaluated_failed : Does g (λ i. evaluated i (local name (exprs s no_exprs))) (λ (v : Evaluated). v) old (Err c) new = does_failed (λ i xs. give (of_local name xs)) values_failed in
        let prepared_failed : Does g (λ i. meaning.prepared i (node_of name s)) (λ (p : meaning.Prepared). p) old (Err c) new = does_failed (λ i v. give (meaning.whole v)) evaluated_failed in
        let parts_failed : Does g (λ i. meaning.all_prepared i [] (node_of name s ∷ [])) (λ (ps : List meaning.Prepared). ps) old (Err c) new = does_failed (λ i p. meaning.all_prepared i (p ∷ []) []) prepared_failed in
        does_failed (λ i ps. value i e >>= λ v. meaning.all_assigned v ps) parts_failed

  module _ {X : Type 0} (t : TargetTree) (e : ExprTree) (view : X → meaning.Prepared) where
    pub one_assigned : {old mid last new : Parts S} (x : X) (v : Text) (r : Result (Unit {0}) Code) → Does g (λ i. meaning.prepared i t) view old (Ok x) mid
        → Does g (λ i. value i e) (λ (t : Text). t) mid (Ok v) last → Does g (λ i. meaning.assigned v (view x)) (λ u. u) last r new → Does g (λ i. meaning.setting i (one t) e) (λ u. u) old r new
    one_assigned x v r d k h =
        does_then (λ i ps. value i e >>= λ v. meaning.all_assigned v ps) (one_prepared t view x d) (does_then (λ i v. meaning.all_assigned v (view x ∷ [])) k (only_one r h))

    pub one_value_failed : {old mid new : Parts S} (x : X) (c : Code) → Does g (λ i. meaning.prepared i t) view old (Ok x) mid
        → Does g (λ i. value i e) (λ (t : Text). t) mid (Err c) new
        → Does g (λ i. meaning.setting i (one t) e) (λ (u : Unit {0}). u) old (Err c) new
    one_value_failed x c d k =
        does_then (λ i ps. value i e >>= λ v. meaning.all_assigned v ps) (one_prepared t view x d) (does_failed (λ i v. meaning.all_assigned v (view x ∷ [])) k)

    pub one_prepared_failed : {old new : Parts S} (c : Code) → Does g (λ i. meaning.prepared i t) view old (Err c) new
        → Does g (λ i. meaning.setting i (one t) e) (λ (u : Unit {0}). u) old (Err c) new
    one_prepared_failed {old = old} {new = new} c d =
        let parts_failed : Does g (λ i. meaning.all_prepared i [] (t ∷ [])) (λ (x : X). view x ∷ []) old (Err c) new = does_failed (λ i p. meaning.all_prepared i (p ∷ []) []) d in
        does_failed (λ i ps. value i e >>= λ v. meaning.all_assigned v ps) parts_failed

  -- ---- a list of targets

  module _ {X : Type 0} (ts : List TargetTree) (e : ExprTree) (view : X → List meaning.Prepared) where
    pub all_given : {old mid last new : Parts S} (x : X) (v : Text) (r : Result (Unit {0}) Code)
        → Does g (λ i. meaning.all_prepared i [] ts) view old (Ok x) mid → Does g (λ i. value i e) (λ (t : Text). t) mid (Ok v) last
        → Does g (λ i. meaning.all_assigned v (view x)) (λ u. u) last r new → Does g (λ i. meaning.setting i (several ts) e) (λ u. u) old r new
    all_given x v r d k h = does_then (λ i ps. value i e >>= λ v. meaning.all_assigned v ps) d (does_then (λ i v. meaning.all_assigned v (view x)) k h)

    pub all_value_failed : {old mid new : Parts S} (x : X) (c : Code) → Does g (λ i. meaning.all_prepared i [] ts) view old (Ok x) mid
        → Does g (λ i. value i e) (λ (t : Text). t) mid (Err c) new
        → Does g (λ i. meaning.setting i (several ts) e) (λ (u : Unit {0}). u) old (Err c) new
    all_value_failed x c d k = does_then (λ i ps. value i e >>= λ v. meaning.all_assigned v ps) d (does_failed (λ i v. meaning.all_assigned v (view x)) k)

    pub all_prepared_failed : {old new : Parts S} (c : Code) → Does g (λ i. meaning.all_prepared i [] ts) view old (Err c) new
        → Does g (λ i. meaning.setting i (several ts) e) (λ (u : Unit {0}). u) old (Err c) new
    all_prepared_failed c d = does_failed (λ i ps. value i e >>= λ v. meaning.all_assigned v ps) d
