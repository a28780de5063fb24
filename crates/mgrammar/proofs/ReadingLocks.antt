-- SPDX-License-Identifier: Apache-2.0
-- What is read of an argument of LOCK is spelled so, and what is spelled so is read.
use Rattle.mgrammar.proofs.GrammarWords.{◌≡◌, ℕ, ◌-◌, Bool, true, false, cond, eqb, List, [], ◌∷◌, ◌++◌, Option, Some, None, inl, inr, refl, sym, ap, subst}
use Rattle.mgrammar.proofs.GrammarWords.{◌∙◌, append_assoc, arith, ◌||◌, eqb-true, nat_tests, ExprTree, ReferenceTree, LockKindTree, anew, adding, giving_back}
use Rattle.mgrammar.proofs.GrammarWords.{LockedTree, lock_one, lock_several, ArgTree, locked, lock_argument, spell_reference, spell_kind, spell_locked}
use Rattle.mgrammar.proofs.GrammarWords.{spell_condition, spell_arg, max_depth, is_named, WellLockRef, WellLocked, WellPlain, ◌>>=◌, after_sign, readers_at}
use Rattle.mgrammar.proofs.GrammarWords.{reference_with, conditioned, lock_ref_with, locked_at, kind_of, lock_argument_at}
use Rattle.mgrammar.proofs.ReadingBasics.{IsRead, Takes, Again, Begins, Begins-append, Begins-weaker, bind_some, chosen, some_is}
use Rattle.mgrammar.proofs.ReadingLists.{listed_or_one, bracketed_again}
use Rattle.mgrammar.proofs.ReadingReferences.{OperandEnds, begins_reference, reference_takes, reference_again, reference_begins}
use Rattle.mgrammar.proofs.ReadingPrimaries.{reference_tests}
use Rattle.mgrammar.proofs.ReadingExprs.{begins_operand, inner_takes, below_takes, inner_again, below_again}
use Rattle.mgrammar.proofs.ReadingTargets.{variable_begins}
use Rattle.mgrammar.proofs.ReadingArguments.{Follows}
use Rattle.mgrammar.proofs.ReadingEntries.{conditioned_takes, conditioned_again}

-- ---- names

name_takes : (d : ℕ) → Takes spell_reference (WellLockRef d) (lock_ref_with (readers_at d))
unfolding lock_ref_with
name_takes d cs x e =
    let b = bind_some (reference_with (readers_at d) cs) (λ v. cond (is_named v.0) (Some v) None) x e in
    let t = reference_takes d (readers_at d) (inner_takes d) (below_takes d) cs b.0 b.1 in
    elim (chosen (is_named b.0.0) (Some b.0) None (Some x) b.2) [
      | inl p ↦ subst (IsRead spell_reference (WellLockRef d) cs) {x = b.0} (some_is b.0 x p.1) (t.0, (t.1, p.0))
      | inr p ↦ absurd cc
    ]

name_again : (d : ℕ) → Again spell_reference (WellLockRef d) OperandEnds (lock_ref_with (readers_at d))
unfolding lock_ref_with
name_again d v rest w s = rw (reference_again d (readers_at d) (inner_again d) (below_again d) v rest w.0 s, w.1) refl

-- ---- one, or a list in brackets

locked_takes : Takes spell_locked WellLocked locked_at
unfolding locked_at
locked_takes [] x e = absurd cc
locked_takes (c ∷ cs) x e =
    listed_or_one spell_reference (WellLockRef (max_depth - 1)) (lock_ref_with (readers_at (max_depth - 1))) lock_several spell_reference (WellLockRef max_depth) (lock_ref_with (readers_at max_depth)) lock_one (IsRead spell_locked WellLocked (c ∷ cs))
    (name_takes (max_depth - 1)) (name_takes max_depth) c cs x e (λ ys rest q w. (q, w)) (λ v rest q w. (q, w))

one_step : (cs : List ℕ) (v : ReferenceTree) (rest : List ℕ) → Begins begins_reference cs → lock_ref_with (readers_at max_depth) cs ≡ Some (v, rest) → locked_at cs ≡ Some (lock_one v, rest)
unfolding locked_at
one_step [] v rest b h = absurd b
one_step (c ∷ cs) v rest b h = rw ((reference_tests c b).2, h) refl

locked_again : Again spell_locked WellLocked OperandEnds locked_at
unfolding locked_at
locked_again (lock_one v) rest w s =
    one_step (spell_reference v ++ rest) v rest (Begins-append begins_reference (spell_reference v) rest (reference_begins max_depth v w.0)) (name_again max_depth v rest w s)
locked_again (lock_several rs) rest w s =
    bracketed_again spell_reference (WellLockRef (max_depth - 1)) (lock_ref_with (readers_at (max_depth - 1))) OperandEnds lock_several locked_at (λ cs. refl) (λ cs. (refl, refl)) (name_again (max_depth - 1)) rs rest w

-- ---- a sign in front

-- as kind_parts, where the first character's tests give b and d
kind_parts_by : (c : ℕ) (cs : List ℕ) (b d : Bool) → eqb c 43 ≡ b → eqb c 45 ≡ d → c ∷ cs ≡ spell_kind (cond b adding (cond d giving_back anew)) ++ cond (b || d) cs (c ∷ cs)
kind_parts_by c cs true d h k = let at : c ≡ 43 = eqb-true _ _ h in rw at refl
kind_parts_by c cs false true h k = let at : c ≡ 45 = eqb-true _ _ k in rw at refl
kind_parts_by c cs false false h k = refl

kind_parts : (cs : List ℕ) → cs ≡ spell_kind (kind_of cs) ++ after_sign cs
kind_parts [] = refl
kind_parts (c ∷ cs) = kind_parts_by c cs (eqb c 43) (eqb c 45) refl refl

locked_tests : (c : ℕ) → begins_reference c ≡ true → (eqb c 43 ≡ false) × (eqb c 45 ≡ false)
locked_tests c h = (grind (arith, nat_tests), grind (arith, nat_tests))

unsigned : (cs : List ℕ) → Begins begins_reference cs → (kind_of cs ≡ anew) × (after_sign cs ≡ cs)
unsigned [] b = absurd b
unsigned (c ∷ cs) b = let t = locked_tests c b in (rw (t.0, t.1) refl, rw (t.0, t.1) refl)

kind_again : (k : LockKindTree) (names : LockedTree) (rest : List ℕ) → WellLocked names → (kind_of (spell_kind k ++ (spell_locked names ++ rest)) ≡ k) × (after_sign (spell_kind k ++ (spell_locked names ++ rest)) ≡ spell_locked names ++ rest)
kind_again anew (lock_one v) rest w = unsigned (spell_reference v ++ rest) (Begins-append begins_reference (spell_reference v) rest (reference_begins max_depth v w.0))
kind_again anew (lock_several rs) rest w = (refl, refl)
kind_again k names rest w = (refl, refl)

-- ---- arguments

pub lock_argument_takes : Takes spell_arg (WellPlain lock_argument) lock_argument_at
unfolding lock_argument_at
lock_argument_takes cs x e =
    conditioned_takes spell_locked WellLocked locked_at (locked (kind_of cs)) (IsRead spell_arg (WellPlain lock_argument) cs) (after_sign cs) x locked_takes e
    (λ a c rest p w v. (kind_parts cs ∙ ap (λ (y : List ℕ). spell_kind (kind_of cs) ++ y) p ∙ regroup (spell_kind (kind_of cs)) (spell_locked a) (spell_condition c) rest, (w, v)))
  where
    regroup : (k a c rest : List ℕ) → k ++ ((a ++ c) ++ rest) ≡ ((k ++ a) ++ c) ++ rest
    regroup k a c rest = simp append_assoc

condition_ends : (t : Option ExprTree) (rest : List ℕ) → Follows rest → OperandEnds (spell_condition t ++ rest)
condition_ends None rest s = s.0.0
condition_ends (Some e) rest s = refl

pub lock_argument_again : Again spell_arg (WellPlain lock_argument) Follows lock_argument_at
unfolding lock_argument_at
lock_argument_again (locked k names t) rest w s =
    let cs : List ℕ = spell_condition t ++ rest in
    let i = kind_again k names cs w.0 in
    let parts : ((spell_kind k ++ spell_locked names) ++ spell_condition t) ++ rest ≡ spell_kind k ++ (spell_locked names ++ cs) = simp append_assoc in
    let again = conditioned_again spell_locked WellLocked locked_at (locked k) names t rest w.1 s (locked_again names cs w.0 (condition_ends t rest s)) in
    let same : (spell_locked names ++ spell_condition t) ++ rest ≡ spell_locked names ++ cs = append_assoc (spell_locked names) (spell_condition t) rest in
    ap lock_argument_at parts ∙ rw (i.0, i.1) (ap (λ (y : List ℕ). locked_at y >>= conditioned (locked k)) (sym same) ∙ again)
lock_argument_again a rest w s = absurd w

pub lock_argument_begins : (a : ArgTree) → WellPlain lock_argument a → Begins begins_operand (spell_arg a)
lock_argument_begins (locked k names t) w = Begins-append begins_operand (spell_kind k ++ spell_locked names) (spell_condition t) (begins k names w.0)
  where
    begins : (k : LockKindTree) (names : LockedTree) → WellLocked names → Begins begins_operand (spell_kind k ++ spell_locked names)
    begins anew (lock_one v) w = Begins-weaker begins_reference begins_operand (spell_reference v) variable_begins (reference_begins max_depth v w.0)
    begins anew (lock_several rs) w = refl
    begins adding names w = refl
    begins giving_back names w = refl
lock_argument_begins a w = absurd w
