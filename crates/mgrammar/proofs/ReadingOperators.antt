-- SPDX-License-Identifier: Apache-2.0
-- What is read of signs and of an operator is spelled so, and what is spelled so is read.
use Rattle.mgrammar.proofs.GrammarWords.{◌≡◌, ℕ, Bool, true, false, cond, eqb, List, [], ◌∷◌, ◌++◌, Option, Some, None, inl, inr, refl, sym, ap, subst, ◌∙◌}
use Rattle.mgrammar.proofs.GrammarWords.{arith, ◌||◌, list_any, eqb-true, false_from_ne_true, nat_tests, SignTree, plus, minus, negate, TruthTree, equals}
use Rattle.mgrammar.proofs.GrammarWords.{follows, sorts_after, BinaryTree, multiply, is, is_not, spell_signs, spell_truth, spell_binary, ◌>>=◌, signs_of}
use Rattle.mgrammar.proofs.GrammarWords.{after_signs, found, truths, arithmetic, follows_at, times_at, truth_at, OperatorTree, between, matching, matching_not}
use Rattle.mgrammar.proofs.GrammarWords.{raising, negated_at, plain_by, operator_at, is_format}
use Rattle.mgrammar.proofs.ReadingBasics.{Stops, Begins, bind_some, chosen, some_is}

-- ---- signs

abbrev pub is_sign : ℕ → Bool
is_sign c = eqb c 43 || eqb c 45 || eqb c 39

-- as signs_parts, where the first character's tests give b, d and f
signs_parts_by : (c : ℕ) (cs : List ℕ) (b d f : Bool) → eqb c 43 ≡ b → eqb c 45 ≡ d → eqb c 39 ≡ f → cs ≡ spell_signs (signs_of cs) ++ after_signs cs
    → c ∷ cs ≡ spell_signs (cond b (plus ∷ signs_of cs) (cond d (minus ∷ signs_of cs) (cond f (negate ∷ signs_of cs) []))) ++ cond b (after_signs cs) (cond d (after_signs cs) (cond f (after_signs cs) (c ∷ cs)))
signs_parts_by c cs true d f h k l i = let at : c ≡ 43 = eqb-true _ _ h in rw at (ap (λ (x : List ℕ). 43 ∷ x) i)
signs_parts_by c cs false true f h k l i = let at : c ≡ 45 = eqb-true _ _ k in rw at (ap (λ (x : List ℕ). 45 ∷ x) i)
signs_parts_by c cs false false true h k l i = let at : c ≡ 39 = eqb-true _ _ l in rw at (ap (λ (x : List ℕ). 39 ∷ x) i)
signs_parts_by c cs false false false h k l i = refl

-- a text is its signs and what is after them
pub signs_parts : (cs : List ℕ) → cs ≡ spell_signs (signs_of cs) ++ after_signs cs
signs_parts [] = refl
signs_parts (c ∷ cs) = signs_parts_by c cs (eqb c 43) (eqb c 45) (eqb c 39) refl refl refl (signs_parts cs)

not_sign : (c : ℕ) → is_sign c ≡ false → (eqb c 43 ≡ false) × (eqb c 45 ≡ false) × (eqb c 39 ≡ false)
not_sign c h = (grind (arith, nat_tests), grind (arith, nat_tests), grind (arith, nat_tests))

pub signs_again : (ss : List SignTree) (rest : List ℕ) → Stops is_sign rest → (signs_of (spell_signs ss ++ rest) ≡ ss) × (after_signs (spell_signs ss ++ rest) ≡ rest)
signs_again [] [] s = (refl, refl)
signs_again [] (c ∷ rest) s = let n = not_sign c s in (rw (n.0, n.1, n.2) refl, rw (n.0, n.1, n.2) refl)
signs_again (plus ∷ ss) rest s = let i = signs_again ss rest s in (ap (λ (x : List SignTree). plus ∷ x) i.0, i.1)
signs_again (minus ∷ ss) rest s = let i = signs_again ss rest s in (ap (λ (x : List SignTree). minus ∷ x) i.0, i.1)
signs_again (negate ∷ ss) rest s = let i = signs_again ss rest s in (ap (λ (x : List SignTree). negate ∷ x) i.0, i.1)

-- ---- tables

-- P holds of each character with what stands beside it
abbrev Table : {A : Type 0} → (ℕ → A → Type 0) → List (ℕ × A) → Type 0
Table P [] = Unit {0}
Table P (entry ∷ entries) = P entry.0 entry.1 × Table P entries

found_is : {A : Type 0} (P : ℕ → A → Type 0) (entries : List (ℕ × A)) (c : ℕ) (a : A) → Table P entries → found entries c ≡ Some a → P c a
found_is P [] c a t e = absurd cc
found_is P (entry ∷ entries) c a t e =
    elim (chosen (eqb c entry.0) (Some entry.1) (found entries c) (Some a) e) [
      | inl p ↦
          let at : c ≡ entry.0 = eqb-true _ _ p.0 in
          let here : P c entry.1 = subst (λ (x : ℕ). P x entry.1) (sym at) t.0 in
          subst (λ (x : _). P c x) (some_is entry.1 a p.1) here
      | inr p ↦ found_is P entries c a t.1 p.1
    ]

-- ---- truth operators

abbrev TruthIs : List ℕ → TruthTree × List ℕ → Type 0
TruthIs cs x = cs ≡ spell_truth x.0 ++ x.1

follows_test : (c : ℕ) (cs : List ℕ) (b : Bool) → eqb c 93 ≡ b → TruthIs (93 ∷ c ∷ cs) (cond b (sorts_after, cs) (follows, c ∷ cs))
follows_test c cs true h = let at : c ≡ 93 = eqb-true _ _ h in rw at refl
follows_test c cs false h = refl

follows_parts : (cs : List ℕ) → TruthIs (93 ∷ cs) (follows_at cs)
follows_parts [] = refl
follows_parts (c ∷ cs) = follows_test c cs (eqb c 93) refl

truth_takes : (cs : List ℕ) (x : TruthTree × List ℕ) → truth_at cs ≡ Some x → TruthIs cs x
unfolding truth_at
truth_takes [] x e = absurd cc
truth_takes (c ∷ cs) x e =
    elim (chosen (eqb c 93) (Some (follows_at cs)) (found truths c >>= λ t. Some (t, cs)) (Some x) e) [
      | inl p ↦
          let at : c ≡ 93 = eqb-true _ _ p.0 in
          subst (TruthIs (c ∷ cs)) (some_is (follows_at cs) x p.1) (ap (λ (y : ℕ). y ∷ cs) at ∙ follows_parts cs)
      | inr p ↦
          let b = bind_some (found truths c) (λ t. Some (t, cs)) x p.1 in
          let is : spell_truth b.0 ≡ c ∷ [] = found_is (λ k t. spell_truth t ≡ k ∷ []) truths c b.0 (refl, (refl, (refl, (refl, (refl, (refl, tt)))))) b.1 in
          subst (TruthIs (c ∷ cs)) (some_is (b.0, cs) x b.2) (ap (λ (y : List ℕ). y ++ cs) (sym is))
    ]

-- a character that an operator may have twice
abbrev pub is_doubled : ℕ → Bool
is_doubled c = eqb c 93 || eqb c 42

not_doubled : (c : ℕ) → is_doubled c ≡ false → (eqb c 93 ≡ false) × (eqb c 42 ≡ false)
not_doubled c h = (grind (arith, nat_tests), grind (arith, nat_tests))

follows_again : (rest : List ℕ) → Stops is_doubled rest → follows_at rest ≡ (follows, rest)
follows_again [] s = refl
follows_again (c ∷ rest) s = rw (not_doubled c s).0 refl

truth_again : (t : TruthTree) (rest : List ℕ) → Stops is_doubled rest → truth_at (spell_truth t ++ rest) ≡ Some (t, rest)
unfolding truth_at
truth_again follows rest s = ap (λ (x : TruthTree × List ℕ). Some x) (follows_again rest s)
truth_again t rest s = refl

-- ---- operators

abbrev pub spell_operator : OperatorTree → List ℕ
spell_operator (between b) = spell_binary b
spell_operator matching = 63 ∷ []
spell_operator matching_not = 39 ∷ 63 ∷ []
spell_operator raising = 42 ∷ 42 ∷ []

abbrev OperatorIs : List ℕ → OperatorTree × List ℕ → Type 0
OperatorIs cs x = cs ≡ spell_operator x.0 ++ x.1

-- after a `'`
negated_takes : (cs : List ℕ) (x : OperatorTree × List ℕ) → negated_at cs ≡ Some x → OperatorIs (39 ∷ cs) x
negated_takes [] x e = absurd cc
negated_takes (c ∷ cs) x e =
    elim (chosen (eqb c 63) (Some (matching_not, cs)) (truth_at (c ∷ cs) >>= λ t. Some (between (is_not t.0), t.1)) (Some x) e) [
      | inl p ↦
          let at : c ≡ 63 = eqb-true _ _ p.0 in
          subst (OperatorIs (39 ∷ c ∷ cs)) (some_is (matching_not, cs) x p.1) (rw at refl)
      | inr p ↦
          let b = bind_some (truth_at (c ∷ cs)) (λ t. Some (between (is_not t.0), t.1)) x p.1 in
          let t = truth_takes (c ∷ cs) b.0 b.1 in
          subst (OperatorIs (39 ∷ c ∷ cs)) (some_is (between (is_not b.0.0), b.0.1) x b.2) (ap (λ (y : List ℕ). 39 ∷ y) t)
    ]

times_test : (c : ℕ) (cs : List ℕ) (b : Bool) → eqb c 42 ≡ b → OperatorIs (42 ∷ c ∷ cs) (cond b (raising, cs) (between multiply, c ∷ cs))
times_test c cs true h = let at : c ≡ 42 = eqb-true _ _ h in rw at refl
times_test c cs false h = refl

-- after a `*`
times_parts : (cs : List ℕ) → OperatorIs (42 ∷ cs) (times_at cs)
times_parts [] = refl
times_parts (c ∷ cs) = times_test c cs (eqb c 42) refl

-- where the first character says this by itself
plain_takes : (c : ℕ) (cs : List ℕ) (o : Option BinaryTree) (x : OperatorTree × List ℕ) → found arithmetic c ≡ o → plain_by o (c ∷ cs) ≡ Some x → OperatorIs (c ∷ cs) x
plain_takes c cs None x h e =
    let b = bind_some (truth_at (c ∷ cs)) (λ t. Some (between (is t.0), t.1)) x e in
    let t = truth_takes (c ∷ cs) b.0 b.1 in
    subst (OperatorIs (c ∷ cs)) (some_is (between (is b.0.0), b.0.1) x b.2) t
plain_takes c cs (Some b) x h e =
    let is_b : spell_binary b ≡ c ∷ [] = found_is (λ k a. spell_binary a ≡ k ∷ []) arithmetic c b (refl, (refl, (refl, (refl, (refl, (refl, tt)))))) h in
    subst (OperatorIs (c ∷ cs)) (some_is (between b, cs) x e) (ap (λ (y : List ℕ). y ++ cs) (sym is_b))

pub operator_takes : (cs : List ℕ) (x : OperatorTree × List ℕ) → operator_at cs ≡ Some x → OperatorIs cs x
unfolding operator_at
operator_takes [] x e = absurd cc
operator_takes (c ∷ cs) x e =
    elim (chosen (eqb c 39) (negated_at cs) _ (Some x) e) [
      | inl p ↦
          let at : c ≡ 39 = eqb-true _ _ p.0 in
          ap (λ (y : ℕ). y ∷ cs) at ∙ negated_takes cs x p.1
      | inr p ↦ elim (chosen (eqb c 63) (Some (matching, cs)) _ (Some x) p.1) [
        | inl q ↦
            let at : c ≡ 63 = eqb-true _ _ q.0 in
            subst (OperatorIs (c ∷ cs)) (some_is (matching, cs) x q.1) (rw at refl)
        | inr q ↦ elim (chosen (eqb c 42) (Some (times_at cs)) (plain_by (found arithmetic c) (c ∷ cs)) (Some x) q.1) [
          | inl t ↦
              let at : c ≡ 42 = eqb-true _ _ t.0 in
              subst (OperatorIs (c ∷ cs)) (some_is (times_at cs) x t.1) (ap (λ (y : ℕ). y ∷ cs) at ∙ times_parts cs)
          | inr t ↦ plain_takes c cs (found arithmetic c) x refl t.1
        ]
      ]
    ]

negated_again : (t : TruthTree) (rest : List ℕ) → Stops is_doubled rest → negated_at (spell_truth t ++ rest) ≡ Some (between (is_not t), rest)
negated_again follows rest s = rw (truth_again follows rest s) refl
negated_again t rest s = rw (truth_again t rest s) refl

is_again : (t : TruthTree) (rest : List ℕ) → Stops is_doubled rest → operator_at (spell_truth t ++ rest) ≡ Some (between (is t), rest)
unfolding operator_at
is_again follows rest s = rw (truth_again follows rest s) refl
is_again t rest s = rw (truth_again t rest s) refl

times_again : (rest : List ℕ) → Stops is_doubled rest → times_at rest ≡ (between multiply, rest)
times_again [] s = refl
times_again (c ∷ rest) s = rw (not_doubled c s).1 refl

pub operator_again : (o : OperatorTree) (rest : List ℕ) → Stops is_doubled rest → operator_at (spell_operator o ++ rest) ≡ Some (o, rest)
unfolding operator_at
operator_again (between multiply) rest s = ap (λ (x : OperatorTree × List ℕ). Some x) (times_again rest s)
operator_again (between (is t)) rest s = is_again t rest s
operator_again (between (is_not t)) rest s = negated_again t rest s
operator_again o rest s = refl

-- ---- where an operator begins

-- a character that an operator begins with
abbrev pub is_operator : ℕ → Bool
is_operator c = list_any (λ a. eqb c a) (43 ∷ 45 ∷ 42 ∷ 47 ∷ 92 ∷ 35 ∷ 95 ∷ 61 ∷ 60 ∷ 62 ∷ 91 ∷ 93 ∷ 38 ∷ 33 ∷ 39 ∷ 63 ∷ [])

truth_begins : (t : TruthTree) (rest : List ℕ) → Begins is_operator (spell_truth t ++ rest)
truth_begins equals rest = refl
truth_begins t rest = refl

pub operator_begins : (o : OperatorTree) (rest : List ℕ) → Begins is_operator (spell_operator o ++ rest)
operator_begins (between (is t)) rest = truth_begins t rest
operator_begins (between b) rest = refl
operator_begins o rest = refl

-- none of those that an operator begins with
no_such : (c : ℕ) → is_operator c ≡ false → (a : ℕ) → is_operator a ≡ true → eqb c a ≡ false
no_such c h a e = false_from_ne_true (eqb c a) (λ t. let no : ◌≡◌ {A = Bool} false true = sym h ∙ ap is_operator (eqb-true c a t) ∙ e in absurd cc)

pub no_format : (c : ℕ) → is_operator c ≡ false → is_format c ≡ false
no_format c h = rw (no_such c h 33 refl, no_such c h 35 refl) refl

pub no_match : (c : ℕ) → is_operator c ≡ false → eqb c 63 ≡ false
no_match c h = no_such c h 63 refl

not_operator : (c : ℕ) → is_operator c ≡ false → (eqb c 39 ≡ false) × (eqb c 63 ≡ false) × (eqb c 42 ≡ false) × (found arithmetic c ≡ None) × (eqb c 93 ≡ false) × (found truths c ≡ None)
not_operator c h =
    let n = no_such c h in (
      n 39 refl,
      n 63 refl,
      n 42 refl,
      rw (n 43 refl, n 45 refl, n 47 refl, n 92 refl, n 35 refl, n 95 refl) refl,
      n 93 refl,
      rw (n 61 refl, n 60 refl, n 62 refl, n 91 refl, n 38 refl, n 33 refl) refl,
    )

pub no_operator : (rest : List ℕ) → Stops is_operator rest → operator_at rest ≡ None
unfolding operator_at truth_at
no_operator [] s = refl
no_operator (c ∷ rest) s = let n = not_operator c s in rw (n.0, n.1, n.2, n.3, n.4, n.5) refl
