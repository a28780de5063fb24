-- SPDX-License-Identifier: Apache-2.0
-- What is read of a run, a name or a string is spelled so, and what is spelled so is read.
use Rattle.mgrammar.proofs.GrammarWords.{◌≡◌, ℕ, ◌<◌, ◌≤◌, Bool, true, false, cond, eqb, List, [], ◌∷◌, ◌++◌, length, Option, Some, None, ◌⊎◌, inl, inr, refl}
use Rattle.mgrammar.proofs.GrammarWords.{sym, ◌∙◌, ap, subst, arith, ◌↔◌, nat_le, ◌&&◌, ◌||◌, eqb-true, nat_tests, is_name_start, is_name_rest, is_character}
use Rattle.mgrammar.proofs.GrammarWords.{AllAre, IsName, quoted, Read, ◌>>=◌, run_of, after_run, name_at, with_front, text_from, past}

-- ---- the two laws of a reader

-- what is read is spelled by the text that was taken, and is as P says
abbrev pub IsRead : {A : Type 0} → (A → List ℕ) → (A → Type 0) → List ℕ → A × List ℕ → Type 0
IsRead spell P cs x = (cs ≡ spell x.0 ++ x.1) × P x.0

abbrev pub Takes : {A : Type 0} → (A → List ℕ) → (A → Type 0) → (List ℕ → Read A) → Type 0
Takes {A} spell P read = (cs : List ℕ) (x : A × List ℕ) → read cs ≡ Some x → IsRead spell P cs x

-- what is as P says is read from its text, before a rest that F allows
abbrev pub Again : {A : Type 0} → (A → List ℕ) → (A → Type 0) → (List ℕ → Type 0) → (List ℕ → Read A) → Type 0
Again {A} spell P F read = (x : A) (rest : List ℕ) → P x → F rest → read (spell x ++ rest) ≡ Some (x, rest)

-- what follows doesn't go on with this kind of character
abbrev pub Stops : (ℕ → Bool) → List ℕ → Type 0
Stops p [] = Unit {0}
Stops p (c ∷ cs) = p c ≡ false

pub Stops-weaker : (p q : ℕ → Bool) (rest : List ℕ) → ((c : ℕ) → p c ≡ false → q c ≡ false) → Stops p rest → Stops q rest
Stops-weaker p q [] f s = tt
Stops-weaker p q (c ∷ cs) f s = f c s

-- the first character passes the test
abbrev pub Begins : (ℕ → Bool) → List ℕ → Type 0
Begins p [] = ⊥
Begins p (c ∷ cs) = p c ≡ true

pub Begins-stops : (p q : ℕ → Bool) (cs : List ℕ) → ((c : ℕ) → p c ≡ true → q c ≡ false) → Begins p cs → Stops q cs
Begins-stops p q [] f b = absurd b
Begins-stops p q (c ∷ cs) f b = f c b

pub Begins-weaker : (p q : ℕ → Bool) (cs : List ℕ) → ((c : ℕ) → p c ≡ true → q c ≡ true) → Begins p cs → Begins q cs
Begins-weaker p q [] f b = absurd b
Begins-weaker p q (c ∷ cs) f b = f c b

pub Begins-append : (p : ℕ → Bool) (a b : List ℕ) → Begins p a → Begins p (a ++ b)
Begins-append p [] b h = absurd h
Begins-append p (c ∷ a) b h = h

pub Begins-long : (p : ℕ → Bool) (cs : List ℕ) → Begins p cs → 0 < length cs
Begins-long p [] b = absurd b
Begins-long p (c ∷ cs) b = omega arith

-- a character that would go on with a number, a name, an entry, a variable, a string or a pattern
abbrev pub goes_on : ℕ → Bool
goes_on c = is_name_rest c || eqb c 34 || eqb c 46 || eqb c 40 || eqb c 94

-- or with subscripts after an `@`
abbrev pub goes_further : ℕ → Bool
goes_further c = goes_on c || eqb c 64

-- ---- tools

-- a step that gives something had something, from which the rest goes on
pub bind_some : {A B : Type 0} (o : Option A) (f : A → Option B) (y : B) → (o >>= f) ≡ Some y → (x : A) × (o ≡ Some x) × (f x ≡ Some y)
bind_some (Some x) f y e = (x, refl, e)
bind_some None f y e = absurd cc

-- which side of a test a value is of
pub chosen : {A : Type 0} (b : Bool) (x y z : A) → cond b x y ≡ z → ((b ≡ true) × (x ≡ z)) ⊎ ((b ≡ false) × (y ≡ z))
chosen true x y z e = inl (refl, e)
chosen false x y z e = inr (refl, e)

pub some_is : {A : Type 0} (x y : A) → ◌≡◌ {A = Option A} (Some x) (Some y) → x ≡ y
some_is x y e = cc

-- what is spelled so is read as one tree, and what is read is the tree that spells it
module _ {A : Type 0} (spell : A → List ℕ) (P : A → Type 0) (read : List ℕ → Option A) (again : (x : A) → P x → read (spell x) ≡ Some x) where
  pub unique : (s t : A) → P s → P t → spell s ≡ spell t → s ≡ t
  unique s t v w e = some_is s t (sym (again s v) ∙ ap read e ∙ again t w)

  pub told : ((cs : List ℕ) (x : A) → read cs ≡ Some x → (spell x ≡ cs) × P x) → (cs : List ℕ) (x : A) → (read cs ≡ Some x) ↔ ((spell x ≡ cs) × P x)
  told takes cs x = (takes cs x, λ h. subst (λ (cs : List ℕ). read cs ≡ Some x) h.0 (again x h.1))

-- ---- runs

-- as run_parts, where the first character's test gives b
run_parts_by : (p : ℕ → Bool) (c : ℕ) (cs : List ℕ) (b : Bool) → p c ≡ b → (cs ≡ run_of p cs ++ after_run p cs) × AllAre p (run_of p cs)
    → (c ∷ cs ≡ cond b (c ∷ run_of p cs) [] ++ cond b (after_run p cs) (c ∷ cs)) × AllAre p (cond b (c ∷ run_of p cs) [])
run_parts_by p c cs true h i = (ap (λ (x : List ℕ). c ∷ x) i.0, (h, i.1))
run_parts_by p c cs false h i = (refl, tt)

-- a text is its run and what is after it
pub run_parts : (p : ℕ → Bool) (cs : List ℕ) → (cs ≡ run_of p cs ++ after_run p cs) × AllAre p (run_of p cs)
run_parts p [] = (refl, tt)
run_parts p (c ∷ cs) = run_parts_by p c cs (p c) refl (run_parts p cs)

-- characters that pass, before one that does not, are the run
pub run_again : (p : ℕ → Bool) (xs rest : List ℕ) → AllAre p xs → Stops p rest → (run_of p (xs ++ rest) ≡ xs) × (after_run p (xs ++ rest) ≡ rest)
run_again p [] [] h s = (refl, refl)
run_again p [] (c ∷ cs) h s = (rw s refl, rw s refl)
run_again p (x ∷ xs) rest h s =
    let i = run_again p xs rest h.1 s in
    (rw (h.0) (ap (λ (y : List ℕ). x ∷ y) i.0), rw (h.0) i.1)

-- ---- a character that is to come

-- the text of a character and what follows it
pub both_are : (c : ℕ) (cs : List ℕ) (a : ℕ) (bs : List ℕ) → c ≡ a → cs ≡ bs → c ∷ cs ≡ a ∷ bs
both_are c cs a bs p q = cc

pub past_takes : (a : ℕ) (cs rest : List ℕ) → past a cs ≡ Some rest → cs ≡ a ∷ rest
past_takes a [] rest e = absurd cc
past_takes a (c ∷ cs) rest e =
    elim (chosen (eqb c a) (Some cs) None (Some rest) e) [
      | inl p ↦ both_are c cs a rest (eqb-true _ _ p.0) (some_is cs rest p.1)
      | inr p ↦ absurd cc
    ]

-- this character does not come
pub not_past : (a : ℕ) (cs : List ℕ) → Stops (λ c. eqb c a) cs → past a cs ≡ None
not_past a [] s = refl
not_past a (c ∷ cs) s = rw s refl

-- ---- names

pub name_takes : Takes (λ n. n) IsName name_at
unfolding name_at
name_takes [] x e = absurd cc
name_takes (c ∷ cs) x e =
    let run = run_of is_name_rest cs in
    let after = after_run is_name_rest cs in
    let r = run_parts is_name_rest cs in
    elim (chosen (is_name_start c && nat_le (length run) 30) (Some (c ∷ run, after)) None (Some x) e) [
      | inl p ↦
          let start : is_name_start c ≡ true = grind (arith, nat_tests, p.0) in
          let short : length run ≤ 30 = grind (arith, nat_tests, p.0) in
          subst (λ (y : List ℕ × List ℕ). (c ∷ cs ≡ y.0 ++ y.1) × IsName y.0) (some_is (c ∷ run, after) x p.1) (ap (λ (y : List ℕ). c ∷ y) r.0, (start, r.1, short))
      | inr p ↦ absurd cc
    ]

pub name_again : Again (λ n. n) IsName (Stops is_name_rest) name_at
unfolding name_at
name_again [] rest h s = absurd h
name_again (c ∷ cs) rest h s =
    let i = run_again is_name_rest cs rest h.1 s in
    let t : is_name_start c && nat_le (length cs) 30 ≡ true = grind (arith, nat_tests, h.0, h.2) in
    rw (i.0, i.1, t) refl

-- ---- strings

-- a text with the quote that has just come
abbrev pub opened : Bool → List ℕ → List ℕ
opened true cs = 34 ∷ cs
opened false cs = cs

quoted_plain : (c : ℕ) (cs : List ℕ) → eqb c 34 ≡ false → quoted (c ∷ cs) ≡ c ∷ quoted cs
quoted_plain c cs h = rw h refl

-- the texts of strings that begin with a quote, and with another character
two_quotes : (c : ℕ) (cs a b : List ℕ) → c ≡ 34 → cs ≡ quoted a ++ 34 ∷ b → 34 ∷ c ∷ cs ≡ quoted (34 ∷ a) ++ 34 ∷ b
two_quotes c cs a b at e = rw (at, e) refl

one_more : (c : ℕ) (cs a b : List ℕ) → eqb c 34 ≡ false → cs ≡ quoted a ++ 34 ∷ b → c ∷ cs ≡ quoted (c ∷ a) ++ 34 ∷ b
one_more c cs a b h e = rw (quoted_plain c a h) (ap (λ (y : List ℕ). c ∷ y) e)

-- this was read of the rest of a string
abbrev TextIs : List ℕ → List ℕ × List ℕ → Type 0
TextIs cs x = (cs ≡ quoted x.0 ++ 34 ∷ x.1) × AllAre is_character x.0

pub text_takes : (q : Bool) (cs : List ℕ) (x : List ℕ × List ℕ) → text_from q cs ≡ Some x → (opened q cs ≡ quoted x.0 ++ 34 ∷ x.1) × AllAre is_character x.0
text_takes true [] x e = subst (TextIs (34 ∷ [])) (some_is ([], []) x e) (refl, tt)
text_takes true (c ∷ cs) x e =
    elim (chosen (eqb c 34) (with_front (34 ∷ []) (text_from false cs)) (Some ([], c ∷ cs)) (Some x) e) [
      | inl p ↦
          let b = bind_some (text_from false cs) (λ y. Some ((34 ∷ []) ++ y.0, y.1)) x p.1 in
          let i = text_takes false cs b.0 b.1 in
          let at : c ≡ 34 = eqb-true _ _ p.0 in
          subst (TextIs (34 ∷ c ∷ cs)) (some_is ((34 ∷ []) ++ b.0.0, b.0.1) x b.2) (two_quotes c cs b.0.0 b.0.1 at i.0, (refl, i.1))
      | inr p ↦ subst (TextIs (34 ∷ c ∷ cs)) (some_is ([], c ∷ cs) x p.1) (refl, tt)
    ]
text_takes false [] x e = absurd cc
text_takes false (c ∷ cs) x e =
    elim (chosen (eqb c 34) (text_from true cs) (cond (is_character c) (with_front (c ∷ []) (text_from false cs)) None) (Some x) e) [
      | inl p ↦
          let i = text_takes true cs x p.1 in
          let at : c ≡ 34 = eqb-true _ _ p.0 in
          (rw at i.0, i.1)
      | inr p ↦
          elim (chosen (is_character c) (with_front (c ∷ []) (text_from false cs)) None (Some x) p.1) [
            | inl r ↦
                let b = bind_some (text_from false cs) (λ y. Some ((c ∷ []) ++ y.0, y.1)) x r.1 in
                let i = text_takes false cs b.0 b.1 in
                subst (TextIs (c ∷ cs)) (some_is ((c ∷ []) ++ b.0.0, b.0.1) x b.2)
                (one_more c cs b.0.0 b.0.1 p.0 i.0, (r.0, i.1))
            | inr r ↦ absurd cc
          ]
    ]

-- as text_again, where the test for a quote gives b
text_step : (c : ℕ) (cs rest : List ℕ) (b : Bool) → eqb c 34 ≡ b → is_character c ≡ true → text_from false (quoted cs ++ 34 ∷ rest) ≡ Some (cs, rest)
    → text_from false (cond b (34 ∷ 34 ∷ quoted cs) (c ∷ quoted cs) ++ 34 ∷ rest) ≡ Some (c ∷ cs, rest)
text_step c cs rest true h k i = let at : c ≡ 34 = eqb-true _ _ h in rw (i, at) refl
text_step c cs rest false h k i = rw (h, k, i) refl

pub text_again : (t rest : List ℕ) → AllAre is_character t → Stops (λ c. eqb c 34) rest → text_from false (quoted t ++ 34 ∷ rest) ≡ Some (t, rest)
text_again [] [] h s = refl
text_again [] (c ∷ rest) h s = rw s refl
text_again (c ∷ cs) rest h s = text_step c cs rest (eqb c 34) refl h.0 (text_again cs rest h.1 s)
